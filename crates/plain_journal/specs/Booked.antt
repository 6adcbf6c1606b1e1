-- What a device keeps beside its objects, and room for more.
use Rattle.std.specs.Prelude.{◌≡◌, ℕ, ◌+◌, ◌-◌, ◌*◌, ◌^◌, ◌<◌, ◌≤◌, ◌++◌, ◌∷◌, [], None, cond, length, vec_capacity}
use Rattle.std.specs.Option.{option_map}
use Rattle.seq_model.specs.Histories.{is_making, is_releasing, is_retaining, History}
use Rattle.seq_model.specs.Steps.{after}
use Rattle.seq_model.specs.declared.calls.Call.{Call}
use Rattle.seq_model.specs.declared.calls.Entry.{Entry}
use Rattle.seq_model.specs.declared.calls.Entry.TheVariants.{Called}
use Rattle.seq_model.specs.declared.calls.Reply.{Reply}
use Rattle.past_laws.specs.Making.{handles_made}
use Rattle.plain_objects.specs.Counts.{count_at}
use Rattle.past_laws.specs.Prepared.{world_reach}
use Rattle.plain_journal.specs.Uses.{FitsWorld}
use Rattle.plain_journal.specs.declared.prepared.Prepared.{Prepared}
use Rattle.past_laws.specs.Worlds.{HasRoom, KnowsWorlds, render_of}
use Rattle.plain_journal.specs.declared.books.Books.{Books}

-- there is room for one more entry, for a render, and for a handle
pub record HasSpace (books : Books) : Type 0 where
  pub journal : length books.journal.items + 1 ≤ vec_capacity books.journal
  pub reached : length books.reached.items + 1 ≤ vec_capacity books.reached
  pub held : length books.held.items + 1 ≤ vec_capacity books.held
  pub renders : length books.renders.items + 1 ≤ vec_capacity books.renders
  pub marks : length books.marks.items + 2 ≤ vec_capacity books.marks
  pub worlds : HasRoom books.worlds

-- nothing changed but that there may be more room
pub record IsSame (old new : Books) : Type 0 where
  pub journal : new.journal.items ≡ old.journal.items
  pub reached : new.reached.items ≡ old.reached.items
  pub held : new.held.items ≡ old.held.items
  pub renders : new.renders.items ≡ old.renders.items
  pub marks : new.marks.items ≡ old.marks.items
  pub worlds : (history : History) → KnowsWorlds history old.worlds → KnowsWorlds history new.worlds
  pub space : vec_capacity old.journal ≤ vec_capacity new.journal

-- the books with a call that renders nothing
pub record IsCalled (actor : ℕ) (c : Call) (r : Reply) (old new : Books) : Type 0 where
  pub journal : new.journal.items ≡ old.journal.items ++ Called actor c r ∷ []
  pub reached : new.reached.items ≡ old.reached.items
  pub moved : (h : ℕ) → count_at new.held.items h + cond (is_releasing h (Called actor c r)) 1 0 ≡ count_at old.held.items h + cond (is_making h (Called actor c r)) 1 0 + cond (is_retaining h (Called actor c r)) 1 0
  pub handles : length new.held.items ≡ length old.held.items + handles_made c r
  pub renders : new.renders.items ≡ old.renders.items
  pub worlds : (history : History) → length history < 2 ^ 64 - 1 → FitsWorld (after history).state c r None [] → KnowsWorlds history old.worlds → KnowsWorlds (history ++ Called actor c r ∷ []) new.worlds
  pub marks : length new.marks.items ≡ length old.marks.items + 2 * handles_made c r
  pub space : vec_capacity new.journal ≡ vec_capacity old.journal

-- the books with a render that was done
pub record IsRendered (actor f : ℕ) (p : Prepared) (old new : Books) : Type 0 where
  pub journal : new.journal.items ≡ old.journal.items ++ render_of actor f ∷ []
  pub reached : new.reached.items ≡ old.reached.items ++ (length old.journal.items + 1, p.reach.items) ∷ []
  pub held : new.held.items ≡ old.held.items
  pub renders : new.renders.items ≡ old.renders.items ++ record { ticket = length old.journal.items + 1; scene = p.scene; channels = p.channels } ∷ []
  pub worlds : (history : History) → length history < 2 ^ 64 - 1 → option_map (λ w. (w.0, w.1.items)) p.world ≡ world_reach (after history).state f → KnowsWorlds history old.worlds →
      KnowsWorlds (history ++ render_of actor f ∷ []) new.worlds
  pub marks : new.marks.items ≡ old.marks.items
  pub space : vec_capacity new.journal ≡ vec_capacity old.journal

-- the books with a note
pub record IsNoted (e : Entry) (old new : Books) : Type 0 where
  pub journal : new.journal.items ≡ old.journal.items ++ e ∷ []
  pub reached : new.reached.items ≡ old.reached.items
  pub held : new.held.items ≡ old.held.items
  pub renders : new.renders.items ≡ old.renders.items
  pub worlds : new.worlds ≡ old.worlds
  pub marks : new.marks.items ≡ old.marks.items
  pub space : vec_capacity new.journal ≡ vec_capacity old.journal

-- the books with other marks, as many
pub record IsMarked (old new : Books) : Type 0 where
  pub journal : new.journal ≡ old.journal
  pub reached : new.reached ≡ old.reached
  pub held : new.held ≡ old.held
  pub renders : new.renders ≡ old.renders
  pub worlds : new.worlds ≡ old.worlds
  pub marks : length new.marks.items ≡ length old.marks.items
