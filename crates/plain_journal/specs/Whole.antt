-- What a record keeps in all its parts.
use Rattle.std.specs.Prelude.{◌≡◌, ℕ, ◌+◌, ◌*◌, ◌≤◌, ◌++◌, ◌∷◌, [], cond, length, vec_capacity}
use Rattle.std.specs.List.{filter_map}
use Rattle.seq_model.specs.Histories.{is_making, is_releasing, is_retaining, rendered}
use Rattle.seq_model.specs.Life.{is_root, live}
use Rattle.seq_model.specs.State.{State, flights}
use Rattle.seq_model.specs.Steps.{step, Past, change, is_reached, next_place, with_reach}
use Rattle.seq_model.specs.Told.{end_of_object, gone, status_at, told_by}
use Rattle.seq_model.specs.declared.calls.Entry.{Entry}
use Rattle.plain_objects.specs.Counts.{count_at}
use Rattle.plain_journal.specs.Kept.{IsKept, KnowsRenders}
use Rattle.past_laws.specs.Worlds.{KnowsWorlds}
use Rattle.plain_journal.specs.declared.books.Books.{Books}

-- the past that objects and books tell
abbrev pub past_in : State → Books → Past
past_in stage books = record { seen = books.journal.items; state = stage; reached = books.reached.items }

-- all that is kept is right, and there is room for the notes that end it
pub record IsWhole (stage : State) (books : Books) : Type 0 where
  pub kept : IsKept (past_in stage books) books.held.items books.renders.items
  pub worlds : KnowsWorlds books.journal.items books.worlds
  pub marks : length books.marks.items ≡ 2 * length books.held.items
  pub room : length books.journal.items + length (flights stage) + 1 ≤ vec_capacity books.journal

-- the objects that an entry leaves, before those that do not live are gone
abbrev pub changed_in_past : State → Books → Entry → State
changed_in_past stage books e = change (next_place (past_in stage books)) e stage

-- the objects with those that live by the counts and the reaches of these books
abbrev pub swept_by : Books → State → State
swept_by books s = record s { objects = live (is_root (count_at books.held.items) (is_reached books.reached.items s)) s.objects }

-- the books say one entry more, which changes the objects of this stage
pub record IsEntered (stage : State) (old : Books) (e : Entry) (new : Books) : Type 0 where
  pub journal : new.journal.items ≡ old.journal.items ++ e ∷ []
  pub reached : new.reached.items ≡ with_reach (next_place (past_in stage old)) (rendered e) stage old.reached.items
  pub counted : (h : ℕ) → count_at new.held.items h + cond (is_releasing h e) 1 0 ≡ count_at old.held.items h + cond (is_making h e) 1 0 + cond (is_retaining h e) 1 0
  pub handles : length new.held.items + 1 ≡ (changed_in_past stage old e).next
  pub renders : KnowsRenders new.journal.items new.renders.items
  pub worlds : KnowsWorlds new.journal.items new.worlds
  pub marks : length new.marks.items ≡ 2 * length new.held.items
  pub room : length new.journal.items + length (flights (changed_in_past stage old e)) + 1 ≤ vec_capacity new.journal

-- the objects and the books after an entry
pub record IsStepped (stage : State) (old : Books) (e : Entry) (left : State) (new : Books) : Type 0 where
  pub past : past_in left new ≡ step (past_in stage old) e
  pub whole : IsWhole left new
  pub told : status_at e ++ filter_map end_of_object (gone (changed_in_past stage old e) left) ≡ told_by (past_in stage old) e
