-- The end of a device, step by step.
use Rattle.std.proofs.Common.{◌≡◌, ◌∙◌, ◌+◌, ℕ, suc, zero, Bool, not, true, false, List, ◌++◌, ◌∷◌, [], refl, sym, ap, cond}
use Rattle.std.specs.Prelude.{◌||◌}
use Rattle.std.specs.List.{filter, list_any}
use Rattle.std.proofs.lemmas.List.Folds.{list_any-append}
use Rattle.handle_table.specs.HandleMaps.{RiseWithin}
use Rattle.seq_model.proofs.Tellings.{told_more}
use Rattle.seq_model.specs.Histories.{History}
use Rattle.seq_model.specs.Legal.{is_flying}
use Rattle.seq_model.specs.Life.{has}
use Rattle.seq_model.specs.State.{Object, State, flights}
use Rattle.seq_model.specs.Steps.{Past, after, step}
use Rattle.seq_model.specs.Told.{told, told_by}
use Rattle.seq_model.specs.declared.calls.Entry.{Entry}
use Rattle.seq_model.specs.declared.calls.Entry.TheVariants.{Closed}
use Rattle.plain_journal.proofs.Closings.{seen_more}
use Rattle.plain_objects.proofs.Ended.{rises}
use Rattle.past_laws.proofs.FlightFacts.{flights_have}
use Rattle.plain_objects.proofs.Turns.{from, from_next, here}
use Rattle.past_laws.proofs.WorldFacts.{knows_still}
use Rattle.plain_objects.specs.Sweeping.{is_marked}
use Rattle.past_laws.specs.Worlds.{KnowsWorlds, Worlds}

-- a test of entries in turn: the one at a handle, or one of those behind it
pub any_turn : (p : ℕ × Object → Bool) (h next : ℕ) (es : List (ℕ × Object)) (first : Bool) → RiseWithin 1 next es → first ≡ list_any p (here h es) →
    list_any p (from h es) ≡ (first || list_any p (from (h + 1) es))
any_turn p h next es first up is =
    ap (list_any p) (from_next 1 h next es (rises 1 next es up)) ∙ list_any-append p (here h es) (from (h + 1) es) ∙ ap (λ t. t || list_any p (from (h + 1) es)) (sym is)

-- a flight is one of a frame, or was stopped
pub flies : (s : State) (t : ℕ) (flying : Bool) → flying ≡ is_flying s t → flying ≡ true → flying ≡ has t (flights s)
flies s t flying is there = sym (flights_have s t ∙ ap (λ b. b || has t s.stopped) (sym is ∙ there) ∙ sym there)

pub was_stopped : (s : State) (t : ℕ) (flying stopped : Bool) → flying ≡ is_flying s t → flying ≡ false → stopped ≡ has t s.stopped → stopped ≡ has t (flights s)
was_stopped s t flying stopped is absent same = same ∙ sym (flights_have s t ∙ ap (λ b. b || has t s.stopped) (sym is ∙ absent))

-- without marks nothing is marked
no_mark : (h : ℕ) → is_marked [] h ≡ false
no_mark zero = refl
no_mark (suc i) = refl

pub all_unmarked : (es : List (ℕ × Object)) → filter (λ e. not (is_marked [] e.0)) es ≡ es
all_unmarked [] = refl
all_unmarked (e ∷ es) =
    ap (λ t. cond (not t) (e ∷ filter (λ e. not (is_marked [] e.0)) es) (filter (λ e. not (is_marked [] e.0)) es)) (no_mark e.0) ∙ ap (λ rest. e ∷ rest) (all_unmarked es)

-- a close is no build
pub knows_closed : (history : History) (worlds : Worlds) → KnowsWorlds history worlds → KnowsWorlds (history ++ Closed ∷ []) worlds
knows_closed history worlds knows = knows_still history Closed worlds refl (λ objects. refl) knows

-- what is told goes on with what the next entry tells
pub told_on : (now : Past) (e : Entry) → now ≡ after now.seen → told now.seen ++ told_by now e ≡ told (step now e).seen
told_on now e led = ap (λ (p : Past). told now.seen ++ told_by p e) led ∙ sym (told_more now.seen e) ∙ ap told (sym (seen_more now e))
