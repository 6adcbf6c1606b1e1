-- A flight that finishes, and one that leaves, with all that goes then.
use Rattle.std.proofs.Common.{◌≡◌, ◌∙◌, ◌-◌, ◌*◌, ◌==◌, not, ℕ, true, ◌++◌, ◌∷◌, [], length, refl, ap, arith, Result, Ok, Err, OnOk, OnErr, subst, sym}
use Rattle.std.specs.List.{filter}
use Rattle.std.proofs.lemmas.List.{length-map}
use Rattle.seq_model.specs.Legal.{is_flying}
use Rattle.seq_model.specs.Life.{has}
use Rattle.seq_model.specs.State.{Phase, Done, Empty, State, flights}
use Rattle.seq_model.specs.Steps.{Past, change, end_flight, end_flights, step}
use Rattle.seq_model.specs.declared.calls.Entry.{Entry}
use Rattle.seq_model.specs.declared.calls.Call.{Call}
use Rattle.seq_model.specs.declared.calls.Entry.TheVariants.{Called, Finished, Left}
use Rattle.seq_model.specs.declared.calls.Reply.{Reply}
use Rattle.plain_journal.proofs.Closings.{seen_more}
use Rattle.plain_journal.proofs.Legality.{finished_is_legal}
use Rattle.past_laws.proofs.OpenFacts.{called_is_open}
use Rattle.plain_journal.proofs.StepFacts.{finish_is_note, leave_is_note, note_stepped, was_unseen}
use Rattle.plain_journal.specs.Booked.{IsMarked, IsNoted}
use Rattle.plain_journal.specs.Unseen.{IsUnseen}
use Rattle.past_laws.specs.Open.{IsOpen}
use Rattle.plain_journal.specs.Whole.{IsStepped, IsWhole, changed_in_past, past_in, swept_by}
use Rattle.plain_journal.specs.declared.books.Books.{Books}

-- the end of flights takes no object away
pub as_many : (t : ℕ) (phase : Phase) (s : State) → length (end_flights t phase s).objects ≡ length s.objects
unfolding end_flights
as_many t phase s = length-map s.objects (λ entry. (entry.0, end_flight t phase entry.1))

pub same_next : (t : ℕ) (phase : Phase) (s : State) → (end_flights t phase s).next ≡ s.next
unfolding end_flights
same_next t phase s = refl

-- two marks for each handle
pub marks_fit : (stage : State) (old new : Books) (e : Entry) (next : ℕ) → IsWhole stage old → IsNoted e old new → next ≡ stage.next → length new.marks.items ≡ 2 * (next - 1)
marks_fit stage old new e next whole noted same = omega (arith, ap length noted.marks, whole.marks, whole.kept.handles, same)

finish_changes : (stage : State) (old : Books) (t : ℕ) → end_flights t (Done t) stage ≡ changed_in_past stage old (Finished t)
unfolding change
finish_changes stage old t = refl

leave_changes : (stage : State) (old : Books) (t : ℕ) (mid : State) → mid ≡ end_flights t Empty stage →
    record mid { stopped = filter (λ u. not (u == t)) mid.stopped } ≡ changed_in_past stage old (Left t)
unfolding change end_flights
leave_changes stage old t mid is = ap (λ (s : State). record s { stopped = filter (λ u. not (u == t)) s.stopped }) is

-- a flight that finishes
pub finish_stepped : (stage : State) (old new final : Books) (t : ℕ) (mid left : State) → IsWhole stage old → IsOpen old.journal.items → is_flying stage t ≡ true →
    IsNoted (Finished t) old new → IsMarked new final → mid ≡ end_flights t (Done t) stage → left ≡ swept_by new mid → IsStepped stage old (Finished t) left final × (mid ≡ changed_in_past stage old (Finished t))
finish_stepped stage old new final t mid left whole open_ flies noted marked changed is =
    let unseen : IsUnseen (old.journal.items ++ Finished t ∷ []) = finished_is_legal (past_in stage old) t whole.kept.led (was_unseen stage old whole) open_ flies in
    let now : mid ≡ changed_in_past stage old (Finished t) = changed ∙ finish_changes stage old t in
    (note_stepped stage old new final (Finished t) mid left whole noted (finish_is_note stage old t flies) marked unseen now is refl, now)

-- a flight that leaves
pub leave_stepped : (stage : State) (old new final : Books) (t : ℕ) (mid changed left : State) → IsWhole stage old → IsUnseen (old.journal.items ++ Left t ∷ []) → has t (flights stage) ≡ true →
    IsNoted (Left t) old new → IsMarked new final → mid ≡ end_flights t Empty stage → changed ≡ record mid { stopped = filter (λ u. not (u == t)) mid.stopped } → left ≡ swept_by new changed →
    IsStepped stage old (Left t) left final × (changed ≡ changed_in_past stage old (Left t))
leave_stepped stage old new final t mid changed left whole unseen there noted marked ended let_go is =
    let now : changed ≡ changed_in_past stage old (Left t) = let_go ∙ leave_changes stage old t mid ended in
    (note_stepped stage old new final (Left t) changed left whole noted (leave_is_note stage old t there) marked unseen now is refl, now)

-- after a call, entered or not, a device is as open as before
pub open_after : {E : Type 0} (past new : Past) (actor : ℕ) (call : Call) (reply : Reply) (result : Result (Unit {0}) E) → IsOpen past.seen →
    OnOk result (new ≡ step past (Called actor call reply)) → OnErr result (new ≡ past) → IsOpen new.seen
open_after past new actor call reply (Ok done) open_ entered same = subst IsOpen (sym (ap (λ (p : Past). p.seen) entered ∙ seen_more past (Called actor call reply))) (called_is_open past open_ actor call reply)
open_after past new actor call reply (Err refused) open_ entered same = subst IsOpen (sym (ap (λ (p : Past). p.seen) same)) open_
