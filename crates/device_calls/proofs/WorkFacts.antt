-- What is answered to whoever asks the flights for work.
use Rattle.std.proofs.Common.{◌≡◌, ◌∙◌, ◌||◌, ◌==◌, ◌++◌, ℕ, zero, suc, Bool, true, false, List, [], ◌∷◌, Some, Result, Ok, Err, map, refl, sym, ap, subst}
use Rattle.std.specs.Prelude.{IfOk, slice_set}
use Rattle.std.specs.List.{slice_get}
use Rattle.dev_types.specs.declared.handles.NoMemory.{NoMemory as NoRoom}
use Rattle.std.proofs.lemmas.Bool.{eq-eqb}
use Rattle.device_core.specs.States.{Device}
use Rattle.device_core.specs.Sweeping.{TellsOn, Works}
use Rattle.device_laws.specs.Flown.{runs_of, tickets_in}
use Rattle.device_parts.specs.AllParts.{AreParts, Inside}
use Rattle.device_parts.specs.Works.{AsksFlights}
use Rattle.device_parts.specs.declared.works.Handout.{Handout}
use Rattle.device_parts.specs.declared.works.Handout.TheVariants as handout
use Rattle.frame_future.specs.Flights.{Flying}
use Rattle.seq_model.specs.Histories.{History}
use Rattle.seq_model.specs.Life.{has}
use Rattle.seq_model.specs.Pictures.{scene_at}
use Rattle.seq_model.specs.State.{flights}
use Rattle.seq_model.specs.Steps.{after}
use Rattle.seq_model.specs.Told.{told}
use Rattle.tile_claims.specs.Parts.{scene_of}
use Rattle.tile_claims.specs.Seats.{IsSeatOf, key_of, view}
use Rattle.tile_claims.specs.Views.{claiming, giving}
use Rattle.tile_claims.specs.declared.view.View.{View}
use Rattle.world_snapshot.specs.declared.works.Work.{Work}
use Rattle.device_calls.specs.Holds.{AddsNotes}
use Rattle.device_calls.specs.Working.{HasGiven, IsHandout, IsWork}
use Rattle.device_calls.proofs.HoldFacts.{sweep_adds}

-- the flights are those of the history
runs_tickets : (fs : List Flying) → tickets_in (runs_of fs) ≡ map (λ f. f.ticket) fs
runs_tickets [] = refl
runs_tickets (f ∷ fs) = ap (λ ts. f.ticket ∷ ts) (runs_tickets fs)

tickets_are : (i : Inside) → AreParts i → (t : ℕ) → has t (flights (after i.history).state) ≡ has t (map (λ f. f.ticket) i.flights.future.flights)
tickets_are i p t = p.flown.tickets t ∙ ap (has t) (runs_tickets i.flights.future.flights)

or_true : (b : Bool) → (b || true) ≡ true
or_true true = refl
or_true false = refl

has_at : (fs : List Flying) (k : ℕ) (f : Flying) → slice_get fs k ≡ Some f → has f.ticket (map (λ g. g.ticket) fs) ≡ true
has_at [] zero f is = absurd cc
has_at [] (suc k) f is = absurd cc
has_at (g ∷ gs) zero f is =
    let same : g ≡ f = cc in ap (λ b. b || has f.ticket (map (λ g. g.ticket) gs)) (eq-eqb g.ticket f.ticket (ap (λ (f : Flying). f.ticket) same))
has_at (g ∷ gs) (suc k) f is = ap (λ b. (g.ticket == f.ticket) || b) (has_at gs k f is) ∙ or_true (g.ticket == f.ticket)

-- a flight that changes keeps its ticket
set_tickets : (fs : List Flying) (k : ℕ) (f g : Flying) → slice_get fs k ≡ Some f → g.ticket ≡ f.ticket → map (λ h. h.ticket) (slice_set fs k g) ≡ map (λ h. h.ticket) fs
set_tickets [] k f g there same = refl
set_tickets (h ∷ hs) zero f g there same =
    let is : h ≡ f = cc in ap (λ t. t ∷ map (λ (h : Flying). h.ticket) hs) (same ∙ ap (λ (f : Flying). f.ticket) (sym is))
set_tickets (h ∷ hs) (suc k) f g there same = ap (λ ts. h.ticket ∷ ts) (set_tickets hs k f g there same)

-- the history is that of the sweep
worked_history : (result : Result Handout NoRoom) (old new : Device) (w : Works result old new) → new.parts.history ≡ w.swept.parts.history
worked_history result old new w = ap (λ (i : Inside). i.history) w.taken.rest

pub works_add : (result : Result Handout NoRoom) (old new : Device) → Works result old new → AddsNotes old.parts.history new.parts.history
works_add result old new w =
    let swept = sweep_adds old w.swept w.sweep in (swept.0, worked_history result old new w ∙ swept.1, swept.2)

pub works_tell : (result : Result Handout NoRoom) (old new : Device) → Works result old new → TellsOn old new
works_tell result old new w before is =
    ap (λ (d : Device). d.told) w.rest ∙ w.sweep.told before is ∙ ap (λ h. before ++ told h) (sym (worked_history result old new w))

pub works_limit : (result : Result Handout NoRoom) (old new : Device) → Works result old new → new.limit ≡ old.limit
works_limit result old new w = ap (λ (d : Device). d.limit) w.rest ∙ w.sweep.limit

pub works_going : (result : Result Handout NoRoom) (old new : Device) → Works result old new → old.ending ≡ false → new.ending ≡ false
works_going result old new w going = ap (λ (d : Device). d.ending) w.rest ∙ w.sweep.ending ∙ going

work_of : (ticket : ℕ) (work : Work) (old new : Device) → AreParts new.parts → Works (Ok (handout.Work ticket work)) old new → IsWork new.parts.history ticket work
work_of ticket work old new parts w =
    let asked = subst (λ t. AsksFlights t w.swept.parts new.parts) w.taken.answer w.taken.asked in
    let moves = asked.1.asked in
    let from = moves.moves.1 in
    let between = asked.1.between.flights.future.flights in
    let tickets : map (λ f. f.ticket) new.parts.flights.future.flights ≡ map (λ f. f.ticket) between =
    ap (map (λ (f : Flying). f.ticket)) moves.flights ∙ set_tickets between asked.0 moves.before moves.after moves.there (ap (λ (f : Flying). f.ticket) from.now) in
    record {
      flies = tickets_are new.parts parts ticket ∙ ap (has ticket) tickets ∙ ap (λ t. has t (map (λ f. f.ticket) between)) moves.moves.0
          ∙ has_at between asked.0 moves.before moves.there;
      seat = from.seat;
      key = from.key;
      scene = from.scene ∙ (λ i. scene_at (sym (worked_history (Ok (handout.Work ticket work)) old new w) i) (sym moves.moves.0 i));
      within = from.within;
      idle = ap (λ (v : View). v.opened) from.fresh;
      in_time = ap (λ (v : View). v.late) from.fresh;
      none_given = ap (λ (v : View). v.given) from.fresh;
    }

pub works_handout : (result : Result Handout NoRoom) (old new : Device) → AreParts new.parts → Works result old new → IfOk result (IsHandout new.parts.history)
works_handout (Ok (handout.Work t work)) old new parts w =
    work_of t work old new parts w
works_handout (Ok (handout.Idle idle)) old new parts w = λ t. ap (has t) w.taken.answer.1 ∙ sym (tickets_are new.parts parts t)
works_handout (Err e) old new parts w = tt

-- a tile that was claimed and given
pub gave_one : (old claimed gave : View) (tile : ℕ) (given : ℕ) → claimed ≡ claiming old tile → gave ≡ giving claimed given → (t : ℕ) × (gave.given ≡ t ∷ old.given)
gave_one old claimed gave tile given claims gives =
    (given, ap (λ (v : View). v.given) gives ∙ ap (λ (v : View). given ∷ v.given) claims)

pub has_given : (history : History) (ticket : ℕ) (work now : Work) → IsWork history ticket work → now ≡ record work { seat = now.seat } → IsSeatOf now.claims now.seat
    → (tile : ℕ) × ((view now.seat).given ≡ tile ∷ (view work.seat).given) → HasGiven history ticket now.seat
has_given history ticket work now is rest seat gave = record {
  flies = is.flies;
  claims = now.claims;
  of_claims = seat;
  scene = ap (λ (w : Work). scene_of (key_of w.claims)) rest ∙ is.key ∙ is.scene;
  tile = gave.0;
  one = gave.1 ∙ ap (λ l. gave.0 ∷ l) is.none_given;
}
