-- How a device ends on whose flights nobody has worked: each leaves, by rising ticket.
use Rattle.std.proofs.Common.{◌≡◌, ◌∙◌, ◌++◌, ◌≤◌, ℕ, List, [], ◌∷◌, length, map, arith, refl, sym, ap, subst}
use Rattle.std.specs.List.{AllByRecursion, slice_get}
use Rattle.std.specs.Option.{MatchOption}
use Rattle.frame_future.specs.Flights.{Flying, awaited}
use Rattle.frame_future.specs.Future.{IsKept}
use Rattle.seq_model.proofs.Afters.{frame_within}
use Rattle.seq_model.specs.Endings.{ended, open_flights}
use Rattle.seq_model.specs.Histories.{History}
use Rattle.seq_model.specs.Life.{has}
use Rattle.seq_model.specs.Steps.{after}
use Rattle.seq_model.specs.declared.calls.Entry.TheVariants.{Closed, Left}
use Rattle.device_laws.specs.Flown.{IsRun, runs_of, tickets_in}
use Rattle.device_parts.specs.AllParts.{AreParts}
use Rattle.device_parts.specs.Sweeps.{showing}
use Rattle.device_core.specs.Finishing.{Halts, IsFirstLook}
use Rattle.device_core.specs.States.{Device}
use Rattle.solo_device.specs.Untouched.{AreUntouched}
use Rattle.solo_device.proofs.HaltFacts.{all_gone, all_noted}
use Rattle.solo_device.proofs.OpenFacts.{ended_is, flights_in_order}
use Rattle.solo_device.proofs.StepFacts.{flown, swept_history, swept_untouched}
use Rattle.solo_device.proofs.SweptFacts.{all_tickets_stay}

-- the tickets of flights
abbrev tickets_of : List Flying → List ℕ
tickets_of fs = map (λ f. f.ticket) fs

tickets_of_runs : (fs : List Flying) → tickets_in (runs_of fs) ≡ tickets_of fs
tickets_of_runs [] = refl
tickets_of_runs (f ∷ fs) = ap (λ ts. f.ticket ∷ ts) (tickets_of_runs fs)

notes_of_tickets : (fs : List Flying) → map (λ f. Left f.ticket) fs ≡ map Left (tickets_of fs)
notes_of_tickets [] = refl
notes_of_tickets (f ∷ fs) = ap (λ es. Left f.ticket ∷ es) (notes_of_tickets fs)

-- each is the place of a render
first_tickets : (history : History) (fs : List Flying) → AllByRecursion (IsRun history) (runs_of fs) → AllByRecursion (λ t. 1 ≤ t) (tickets_of fs)
first_tickets history [] each = tt
first_tickets history (f ∷ fs) each =
    (let first = (frame_within history f.ticket f.frame each.0.frame).0 in omega (arith, first), first_tickets history fs each.1)

early_tickets : (history : History) (fs : List Flying) → AllByRecursion (IsRun history) (runs_of fs) → AllByRecursion (λ t. t ≤ length history) (tickets_of fs)
early_tickets history [] each = tt
early_tickets history (f ∷ fs) each = ((frame_within history f.ticket f.frame each.0.frame).1, early_tickets history fs each.1)

module _ (old left : Device) (halts : Halts old left) (parts : AreParts old.parts) (kept : IsKept old.parts.flights.future) (all : AreUntouched (flown old)) where
  swept_all : AreUntouched (flown halts.swept)
  swept_all = swept_untouched old halts.swept halts.first all

  swept_tickets : tickets_of (flown halts.swept) ≡ tickets_of (flown old)
  swept_tickets =
      all_tickets_stay old.parts.flights (showing halts.first.parts.pictures halts.swept.parts.flights) old.parts.history halts.swept.parts.history halts.first.parts.flights all

  in_order : open_flights (after old.parts.history) ≡ tickets_of (flown old)
  in_order =
      flights_in_order old.parts.history (tickets_of (flown old)) kept.rising
      (first_tickets old.parts.history (flown old) parts.flown.each) (early_tickets old.parts.history (flown old) parts.flown.each)
      (λ t. parts.flown.tickets t ∙ ap (has t) (tickets_of_runs (flown old)))

  left_history : left.parts.history ≡ old.parts.history ++ map Left (tickets_of (flown old))
  left_history =
      all_noted halts.swept.parts.flights halts.stopped.parts.flights (showing halts.second.parts.pictures left.parts.flights) halts.stopped.parts.history left.parts.history
      swept_all halts.stops halts.second.parts.flights
      ∙ (λ i. stopped_history i ++ (notes_of_tickets (flown halts.swept) ∙ ap (map Left) swept_tickets) i)
    where
      stopped_history : halts.stopped.parts.history ≡ old.parts.history
      stopped_history = ap (λ (d : Device). d.parts.history) halts.rest ∙ swept_history old halts.swept halts.first all

  pub ended_history : left.parts.history ++ Closed ∷ [] ≡ (ended (after old.parts.history)).seen
  ended_history =
      ap (λ (h : History). h ++ Closed ∷ []) left_history ∙ sym (ended_is old.parts.history (tickets_of (flown old)) in_order)

  -- so no flight is left open
  pub none_open : (given claimed : ℕ) → IsFirstLook left given claimed → ⊥
  none_open given claimed look =
      subst (λ fs. MatchOption (slice_get fs 0) ⊥ (λ f. (f.looked ≡ given) × (awaited f ≡ claimed)))
      (all_gone halts.swept.parts.flights halts.stopped.parts.flights (showing halts.second.parts.pictures left.parts.flights) halts.stopped.parts.history left.parts.history
      swept_all halts.stops halts.second.parts.flights) look
