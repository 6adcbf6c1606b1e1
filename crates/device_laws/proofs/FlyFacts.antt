-- The flights that are kept are those of the history, entry by entry.
use Rattle.std.proofs.Common.{ℕ, ◌+◌, ◌≡◌, false, List, [], ◌∷◌, ◌++◌, None, Some, map, length, sym, subst}
use Rattle.flight_books.specs.Sweeps.{note_of_end}
use Rattle.frame_future.specs.Flights.{Flying, is_stopped}
use Rattle.frame_future.specs.Future.{Future, IsDiscarded, IsKept, Rising, flight_of, with_flight}
use Rattle.frame_future.specs.Reads.{AreSeen}
use Rattle.frame_future.specs.declared.phase.Ended.{Ended}
use Rattle.past_laws.specs.Worlds.{render_of}
use Rattle.seq_model.specs.Histories.{History}
use Rattle.seq_model.specs.Legal.{Legal}
use Rattle.seq_model.specs.declared.calls.Call.TheVariants.{DiscardFrame}
use Rattle.seq_model.specs.declared.calls.Entry.{Entry}
use Rattle.seq_model.specs.declared.calls.Entry.TheVariants.{Called}
use Rattle.seq_model.specs.declared.calls.Reply.TheVariants as reply
use Rattle.device_laws.proofs.CallFacts.{render_runs}
use Rattle.device_laws.proofs.FlownFacts.{discard_stops, others_keep, render_adds}
use Rattle.device_laws.proofs.FramesStandFacts.{fewer_kept, looked_runs}
use Rattle.device_laws.proofs.FutureFacts.{discarded_runs}
use Rattle.device_laws.proofs.NoteFacts.{IsWithout, ended, ended_apart, ended_note, ended_without}
use Rattle.device_laws.proofs.SweepFacts.{one_noted}
use Rattle.device_laws.specs.FlightMoves.{moves_flights}
use Rattle.device_laws.specs.Flown.{Flown, IsNoted, LetsNotes, run_of, runs_of}
use Rattle.device_laws.specs.FramesStand.{without_pictures}

-- pictures are no flights
same_flights : (P : List Flying → Type 0) (s : Future) (dead : List ℕ) → P s.flights → P (without_pictures s dead).flights
same_flights P s dead is = subst P (sym (fewer_kept s dead).0) is

pub looked_flown : (history : History) (last : ℕ) (old new : Future) → AreSeen last old new None → Flown history (runs_of old.flights) → Flown history (runs_of new.flights)
looked_flown history last old new s flown = subst (Flown history) (looked_runs last old new s) flown

pub note_flown : (history : History) (last : ℕ) (old looked : Future) (e : Ended) (dead : List ℕ) → Legal history → LetsNotes history → Rising (map (λ f. f.ticket) old.flights) →
    AreSeen last old looked (Some e) → Flown history (runs_of old.flights) → IsNoted (history ++ note_of_end e ∷ []) (runs_of (without_pictures looked dead).flights)
note_flown history last old looked e dead legal lets rising s flown =
    same_flights (λ fs. IsNoted (history ++ note_of_end e ∷ []) (runs_of fs)) looked dead
    (subst (IsNoted (history ++ note_of_end e ∷ [])) (sym w.rest)
    (subst (λ n. IsNoted (history ++ n ∷ []) (w.before ++ w.behind)) (ended_note last old looked e s)
    (one_noted history w.before (run_of f) w.behind legal lets (ended_apart last old looked e s rising) (subst (Flown history) w.there flown))))
  where
    f : Flying
    f = ended last old looked e s

    w : IsWithout (runs_of old.flights) (runs_of looked.flights) (run_of f)
    w = ended_without last old looked e s

pub call_flown : (history : History) (e : Entry) (s : Future) (dead : List ℕ) → Legal (history ++ e ∷ []) → moves_flights e ≡ false → Flown history (runs_of s.flights) →
    Flown (history ++ e ∷ []) (runs_of (without_pictures s dead).flights)
call_flown history e s dead legal still flown = same_flights (λ fs. Flown (history ++ e ∷ []) (runs_of fs)) s dead (others_keep history e (runs_of s.flights) legal still flown)

pub render_flown : (history : History) (actor : ℕ) (s : Future) (flight : Flying) (dead : List ℕ) → Legal (history ++ render_of actor flight.frame ∷ []) → flight.ticket ≡ length history + 1 → is_stopped flight ≡ false →
    Flown history (runs_of s.flights) → Flown (history ++ render_of actor flight.frame ∷ []) (runs_of (without_pictures (with_flight s flight) dead).flights)
render_flown history actor s flight dead legal ticket going flown =
    same_flights (λ fs. Flown (history ++ render_of actor flight.frame ∷ []) (runs_of fs)) (with_flight s flight) dead
    (subst (Flown (history ++ render_of actor flight.frame ∷ [])) (sym (render_runs s flight (length history + 1) ticket going))
    (render_adds history actor flight.frame (runs_of s.flights) legal flown))

pub discard_flown : (history : History) (actor f : ℕ) (old new : Future) (dead : List ℕ) → Legal (history ++ Called actor (DiscardFrame f) reply.Done ∷ []) → IsKept old →
    IsDiscarded f old new (flight_of old f) → Flown history (runs_of old.flights) → Flown (history ++ Called actor (DiscardFrame f) reply.Done ∷ []) (runs_of (without_pictures new dead).flights)
discard_flown history actor f old new dead legal kept discarded flown =
    same_flights (λ fs. Flown (history ++ Called actor (DiscardFrame f) reply.Done ∷ []) (runs_of fs)) new dead
    (subst (Flown (history ++ Called actor (DiscardFrame f) reply.Done ∷ [])) (sym (discarded_runs f old new kept discarded).0)
    (discard_stops history actor f (runs_of old.flights) legal flown))
