-- The renders whose flights are gone, as entries are added to a history.
use Rattle.std.proofs.Common.{ℕ, zero, suc, ◌+◌, ◌==◌, ◌≡◌, ◌<◌, ◌≤◌, ◌∙◌, ◌⊎◌, inl, inr, not, Bool, true, false, List, [], ◌∷◌, ◌++◌, Option, None, Some, length, refl, sym, ap, arith}
use Rattle.std.specs.Prelude.{cond, ◌&&◌, ◌||◌}
use Rattle.std.specs.List.{AllByRecursion, find}
use Rattle.std.specs.Option.{IsSomeAnd, is_some}
use Rattle.std.proofs.lemmas.Bool.{cases_lt, eq-eqb, eqb-true, or_left, or_right}
use Rattle.std.proofs.lemmas.List.{length-append, map-append}
use Rattle.flight_books.specs.Kept.{over_by, shown_over}
use Rattle.flight_books.specs.Sweeps.{note_of_end, tickets_of}
use Rattle.frame_future.specs.Flights.{Flying, HasEnded, awaited, looked_at}
use Rattle.frame_future.specs.Future.{Future, flight_at, has_ticket}
use Rattle.frame_future.specs.Reads.{AreSeen, ended_by}
use Rattle.frame_future.specs.declared.phase.Ended.{Ended}
use Rattle.seq_model.proofs.Afters.{frame_early, frame_last, frame_within}
use Rattle.seq_model.proofs.Reached.{reach_of_no_render}
use Rattle.seq_model.specs.Histories.{History, frame_at, rendered}
use Rattle.seq_model.specs.Legal.{Legal}
use Rattle.seq_model.specs.Life.{has}
use Rattle.seq_model.specs.State.{flights, object_at}
use Rattle.seq_model.specs.Steps.{after, is_reached_by}
use Rattle.seq_model.specs.declared.calls.Call.TheVariants.{RenderFrame, Retain}
use Rattle.seq_model.specs.declared.calls.Entry.{Entry}
use Rattle.seq_model.specs.declared.calls.Entry.TheVariants.{Called, Finished, Left}
use Rattle.seq_model.specs.declared.calls.Reply.TheVariants as reply
use Rattle.device_laws.proofs.FlightSteps.{flights_by}
use Rattle.device_laws.proofs.NoteFacts.{first_of}
use Rattle.device_laws.proofs.ReachFacts.{gone_is_not_reached, reached_of}
use Rattle.device_laws.proofs.StandingFacts.{found}
use Rattle.device_laws.proofs.SweepFacts.{has_joined, none_of}
use Rattle.device_laws.specs.FlightMoves.{flies_after}
use Rattle.device_laws.specs.Over.{AllOver, is_note}

-- at first there is no render
pub none_over : AllOver [] []
unfolding frame_at
none_over zero is landed = absurd cc
none_over (suc i) is landed = absurd cc

-- a render of a history with one entry more is that entry, or was there
found_frame : (o : Option ℕ) → is_some o ≡ true → (f : ℕ) × (o ≡ Some f)
found_frame None is = absurd cc
found_frame (Some f) is = (f, refl)

was_rendered : (history : History) (e : Entry) (t : ℕ) → is_some (frame_at (history ++ e ∷ []) t) ≡ true → (is_some (frame_at history t) ≡ true) ⊎ ((t ≡ length history + 1) × (is_some (rendered e) ≡ true))
was_rendered history e t is = by (cases_lt (length history) t)
  where
    f : (f : ℕ) × (frame_at (history ++ e ∷ []) t ≡ Some f)
    f = found_frame (frame_at (history ++ e ∷ []) t) is

    by : (length history < t) ⊎ (t ≤ length history) → (is_some (frame_at history t) ≡ true) ⊎ ((t ≡ length history + 1) × (is_some (rendered e) ≡ true))
    by (inr early) = inl (ap is_some (sym (frame_early history (e ∷ []) t early)) ∙ is)
    by (inl late) =
        let within : t ≤ length (history ++ e ∷ []) = (frame_within (history ++ e ∷ []) t f.0 f.1).1 in
        let last : t ≡ length history + 1 = omega (arith, within, late, length-append history (e ∷ [])) in
        inr (last, ap is_some (sym (frame_last history e) ∙ ap (frame_at (history ++ e ∷ [])) (sym last)) ∙ is)

-- an entry that is no note
begins : (place : ℕ) (e : Entry) (flew : Bool) → is_some (rendered e) ≡ true → flies_after place e place flew ≡ true
begins place (Called actor (RenderFrame f) reply.Done) flew is = or_left (place == place) flew (eq-eqb place place refl)
begins place (Called actor (Retain k) r) flew is = absurd cc
begins place (Finished u) flew is = absurd cc
begins place (Left u) flew is = absurd cc
begins place e flew is = absurd cc

was_landed : (place : ℕ) (e : Entry) (t : ℕ) (flew : Bool) → is_note e ≡ false → flies_after place e t flew ≡ false → flew ≡ false
was_landed place (Called actor (RenderFrame f) reply.Done) t flew quiet landed = (none_of (place == t) flew landed).1
was_landed place (Called actor (Retain k) r) t flew quiet landed = landed
was_landed place (Finished u) t flew quiet landed = absurd cc
was_landed place (Left u) t flew quiet landed = absurd cc
was_landed place e t flew quiet landed = landed

pub others_over : (history : History) (e : Entry) (over : List Flying) → Legal (history ++ e ∷ []) → is_note e ≡ false → AllOver history over → AllOver (history ++ e ∷ []) over
others_over history e over legal quiet all t is landed = by (was_rendered history e t is)
  where
    moved : flies_after (length history + 1) e t (has t (flights (after history).state)) ≡ false
    moved = sym (flights_by history e t legal) ∙ landed

    by : (is_some (frame_at history t) ≡ true) ⊎ ((t ≡ length history + 1) × (is_some (rendered e) ≡ true)) → has t (tickets_of over) ≡ true
    by (inl was) = all t was (was_landed (length history + 1) e t (has t (flights (after history).state)) quiet moved)
    by (inr now) =
        let flies : flies_after (length history + 1) e t (has t (flights (after history).state)) ≡ true =
        ap (λ k. flies_after (length history + 1) e k (has t (flights (after history).state))) now.0 ∙ begins (length history + 1) e (has t (flights (after history).state)) now.1 in
        let wrong : false ≡ true = sym moved ∙ flies in absurd cc

-- the note of a flight that a look showed to be over
no_render : (t : ℕ) (b : Bool) → is_some (rendered (cond b (Left t) (Finished t))) ≡ false
no_render t true = refl
no_render t false = refl

ended_or_landed : (place u t : ℕ) (b flew : Bool) → flies_after place (cond b (Left u) (Finished u)) t flew ≡ false → (u ≡ t) ⊎ (flew ≡ false)
ended_or_landed place u t true flew landed = by (u == t) refl landed
  where
    by : (c : Bool) → (u == t) ≡ c → (not c && flew) ≡ false → (u ≡ t) ⊎ (flew ≡ false)
    by true is landed = inl (eqb-true u t is)
    by false is landed = inr landed
ended_or_landed place u t false flew landed = by (u == t) refl landed
  where
    by : (c : Bool) → (u == t) ≡ c → (not c && flew) ≡ false → (u ≡ t) ⊎ (flew ≡ false)
    by true is landed = inl (eqb-true u t is)
    by false is landed = inr landed

is_over : (last : ℕ) (old looked : Future) (e : Ended) → AreSeen last old looked (Some e) → has e.ticket (tickets_of (over_by old (Some e))) ≡ true
is_over last old looked e s = by (flight_at old e.ticket) s.was
  where
    by : (x : Option Flying) → IsSomeAnd x (λ f. ended_by s.seen s.reads ≡ looked_at (awaited f) f ∷ []) → has e.ticket (tickets_of (shown_over x)) ≡ true
    by None was = absurd was
    by (Some f) was =
        or_left (f.ticket == e.ticket) false
        (eq-eqb f.ticket e.ticket (ap (λ fs. (first_of f fs).ticket) (sym was ∙ s.over.1) ∙ sym s.over.3))

pub note_over : (history : History) (last : ℕ) (old looked : Future) (e : Ended) (over : List Flying) → Legal (history ++ note_of_end e ∷ []) → AreSeen last old looked (Some e) → AllOver history over →
    AllOver (history ++ note_of_end e ∷ []) (over ++ over_by old (Some e))
note_over history last old looked e over legal s all t is landed =
    ap (has t) (map-append (λ (f : Flying). f.ticket) over (over_by old (Some e))) ∙ has_joined t (tickets_of over) (tickets_of (over_by old (Some e)))
    ∙ by (was_rendered history (note_of_end e) t is) (ended_or_landed (length history + 1) e.ticket t e.left (has t (flights (after history).state)) (sym (flights_by history (note_of_end e) t legal) ∙ landed))
  where
    by : (is_some (frame_at history t) ≡ true) ⊎ ((t ≡ length history + 1) × (is_some (rendered (note_of_end e)) ≡ true)) → (e.ticket ≡ t) ⊎ (has t (flights (after history).state) ≡ false) →
        (has t (tickets_of over) || has t (tickets_of (over_by old (Some e)))) ≡ true
    by (inr now) any = let wrong : false ≡ true = sym (no_render e.ticket e.left) ∙ now.1 in absurd cc
    by (inl was) (inl ended) = or_right (has t (tickets_of over)) (has t (tickets_of (over_by old (Some e)))) (ap (λ k. has k (tickets_of (over_by old (Some e)))) (sym ended) ∙ is_over last old looked e s)
    by (inl was) (inr flew) = or_left (has t (tickets_of over)) (has t (tickets_of (over_by old (Some e)))) (all t was flew)

-- what is gone was reached by flights alone that are over
found_over : (t : ℕ) (over : List Flying) → has t (tickets_of over) ≡ true → (f : Flying) × (find (has_ticket t) over ≡ Some f)
found_over t [] is = absurd cc
found_over t (f ∷ over) is = by (f.ticket == t) is (found_over t over)
  where
    by : (b : Bool) → (b || has t (tickets_of over)) ≡ true → (has t (tickets_of over) ≡ true → (f : Flying) × (find (has_ticket t) over ≡ Some f)) → (g : Flying) × (cond b (Some f) (find (has_ticket t) over) ≡ Some g)
    by true is rest = (f, refl)
    by false is rest = rest is

pub gone_is_unused : (history : History) (over : List Flying) (t h : ℕ) → Legal history → AllOver history over → AllByRecursion HasEnded over → object_at (after history).state h ≡ None →
    is_reached_by (after history).reached t h ≡ true → (f : Flying) × (find (has_ticket t) over ≡ Some f) × HasEnded f
gone_is_unused history over t h legal all ended gone reached = by (frame_at history t) refl
  where
    landed : (b : Bool) → has t (flights (after history).state) ≡ b → b ≡ false
    landed false is = refl
    landed true is = let wrong : true ≡ false = sym reached ∙ gone_is_not_reached history legal t h is gone in absurd cc

    by : (x : Option ℕ) → frame_at history t ≡ x → (f : Flying) × (find (has_ticket t) over ≡ Some f) × HasEnded f
    by None none = let wrong : false ≡ true = reached_of (after history).reached t h None (reach_of_no_render history t none) reached in absurd cc
    by (Some f) some =
        let one : (f : Flying) × (find (has_ticket t) over ≡ Some f) = found_over t over (all t (ap is_some some) (landed (has t (flights (after history).state)) refl)) in
        (one.0, one.1, (found HasEnded (has_ticket t) over one.0 ended one.1).0)
