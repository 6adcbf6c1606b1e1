-- A call that does not wait before a sweep is answered after it.
use Rattle.std.proofs.Common.{◌≡◌, ◌∙◌, ◌+◌, ◌-◌, ◌<◌, arith, ◌==◌, ◌&&◌, ◌++◌, ℕ, zero, suc, Bool, true, false, List, [], ◌∷◌, Option, Some, None, map, refl, sym, ap, subst}
use Rattle.std.specs.Prelude.{IsSome, cond, count_by, nat_lt, if◌then◌else◌}
use Rattle.std.specs.List.{find}
use Rattle.std.specs.Option.{is_some, option_map, option_or}
use Rattle.dev_types.specs.declared.refusals.Refused.{Refused}
use Rattle.flight_books.specs.Sweeps.{note, note_of}
use Rattle.frame_future.specs.Flights.{Flying, is_stopped, looked_at}
use Rattle.frame_future.specs.Future.{flight_of, is_flight_of}
use Rattle.frame_future.specs.Reads.{ended_by, is_end, left_by}
use Rattle.std.proofs.lemmas.Bool.{lt-ltb}
use Rattle.std.proofs.lemmas.List.Sums.{fold_push}
use Rattle.past_laws.proofs.Answering.{answered_now}
use Rattle.seq_model.proofs.Granted.{AllNone, all_none, does_not_apply}
use Rattle.seq_model.specs.Answers.{answer, granted}
use Rattle.seq_model.specs.Contents.{entered}
use Rattle.seq_model.specs.Histories.{History, is_making, is_releasing, is_retaining, public}
use Rattle.seq_model.specs.Refusals.{phase_at, refusal, refusals_of}
use Rattle.seq_model.specs.State.{ticket_in}
use Rattle.seq_model.specs.Steps.{Past, after}
use Rattle.seq_model.specs.declared.calls.Call.{Call}
use Rattle.seq_model.specs.declared.calls.Call.TheVariants.{FrameReady, UnmapArray, UnmapParameterArray}
use Rattle.seq_model.specs.declared.calls.Reply.TheVariants as reply
use Rattle.device_parts.specs.AllParts.{AreParts, Inside}
use Rattle.device_parts.specs.Standing.{IsStanding}
use Rattle.device_parts.specs.Sweeps.{HasSwept}
use Rattle.device_parts.specs.Waits.{is_waited_for}
use Rattle.std.proofs.lemmas.List.{append-nil, append_assoc}
use Rattle.seq_model.specs.declared.calls.Entry.{Entry}
use Rattle.seq_model.specs.declared.calls.Entry.TheVariants.{Finished, Left}
use Rattle.device_parts.proofs.TicketFacts.{ticket_told}
use Rattle.seq_model.proofs.Afters.{seen_is_history}
use Rattle.device_core.specs.Stepping.{IsAwake}

-- a number that is not 0
is_positive : (n : ℕ) → (n == 0) ≡ false → nat_lt 0 n ≡ true
is_positive zero is = absurd cc
is_positive (suc n) is = let some : 0 < suc n = omega arith in lt-ltb 0 (suc n) some

no_ticket : (x : Option ℕ) (b : Bool) → b ≡ true → (is_some x && b) ≡ false → x ≡ None
no_ticket None b is not_both = refl
no_ticket (Some t) true is not_both = absurd cc
no_ticket (Some t) false is not_both = absurd cc

-- whoever waits for a frame that is not in flight, or that is not held, is answered
held : (past : Past) (h : ℕ) → AllNone (refusals_of past (FrameReady h true)) → nat_lt 0 (public past.seen h) ≡ true
unfolding refusals_of
held past h none = is_positive (public past.seen h) (does_not_apply (public past.seen h == 0) _ none.1.0)

none_refused : (past : Past) (call : Call) → refusal past call ≡ None → AllNone (refusals_of past call)
unfolding refusal
none_refused past call none = all_none (refusals_of past call) none

ready_by : (past : Past) (h : ℕ) → is_waited_for past h ≡ false → (x : Option Refused) → refusal past (FrameReady h true) ≡ x → IsSome (answer past (FrameReady h true))
unfolding answer
ready_by past h awake None is =
    answered_now past (FrameReady h true) (no_ticket (ticket_in (phase_at past h)) (nat_lt 0 (public past.seen h)) (held past h (none_refused past (FrameReady h true) is)) awake)
ready_by past h awake (Some refused) is = subst (λ x. IsSome (option_or (option_map reply.Denied x) (granted past (FrameReady h true)))) (sym is) refl

pub awake_answered : (past : Past) (call : Call) → IsAwake past call → IsSome (answer past (entered past call))
unfolding entered
awake_answered past (FrameReady h true) awake = ready_by past h awake (refusal past (FrameReady h true)) refl
awake_answered past (FrameReady h false) awake = answered_now past (FrameReady h false) refl
awake_answered past (UnmapArray h number bytes) awake = answered_now past (entered past (UnmapArray h number bytes)) refl
awake_answered past (UnmapParameterArray h name number bytes) awake = answered_now past (entered past (UnmapParameterArray h name number bytes)) refl
awake_answered past call awake = answered_now past call refl

-- a frame that is in flight after a sweep was in flight before it
find_or : (h : ℕ) (b : Bool) (f : Flying) (fs : List Flying) → is_some (find (is_flight_of h) fs) ≡ true → is_some (if b then Some f else find (is_flight_of h) fs) ≡ true
find_or h true f fs found = refl
find_or h false f fs found = found

kept_found : (h : ℕ) (b : Bool) (f g : Flying) (fs gs : List Flying)
    → (is_some (find (is_flight_of h) gs) ≡ true → is_some (find (is_flight_of h) fs) ≡ true)
    → is_some (if b then Some g else find (is_flight_of h) gs) ≡ true → is_some (if b then Some f else find (is_flight_of h) fs) ≡ true
kept_found h true f g fs gs rest found = refl
kept_found h false f g fs gs rest found = rest found

left_one : (h : ℕ) (over : Bool) (f : Flying) (read : ℕ) (fs gs : List Flying)
    → (is_some (find (is_flight_of h) gs) ≡ true → is_some (find (is_flight_of h) fs) ≡ true)
    → is_some (find (is_flight_of h) (if over then gs else looked_at read f ∷ gs)) ≡ true → is_some (find (is_flight_of h) (f ∷ fs)) ≡ true
left_one h true f read fs gs rest found = find_or h (is_flight_of h f) f fs (rest found)
left_one h false f read fs gs rest found = kept_found h (is_flight_of h f) f (looked_at read f) fs gs rest found

left_found : (h : ℕ) (fs : List Flying) (reads : List ℕ) → is_some (find (is_flight_of h) (left_by fs reads)) ≡ true → is_some (find (is_flight_of h) fs) ≡ true
left_found h [] reads found = absurd (none_left reads found)
  where
    none_left : (reads : List ℕ) → is_some (find (is_flight_of h) (left_by [] reads)) ≡ true → ⊥
    none_left [] found = absurd cc
    none_left (read ∷ reads) found = absurd cc
left_found h (f ∷ fs) [] found = absurd cc
left_found h (f ∷ fs) (read ∷ reads) found = left_one h (is_end f read) f read fs (left_by fs reads) (left_found h fs reads) found

-- what does not count adds nothing
count_more : (p : Entry → Bool) (history : History) (e : Entry) → p e ≡ false → count_by p (history ++ e ∷ []) ≡ count_by p history
count_more p history e not =
    fold_push (λ n x. n + cond (p x) 1 0) 0 history e ∙ ap (λ t. count_by p history + cond t 1 0) not ∙ (let none : count_by p history + 0 ≡ count_by p history = omega arith in none)

-- a note gives out and takes back no reference
note_public : (history : History) (b : Bool) (t h : ℕ) → public (history ++ note b t ∷ []) h ≡ public history h
unfolding public
note_public history true t h = λ i. count_more (is_making h) history (Left t) refl i + count_more (is_retaining h) history (Left t) refl i - count_more (is_releasing h) history (Left t) refl i
note_public history false t h = λ i. count_more (is_making h) history (Finished t) refl i + count_more (is_retaining h) history (Finished t) refl i - count_more (is_releasing h) history (Finished t) refl i

notes_public : (history : History) (fs : List Flying) (h : ℕ) → public (history ++ map note_of fs) h ≡ public history h
notes_public history [] h = ap (λ l. public l h) (append-nil history)
notes_public history (f ∷ fs) h =
    ap (λ l. public l h) (sym (append_assoc history (note_of f ∷ []) (map note_of fs))) ∙ notes_public (history ++ note_of f ∷ []) fs h ∙ note_public history (is_stopped f) f.ticket h

-- who does not wait before a sweep does not wait after it
both_fall : (a b x y : Bool) → (a ≡ true → x ≡ true) → b ≡ y → (x && y) ≡ false → (a && b) ≡ false
both_fall false b x y falls same not_both = refl
both_fall true b x y falls same not_both = same ∙ subst (λ z. (z && y) ≡ false) (falls refl) not_both

ticket_some : (i : Inside) (h : ℕ) → AreParts i → IsStanding i → is_some (flight_of i.flights.future h) ≡ is_some (ticket_in (phase_at (after i.history) h))
ticket_some i h parts stands = mapped (flight_of i.flights.future h) ∙ ap is_some (ticket_told i h parts stands)
  where
    mapped : (x : Option Flying) → is_some x ≡ is_some (option_map (λ f. f.ticket) x)
    mapped None = refl
    mapped (Some f) = refl

awake_after : (old new : Inside) (h : ℕ) → AreParts old → AreParts new → IsStanding old → IsStanding new → HasSwept old new
    → is_waited_for (after old.history) h ≡ false → is_waited_for (after new.history) h ≡ false
awake_after old new h before now stood stands swept awake =
    both_fall (is_some (ticket_in (phase_at (after new.history) h))) (nat_lt 0 (public (after new.history).seen h))
    (is_some (ticket_in (phase_at (after old.history) h))) (nat_lt 0 (public (after old.history).seen h))
    (λ flies. sym (ticket_some old h before stood)
    ∙ left_found h old.flights.future.flights swept.flights.reads (ap (λ fs. is_some (find (is_flight_of h) fs)) (sym swept.flights.flights) ∙ ticket_some new h now stands ∙ flies))
    (ap (λ n. nat_lt 0 n)
    (ap (λ l. public l h) (seen_is_history new.history ∙ swept.flights.notes) ∙ notes_public old.history (ended_by old.flights.future.flights swept.flights.reads) h
    ∙ ap (λ l. public l h) (sym (seen_is_history old.history)))) awake

pub awake_swept : (old new : Inside) (call : Call) → AreParts old → AreParts new → IsStanding old → IsStanding new → HasSwept old new
    → IsAwake (after old.history) call → IsAwake (after new.history) call
awake_swept old new (FrameReady h true) before now stood stands swept awake = awake_after old new h before now stood stands swept awake
awake_swept old new call before now stood stands swept awake = awake
