-- How many places of a journal the calls of a trace take in their replay on one thread.
use Rattle.std.proofs.Common.{fold, ℕ, ◌+◌, ◌≡◌, ◌≤◌, ◌∙◌, List, [], ◌∷◌, All, Option, Some, None, refl, sym, ap, subst, arith}
use Rattle.std.specs.List.{enumerate_from, sum_by}
use Rattle.std.proofs.lemmas.List.Elements.{All-head, All-nil, All-tail}
use Rattle.std.proofs.lemmas.List.Sums.{sum_by-cons, sum_by_push}
use Rattle.replay_core.proofs.Making.{ends_a_loan}
use Rattle.replay_core.proofs.ReplayFacts.{end_of_loan, replayed_call}
use Rattle.replay_core.proofs.SoloLegal.{loan_opened, unmap_ends}
use Rattle.replay_core.proofs.TracePlaces.{at_most_two, unmap_takes_one}
use Rattle.replay_core.specs.Labels.{Meaning, call_of, handle_of}
use Rattle.replay_core.specs.Loans.{mapped_content, opens, unmap_of}
use Rattle.replay_core.specs.Places.{EndsLoan, places_of_call, places_of_caller, places_of_phase}
use Rattle.replay_core.specs.Solo.{Replay, made, replayed, unmapped, caller_replayed, phase_replayed}
use Rattle.room_laws.specs.Taken.{most_of_call, most_places}
use Rattle.seq_model.specs.Contents.{entered}
use Rattle.seq_model.specs.Endings.{reply_to}
use Rattle.seq_model.specs.Steps.{Past, next_place, step}
use Rattle.seq_model.specs.declared.calls.Call.{Call}
use Rattle.seq_model.specs.declared.calls.Entry.{Entry}
use Rattle.seq_model.specs.declared.calls.Entry.TheVariants.{Called, Finished, Left}
use Rattle.solo_device.specs.OneThread.{asked_flight, ready_for, stopped_flight, with_call, with_note}
use Rattle.trace_text.specs.declared.calls.Caller.{Caller}
use Rattle.trace_text.specs.declared.calls.Phase.{Phase}
use Rattle.trace_text.specs.declared.calls.TraceCall.{TraceCall}
use Rattle.trace_text.specs.declared.calls.TraceCall.TheVariants.{EndLoan}

-- the places that a past has taken
abbrev taken : Past → ℕ
taken past = sum_by most_places past.seen

step_takes : (past : Past) (e : Entry) → taken (step past e) ≡ taken past + most_places e
unfolding step
step_takes past e = sum_by_push most_places past.seen e

note_takes : (note : ℕ → Entry) (t : Option ℕ) (past : Past) → ((ticket : ℕ) → most_places (note ticket) ≡ 0) → taken (with_note note t past) ≡ taken past
note_takes note None past none = refl
note_takes note (Some t) past none = let all = step_takes past (note t) in let nothing = none t in omega (arith, all, nothing)

call_takes : (caller : ℕ) (call : Call) (past : Past) → taken (with_call caller call past) ≡ taken past + most_of_call call
call_takes caller call past =
    note_takes Left (stopped_flight past call (reply_to past call)) (step past (Called caller call (reply_to past call))) (λ t. refl) ∙ step_takes past (Called caller call (reply_to past call))

-- one call takes so many places, and leaves loans that unmaps end
record Takes (c : TraceCall) (old new : Replay) : Type 0 where
  places : taken new.past ≤ taken old.past + places_of_call c
  loans : All EndsLoan new.loans

unmap_takes : (caller : ℕ) (r : Replay) (loans : List (Option Call)) → All EndsLoan loans → r.loans ≡ loans → Takes EndLoan r (unmapped caller r loans)
unmap_takes caller r [] ends is = record { places = omega arith; loans = subst (All EndsLoan) (sym is) ends }
unmap_takes caller r (None ∷ loans) ends is = record { places = omega arith; loans = All-tail EndsLoan None loans ends }
unmap_takes caller r (Some unmap ∷ loans) ends is = record {
  places = (let all = call_takes caller (entered r.past unmap) r.past in let one = unmap_takes_one r.past unmap (All-head EndsLoan (Some unmap) loans ends) in omega (arith, all, one));
  loans = All-tail EndsLoan (Some unmap) loans ends;
}

two_places : (meaning : Meaning) (c : TraceCall) (call : Call) → call_of meaning c ≡ Some call → places_of_call c ≡ 2
two_places meaning EndLoan call is = absurd cc
two_places meaning c call is = refl

made_takes : (phase caller : ℕ) (r : Replay) (c : TraceCall) (call : Call) (meaning : Meaning) → call_of meaning c ≡ Some call → All EndsLoan r.loans → Takes c r (made phase caller c meaning call r)
made_takes phase caller r c call meaning is ends =
    let now : Past = ready_for r.past call in record {
      places = (
          let ready = note_takes Finished (asked_flight r.past call) r.past (λ t. refl) in
          let all = call_takes caller call now in
          let most = at_most_two call in
          let two = two_places meaning c call is in
          omega (arith, ready, all, most, two)
          );
      loans = loan_opened (opens c) (unmap_of now meaning c (reply_to now call)) r.loans (unmap_ends (mapped_content now meaning c) (next_place now) meaning c (reply_to now call)) ends;
    }

takes : (phase caller : ℕ) (r : Replay) (c : TraceCall) → All EndsLoan r.loans → Takes c r (replayed phase caller r c)
takes phase caller r c ends = by (call_of (handle_of r.bound phase caller) c) refl
  where
    by : (x : Option Call) → call_of (handle_of r.bound phase caller) c ≡ x → Takes c r (replayed phase caller r c)
    by None is =
        subst (λ c. Takes c r (replayed phase caller r c)) (sym (ends_a_loan (handle_of r.bound phase caller) c is))
        (subst (Takes EndLoan r) (end_of_loan phase caller r) (unmap_takes caller r r.loans ends refl))
    by (Some call) is = subst (Takes c r) (replayed_call phase caller r c call is) (made_takes phase caller r c call (handle_of r.bound phase caller) is ends)

pub takes_places : (phase caller : ℕ) (r : Replay) (c : TraceCall) → All EndsLoan r.loans → sum_by most_places (replayed phase caller r c).past.seen ≤ sum_by most_places r.past.seen + places_of_call c
takes_places phase caller r c ends = (takes phase caller r c ends).places

pub leaves_unmaps : (phase caller : ℕ) (r : Replay) (c : TraceCall) → All EndsLoan r.loans → All EndsLoan (replayed phase caller r c).loans
leaves_unmaps phase caller r c ends = (takes phase caller r c ends).loans

-- and so do all calls of a caller, all callers of a phase
all_take : {X : Type 0} (f : Replay → X → Replay) (places : X → ℕ) → ((r : Replay) (x : X) → All EndsLoan r.loans → (taken (f r x).past ≤ taken r.past + places x) × All EndsLoan (f r x).loans) →
    (xs : List X) (r : Replay) → All EndsLoan r.loans → (taken (fold f r xs).past ≤ taken r.past + sum_by places xs) × All EndsLoan (fold f r xs).loans
all_take f places each [] r ends = (omega arith, ends)
all_take f places each (x ∷ xs) r ends =
    let one = each r x ends in
    let rest = all_take f places each xs (f r x) one.1 in
    let all = sum_by-cons places x xs in
    ((let here = one.0 in let later = rest.0 in omega (arith, here, later, all)), rest.1)

caller_takes : (phase : ℕ) (r : Replay) (caller : ℕ × Caller) → (taken (caller_replayed phase r caller).past ≤ taken r.past + places_of_caller caller.1) × All EndsLoan (caller_replayed phase r caller).loans
caller_takes phase r caller =
    all_take (replayed phase caller.0) places_of_call (λ r c ends. (takes_places phase caller.0 r c ends, leaves_unmaps phase caller.0 r c ends)) caller.1.calls
    (record { past = r.past; bound = r.bound; loans = [] }) (All-nil EndsLoan)

pub caller_places : (phase : ℕ) (r : Replay) (caller : ℕ × Caller) → sum_by most_places (caller_replayed phase r caller).past.seen ≤ sum_by most_places r.past.seen + places_of_caller caller.1
caller_places phase r caller = (caller_takes phase r caller).0

-- callers with their numbers take what they take without
numbered_takes : {X : Type 0} (places : X → ℕ) (n : ℕ) (xs : List X) → sum_by (λ (x : ℕ × X). places x.1) (enumerate_from n xs) ≡ sum_by places xs
numbered_takes places n [] = refl
numbered_takes places n (x ∷ xs) =
    sum_by-cons (λ x. places x.1) (n, x) (enumerate_from (n + 1) xs) ∙ ap (λ m. places x + m) (numbered_takes places (n + 1) xs) ∙ sym (sum_by-cons places x xs)

callers_take : (phase : ℕ) (callers : List (ℕ × Caller)) (r : Replay) → taken (fold (caller_replayed phase) r callers).past ≤ taken r.past + sum_by (λ caller. places_of_caller caller.1) callers
callers_take phase [] r = omega arith
callers_take phase (caller ∷ callers) r =
    let one = caller_places phase r caller in
    let rest = callers_take phase callers (caller_replayed phase r caller) in
    let all = sum_by-cons (λ caller. places_of_caller caller.1) caller callers in
    omega (arith, one, rest, all)

pub phase_places : (r : Replay) (phase : ℕ × Phase) → sum_by most_places (phase_replayed r phase).past.seen ≤ sum_by most_places r.past.seen + places_of_phase phase.1
phase_places r phase =
    let all = callers_take phase.0 (enumerate_from 0 phase.1.callers) r in
    let same = numbered_takes places_of_caller 0 phase.1.callers in
    omega (arith, all, same)
