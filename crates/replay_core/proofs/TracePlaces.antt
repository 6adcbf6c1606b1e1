-- How many places of a journal a history takes that follows a trace.
use Rattle.std.proofs.Common.{ℕ, ◌+◌, ◌*◌, ◌==◌, ◌≡◌, ◌<◌, ◌≤◌, ◌∙◌, ◌⊎◌, inl, inr, Bool, true, false, not, cond, List, [], ◌∷◌, ◌++◌, All, Option, Some, None, IfSome, Ok, length, refl, ap, subst, arith}
use Rattle.std.specs.Prelude.{count_by}
use Rattle.std.specs.List.{sum_by}
use Rattle.std.proofs.lemmas.Bool.{cases_eq, eq-eqb}
use Rattle.std.proofs.lemmas.List.Elements.{All-head, All-nil, All-tail, filter-append}
use Rattle.std.proofs.lemmas.List.Sums.{sum_by-append, sum_by-cons}
use Rattle.replay_core.proofs.SoloFollows.{solo_follows}
use Rattle.replay_core.proofs.SoloLegal.{loan_opened, solo_is_legal, unmap_ends}
use Rattle.replay_core.specs.Follows.{AreOfFirst, CallsNext, EachMakes, Follows, GoesThrough, Makes, PhaseCaller, after_call, before_call, gone_on, meaning_to}
use Rattle.replay_core.specs.Labels.{binding_of, call_of}
use Rattle.replay_core.specs.Loans.{is_unmap, loans_after, mapped_content, opens, unmap_of}
use Rattle.replay_core.specs.Places.{EndsLoan, places_of_call, places_of_caller, places_of_phase, places_of_trace}
use Rattle.replay_core.specs.Solo.{solo}
use Rattle.replay_core.specs.declared.bindings.Binding.{Binding}
use Rattle.room_laws.proofs.PlaceFacts.{closes_once, has_room}
use Rattle.room_laws.specs.Taken.{is_close, most_of_call, most_places}
use Rattle.seq_model.proofs.Prefixes.{prefix_is_legal}
use Rattle.seq_model.specs.Contents.{entered}
use Rattle.seq_model.specs.Histories.{History, caller_of, entries_of, is_call_of}
use Rattle.seq_model.specs.Legal.{Legal}
use Rattle.seq_model.specs.Room.{is_full}
use Rattle.seq_model.specs.Steps.{Past, after, next_place, start}
use Rattle.seq_model.specs.declared.calls.Call.{Call}
use Rattle.seq_model.specs.declared.calls.Call.TheVariants.{UnmapArray, UnmapFrame, UnmapParameterArray}
use Rattle.seq_model.specs.declared.calls.Entry.{Entry}
use Rattle.seq_model.specs.declared.calls.Entry.TheVariants.{Called, Closed, Finished, Left}
use Rattle.seq_model.specs.declared.calls.Reply.{Reply}
use Rattle.trace_text.proofs.FewCalls.{has_few_calls, has_few_ends}
use Rattle.trace_text.specs.Counts.{calls_in, count_of_caller, count_of_phase, ends_in, is_end}
use Rattle.trace_text.specs.Reading.{trace_of}
use Rattle.trace_text.specs.declared.calls.Caller.{Caller}
use Rattle.trace_text.specs.declared.calls.Phase.{Phase}
use Rattle.trace_text.specs.declared.calls.Trace.{Trace}
use Rattle.trace_text.specs.declared.calls.TraceCall.{TraceCall}
use Rattle.trace_text.specs.declared.calls.TraceCall.TheVariants.{EndLoan}

-- ---- one caller

-- no call takes more than two, and what ends a loan one
pub at_most_two : (call : Call) → most_of_call call ≤ 2
at_most_two (UnmapArray h number bytes) = omega arith
at_most_two (UnmapParameterArray h name number bytes) = omega arith
at_most_two (UnmapFrame h number) = omega arith
at_most_two call = omega arith

pub unmap_takes_one : (now : Past) (call : Call) → is_unmap call ≡ true → most_of_call (entered now call) ≤ 1
unfolding entered
unmap_takes_one now (UnmapArray h number bytes) is = omega arith
unmap_takes_one now (UnmapParameterArray h name number bytes) is = omega arith
unmap_takes_one now (UnmapFrame h number) is = omega arith
unmap_takes_one now _ is = absurd cc

-- the places that the calls of a caller take
abbrev taken_by : ℕ → History → ℕ
taken_by number history = sum_by most_places (entries_of number history)

-- its next call stands before the rest of them
next_taken : (number : ℕ) (past : Past) (asked : Past → Option Call) (history : History) (next : CallsNext number past asked history) → taken_by number history ≡ most_of_call next.call + taken_by number next.rest
next_taken number past asked history next =
    ap (taken_by number) next.stands
    ∙ ap (sum_by most_places) (filter-append (is_call_of number) next.others (Called number next.call next.reply ∷ next.rest) ∙ ap (λ es. es ++ entries_of number (Called number next.call next.reply ∷ next.rest)) next.alone)
    ∙ ap (λ b. sum_by most_places (cond b (Called number next.call next.reply ∷ entries_of number next.rest) (entries_of number next.rest))) (eq-eqb number number refl)
    ∙ sum_by-cons most_places (Called number next.call next.reply) (entries_of number next.rest)

some_is : (x y : Call) → Some x ≡ Some y → x ≡ y
some_is x y e = cc

pub makes_places : (caller : PhaseCaller) (past : Past) (calls : List TraceCall) (loans : List (Option Call)) (own : List Binding) (history : History) (bound : List Binding) → All EndsLoan loans →
    Makes caller past calls loans own history bound → taken_by caller.number history ≤ sum_by places_of_call calls
unfolding Makes
makes_places caller past [] loans own history bound ends makes = let none = ap (sum_by most_places) makes.0 in omega (arith, none)
makes_places caller past (EndLoan ∷ calls) [] own history bound ends makes =
    let rest = makes_places caller past calls [] own history bound ends makes in
    let all = sum_by-cons places_of_call EndLoan calls in
    omega (arith, rest, all)
makes_places caller past (EndLoan ∷ calls) (None ∷ loans) own history bound ends makes =
    let rest = makes_places caller past calls loans own history bound (All-tail EndsLoan None loans ends) makes in
    let all = sum_by-cons places_of_call EndLoan calls in
    omega (arith, rest, all)
makes_places caller past (EndLoan ∷ calls) (Some unmap ∷ loans) own history bound ends makes =
    let next = next_taken caller.number past (λ now. Some (entered now unmap)) history makes.0 in
    let rest = makes_places caller (after_call makes.0) calls loans own makes.0.rest bound (All-tail EndsLoan (Some unmap) loans ends) makes.1 in
    let same = some_is (entered (before_call makes.0) unmap) makes.0.call makes.0.fits in
    let one = subst (λ call. most_of_call call ≤ 1) same (unmap_takes_one (before_call makes.0) unmap (All-head EndsLoan (Some unmap) loans ends)) in
    let all = sum_by-cons places_of_call EndLoan calls in
    omega (arith, next, rest, one, all)
makes_places caller past (c ∷ calls) loans own history bound ends makes =
    let next = next_taken caller.number past (λ now. call_of (meaning_to caller own) c) history makes.0 in
    let opened = loan_opened (opens c) (unmap_of (before_call makes.0) (meaning_to caller own) c makes.0.reply) loans
    (unmap_ends (mapped_content (before_call makes.0) (meaning_to caller own) c) (next_place (before_call makes.0)) (meaning_to caller own) c makes.0.reply) ends in
    let rest = makes_places caller (after_call makes.0) calls (loans_after (before_call makes.0) (meaning_to caller own) c makes.0.reply loans)
    (own ++ binding_of caller.phase caller.number c makes.0.reply) makes.0.rest bound opened makes.1 in
    let two = at_most_two makes.0.call in
    let all = sum_by-cons places_of_call c calls in
    omega (arith, next, rest, two, all)

-- ---- the callers of a phase

-- the places that the calls of some callers take, of whom the first has this number
abbrev taken_by_each : ℕ → List Caller → History → ℕ
taken_by_each number [] history = 0
taken_by_each number (caller ∷ callers) history = taken_by number history + taken_by_each (number + 1) callers history

each_places : (phase : ℕ) (known : List Binding) (past : Past) (history : History) (number : ℕ) (callers : List Caller) (bound : List Binding) → EachMakes phase known past history number callers bound →
    taken_by_each number callers history ≤ sum_by places_of_caller callers
unfolding EachMakes
each_places phase known past history number [] bound makes = omega arith
each_places phase known past history number (caller ∷ callers) bound makes =
    let one = makes_places (record { phase = phase; number = number; known = known }) past caller.calls [] [] history makes.0 (All-nil EndsLoan) makes.3 in
    let rest = each_places phase known past history (number + 1) callers makes.1 makes.4 in
    let all = sum_by-cons places_of_caller caller callers in
    omega (arith, one, rest, all)

-- one more entry in front takes no less, and where it is a call of one of them, its places are counted
more_by : (number : ℕ) (e : Entry) (history : History) → taken_by number (e ∷ history) ≡ cond (is_call_of number e) (most_places e) 0 + taken_by number history
more_by number e history = by (is_call_of number e)
  where
    by : (b : Bool) → sum_by most_places (cond b (e ∷ entries_of number history) (entries_of number history)) ≡ cond b (most_places e) 0 + taken_by number history
    by true = sum_by-cons most_places e (entries_of number history)
    by false = omega arith

no_less_by : (number : ℕ) (callers : List Caller) (e : Entry) (history : History) → taken_by_each number callers history ≤ taken_by_each number callers (e ∷ history)
no_less_by number [] e history = omega arith
no_less_by number (caller ∷ callers) e history = let here = more_by number e history in let rest = no_less_by (number + 1) callers e history in omega (arith, here, rest)

called_by : (number c : ℕ) (callers : List Caller) (call : Call) (r : Reply) (history : History) → number ≤ c → c < number + length callers →
    most_of_call call + taken_by_each number callers history ≤ taken_by_each number callers (Called c call r ∷ history)
called_by number c [] call r history from below = absurd (omega (arith, from, below))
called_by number c (caller ∷ callers) call r history from below = by (cases_eq c number) (λ apart. called_by (number + 1) c callers call r history (omega (arith, from, apart)) (omega (arith, below)))
  where
    here : taken_by number (Called c call r ∷ history) ≡ cond (c == number) (most_of_call call) 0 + taken_by number history
    here = more_by number (Called c call r) history

    by : (c ≡ number) ⊎ (c ≡ number → ⊥) → ((c ≡ number → ⊥) → most_of_call call + taken_by_each (number + 1) callers history ≤ taken_by_each (number + 1) callers (Called c call r ∷ history)) →
        most_of_call call + taken_by_each number (caller ∷ callers) history ≤ taken_by_each number (caller ∷ callers) (Called c call r ∷ history)
    by (inl same) later =
        let mine : cond {A = ℕ} (c == number) (most_of_call call) 0 ≡ most_of_call call = ap (λ b. cond b (most_of_call call) 0) (eq-eqb c number same) in
        let rest = no_less_by (number + 1) callers (Called c call r) history in
        omega (arith, here, mine, rest)
    by (inr apart) later = let rest = later apart in omega (arith, here, rest)

-- in a history of these callers every call is counted, and beside them the close
abbrev IsOfFirst : ℕ → Entry → Type 0
IsOfFirst n e = IfSome (caller_of e) (λ c. c < n)

all_taken : (callers : List Caller) (history : History) → AreOfFirst (length callers) history → sum_by most_places history ≤ taken_by_each 0 callers history + count_by is_close history
all_taken callers [] alone = omega arith
all_taken callers (e ∷ history) alone = by e (All-head (IsOfFirst (length callers)) e history alone) (all_taken callers history (All-tail (IsOfFirst (length callers)) e history alone))
  where
    by : (e : Entry) → IsOfFirst (length callers) e → sum_by most_places history ≤ taken_by_each 0 callers history + count_by is_close history →
        sum_by most_places (e ∷ history) ≤ taken_by_each 0 callers (e ∷ history) + count_by is_close (e ∷ history)
    by (Called c call r) first rest =
        let places = sum_by-cons most_places (Called c call r) history in
        let closes = sum_by-cons (λ e. cond (is_close e) 1 0) (Called c call r) history in
        let below : c < 0 + length callers = omega (arith, first) in
        let counted = called_by 0 c callers call r history (omega arith) below in
        omega (arith, rest, places, closes, counted)
    by (Finished t) first rest =
        let places = sum_by-cons most_places (Finished t) history in
        let closes = sum_by-cons (λ e. cond (is_close e) 1 0) (Finished t) history in
        let least = no_less_by 0 callers (Finished t) history in
        omega (arith, rest, places, closes, least)
    by (Left t) first rest =
        let places = sum_by-cons most_places (Left t) history in
        let closes = sum_by-cons (λ e. cond (is_close e) 1 0) (Left t) history in
        let least = no_less_by 0 callers (Left t) history in
        omega (arith, rest, places, closes, least)
    by Closed first rest =
        let places = sum_by-cons most_places Closed history in
        let closes = sum_by-cons (λ e. cond (is_close e) 1 0) Closed history in
        let least = no_less_by 0 callers Closed history in
        omega (arith, rest, places, closes, least)

-- ---- the phases

phases_places : (number : ℕ) (known : List Binding) (past : Past) (phases : List Phase) (history : History) → GoesThrough number known past phases history →
    sum_by most_places history ≤ sum_by places_of_phase phases + count_by is_close history
unfolding GoesThrough
phases_places number known past [] history goes = all_taken [] history goes
phases_places number known past (phase ∷ phases) history goes =
    let begins = goes.0 in
    let part = all_taken phase.callers begins.part begins.alone in
    let each = each_places number known past begins.part 0 phase.callers begins.bound begins.makes in
    let rest = phases_places (number + 1) (known ++ begins.bound) (gone_on past begins.part) phases begins.rest goes.1 in
    let places = ap (sum_by most_places) begins.is ∙ sum_by-append most_places begins.part begins.rest in
    let closes = ap (count_by is_close) begins.is ∙ sum_by-append (λ e. cond (is_close e) 1 0) begins.part begins.rest in
    let all = sum_by-cons places_of_phase phase phases in
    omega (arith, part, each, rest, places, closes, all)

trace_places : (trace : Trace) (history : History) → Follows trace history → sum_by most_places history ≤ places_of_trace trace + count_by is_close history
unfolding Follows
trace_places trace history follows = phases_places 0 [] start trace.phases history follows.0

-- ---- in numbers of calls

-- two for each call, and one for each end of a loan
in_two_sorts : {X : Type 0} (f calls ends : X → ℕ) (xs : List X) → ((x : X) → f x ≡ 2 * calls x + ends x) → sum_by f xs ≡ 2 * sum_by calls xs + sum_by ends xs
in_two_sorts f calls ends [] each = refl
in_two_sorts f calls ends (x ∷ xs) each =
    let here = each x in
    let rest = in_two_sorts f calls ends xs each in
    let all = sum_by-cons f x xs in
    let all_calls = sum_by-cons calls x xs in
    let all_ends = sum_by-cons ends x xs in
    omega (arith, here, rest, all, all_calls, all_ends)

sorted_call : (c : TraceCall) → places_of_call c ≡ 2 * cond (not (is_end c)) 1 0 + cond (is_end c) 1 0
sorted_call c = by (is_end c)
  where
    by : (b : Bool) → cond b 1 2 ≡ 2 * cond (not b) 1 0 + cond b 1 0
    by true = refl
    by false = refl

sorted_caller : (caller : Caller) → places_of_caller caller ≡ 2 * count_of_caller (λ c. not (is_end c)) caller + count_of_caller is_end caller
sorted_caller caller = in_two_sorts places_of_call (λ c. cond (not (is_end c)) 1 0) (λ c. cond (is_end c) 1 0) caller.calls sorted_call

sorted_phase : (phase : Phase) → places_of_phase phase ≡ 2 * count_of_phase (λ c. not (is_end c)) phase + count_of_phase is_end phase
sorted_phase phase = in_two_sorts places_of_caller (count_of_caller (λ c. not (is_end c))) (count_of_caller is_end) phase.callers sorted_caller

-- a trace that is read takes few
pub few_places : (bytes : List ℕ) (trace : Trace) → trace_of bytes ≡ Ok trace → places_of_trace trace ≤ 786432
few_places bytes trace is =
    let all : places_of_trace trace ≡ 2 * calls_in trace + ends_in trace =
    in_two_sorts places_of_phase (count_of_phase (λ c. not (is_end c))) (count_of_phase is_end) trace.phases sorted_phase in
    let calls = has_few_calls bytes trace is in
    let ends = has_few_ends bytes trace is in
    omega (arith, all, calls, ends)

pub follows_has_room : (bytes : List ℕ) (trace : Trace) (before rest : History) (call : Call) → trace_of bytes ≡ Ok trace → Legal (before ++ rest) → Follows trace (before ++ rest) → is_full 1048576 (after before) call ≡ false
follows_has_room bytes trace before rest call is legal follows =
    let few = few_places bytes trace is in
    let all = trace_places trace (before ++ rest) follows in
    let once = closes_once (before ++ rest) legal in
    let parts = sum_by-append most_places before rest in
    has_room 1048576 before call (prefix_is_legal before rest legal) (omega (arith, few, all, once, parts))

pub solo_has_room : (bytes : List ℕ) (trace : Trace) (before rest : History) (call : Call) → trace_of bytes ≡ Ok trace → solo trace ≡ before ++ rest → is_full 1048576 (after before) call ≡ false
solo_has_room bytes trace before rest call is whole =
    follows_has_room bytes trace before rest call is (subst Legal whole (solo_is_legal trace)) (subst (Follows trace) whole (solo_follows trace))
