-- A trace has few calls, and no more ends of loans than calls.
use Rattle.std.proofs.Common.{◌≡◌, ℕ, zero, suc, ◌+◌, ◌≤◌, List, [], ◌∷◌, ◌++◌, Bool, true, false, not, cond, Option, Some, None, Ok, Err, map, refl, ap, sym, subst, ◌∙◌, arith}
use Rattle.std.specs.Prelude.{codes, count_by, is_none, is_some, nat_le, option_and_then, option_map, if◌then◌else◌}
use Rattle.std.specs.List.{cons_option, flat_map, sum_by}
use Rattle.std.specs.Option.{MatchOption}
use Rattle.std.proofs.lemmas.Bool.{leb-false}
use Rattle.std.proofs.lemmas.List.Concat.{flat_map-cons}
use Rattle.std.proofs.lemmas.List.Sums.{sum_by-append, sum_by-cons}
use Rattle.serde_json.specs.Data.{Data}
use Rattle.trace_text.specs.Counts.{calls_in, count_of_caller, count_of_phase, ends_in, is_end}
use Rattle.trace_text.specs.Forms.{array_of, call_form, channel_of, memory_of, set_value_of, type_of, with_calls, writes_of}
use Rattle.trace_text.specs.Json.{count_of, field, from2, from3, from4, items_of, list_of, name_of}
use Rattle.trace_text.specs.Ops.{most_calls}
use Rattle.trace_text.specs.Places.{Mark, a_call, a_caller, a_phase, end_of_loan, inner_calls, inside, items_at, marks, more_phases, most_loans, numbered, caller_places, op_of, phase_places, placed}
use Rattle.trace_text.specs.Reading.{Before, after, binds_again, bound_by, call_of, call_rules, caller_of, calls_of, checked, fault_at, first_broken, is_too_deep, nothing_before, phase_of, rules_at, trace_of, unless_broken}
use Rattle.trace_text.specs.declared.calls.Trace.{Trace}
use Rattle.trace_text.specs.declared.calls.TraceCall.{TraceCall}
use Rattle.trace_text.specs.declared.calls.TraceCall.TheVariants.{EndLoan}
use Rattle.trace_text.specs.declared.calls.TraceCall.TheVariants as call
use Rattle.trace_text.specs.declared.fault.Rule.{Rule}
use Rattle.trace_text.specs.declared.fault.Rule.TheVariants.{TooManyCalls, TooDeep, UnknownOp, NotOfItsForm, BoundBefore}
use Rattle.trace_text.specs.declared.fault.TraceFault.{TraceFault}
use Rattle.trace_text.specs.declared.ops.Op.{Op}
use Rattle.trace_text.specs.declared.ops.Op.TheVariants as op
use Rattle.trace_text.specs.declared.ops.Version.{Version}
use Rattle.trace_text.specs.declared.ops.Version.TheVariants.{One, Two}
use Rattle.trace_text.proofs.CheckedTraces.{pieces, was_checked}
use Rattle.trace_text.proofs.ReadingFacts.{Outcome}

abbrev is_call : TraceCall → Bool
is_call c = not (is_end c)

-- ---- no call that has its form is the end of a loan

IsNoEnd : Option TraceCall → Type 0
IsNoEnd o = MatchOption o (Unit {0}) (λ c. is_end c ≡ false)

no_end_mapped : {A : Type 0} (f : A → TraceCall) (o : Option A) → ((x : A) → is_end (f x) ≡ false) → IsNoEnd (option_map f o)
unfolding IsNoEnd
no_end_mapped f None none = tt
no_end_mapped f (Some x) none = none x

no_end_then : {A : Type 0} (f : A → Option TraceCall) (o : Option A) → ((x : A) → IsNoEnd (f x)) → IsNoEnd (option_and_then f o)
unfolding IsNoEnd
no_end_then f None none = tt
no_end_then f (Some x) none = none x

no_end_if : (test : Bool) (o : Option TraceCall) → IsNoEnd o → IsNoEnd (if test then o else None)
unfolding IsNoEnd
no_end_if true o none = none
no_end_if false o none = tt

no_end2 : {A B : Type 0} (f : A → B → TraceCall) (a : Option A) (b : Option B) → ((x : A) (y : B) → is_end (f x y) ≡ false) → IsNoEnd (from2 f a b)
no_end2 f a b none = no_end_then (λ x. option_map (f x) b) a (λ x. no_end_mapped (f x) b (none x))

no_end3 : {A B C : Type 0} (f : A → B → C → TraceCall) (a : Option A) (b : Option B) (c : Option C) → ((x : A) (y : B) (z : C) → is_end (f x y z) ≡ false) → IsNoEnd (from3 f a b c)
no_end3 f a b c none = no_end_then (λ x. from2 (f x) b c) a (λ x. no_end2 (f x) b c (none x))

no_end4 : {A B C D : Type 0} (f : A → B → C → D → TraceCall) (a : Option A) (b : Option B) (c : Option C) (d : Option D) → ((w : A) (x : B) (y : C) (z : D) → is_end (f w x y z) ≡ false) → IsNoEnd (from4 f a b c d)
no_end4 f a b c d none = no_end_then (λ x. from3 (f x) b c d) a (λ x. no_end3 (f x) b c d (none x))

forms_are_no_ends : (o : Op) (d : Data) → IsNoEnd (call_form o d)
forms_are_no_ends op.New d = no_end_if _ _ (no_end3 call.New _ _ _ (λ x y z. refl))
forms_are_no_ends op.NewArray d =
    no_end_if _ _ (no_end_then (λ t. option_and_then (λ count. array_of t count d) (field count_of (codes "count") d)) _
    (λ t. no_end_then (λ count. array_of t count d) _ (λ count. no_end3 (λ label stride memory. call.NewArray label t count stride memory.0 memory.1) _ _ (memory_of t count d) (λ x y z. refl))))
forms_are_no_ends op.Retain d = no_end_mapped call.Retain _ (λ x. refl)
forms_are_no_ends op.Release d = no_end_mapped call.Release _ (λ x. refl)
forms_are_no_ends op.Set d =
    no_end_if _ _ (no_end3 call.Set (field name_of (codes "object") d) (field name_of (codes "name") d)
    (option_and_then (λ t. field (set_value_of t) (codes "value") d) (field type_of (codes "type") d)) (λ x y z. refl))
forms_are_no_ends op.Unset d = no_end_if _ _ (no_end2 call.Unset _ _ (λ x y. refl))
forms_are_no_ends op.UnsetAll d = no_end_mapped call.UnsetAll _ (λ x. refl)
forms_are_no_ends op.Commit d = no_end_mapped call.Commit _ (λ x. refl)
forms_are_no_ends op.WithArray d =
    no_end_if _ (with_calls d (from2 call.WithArray (field name_of (codes "array") d) (writes_of d)))
    (no_end_if (is_some (field list_of (codes "calls") d)) _ (no_end2 call.WithArray (field name_of (codes "array") d) (writes_of d) (λ x y. refl)))
forms_are_no_ends op.WithParam d =
    let form : List ℕ → Option TraceCall = λ object. from4 (call.WithParam object) (field name_of (codes "name") d) (field type_of (codes "elem") d) (field count_of (codes "count") d) (writes_of d) in
    no_end_if _ (with_calls d (option_and_then form (field name_of (codes "object") d)))
    (no_end_if (is_some (field list_of (codes "calls") d)) _
    (no_end_then form (field name_of (codes "object") d)
    (λ object. no_end4 (call.WithParam object) (field name_of (codes "name") d) (field type_of (codes "elem") d) (field count_of (codes "count") d) (writes_of d) (λ w x y z. refl))))
forms_are_no_ends op.WithFrame d =
    no_end_if _ (with_calls d (from2 call.WithFrame (field name_of (codes "frame") d) (field channel_of (codes "channel") d)))
    (no_end_if (is_some (field list_of (codes "calls") d)) _ (no_end2 call.WithFrame (field name_of (codes "frame") d) (field channel_of (codes "channel") d) (λ x y. refl)))
forms_are_no_ends op.Render d = no_end_mapped call.Render _ (λ x. refl)
forms_are_no_ends op.Discard d = no_end_mapped call.Discard _ (λ x. refl)
forms_are_no_ends op.Ready d = no_end_if _ _ (no_end2 call.Ready _ _ (λ x y. refl))
forms_are_no_ends op.Query d = no_end_mapped call.Query _ (λ x. refl)

calls_are_no_ends : (v : Version) (d : Data) → IsNoEnd (call_of v d)
calls_are_no_ends v d = no_end_then (λ o. call_form o d) (op_of v d) (λ o. forms_are_no_ends o d)

-- ---- each loan that opens ends once

abbrev is_call_mark : Mark → Bool
is_call_mark (a_call n d) = true
is_call_mark _ = false

abbrev is_end_mark : Mark → Bool
is_end_mark end_of_loan = true
is_end_mark _ = false

-- no more ends than calls
abbrev AreEven : List Mark → Type 0
AreEven ms = count_by is_end_mark ms ≤ count_by is_call_mark ms

count_cons : {X : Type 0} (p : X → Bool) (x : X) (xs : List X) → count_by p (x ∷ xs) ≡ cond (p x) 1 0 + count_by p xs
count_cons p x xs = sum_by-cons (λ x. cond (p x) 1 0) x xs

count_append : {X : Type 0} (p : X → Bool) (xs ys : List X) → count_by p (xs ++ ys) ≡ count_by p xs + count_by p ys
count_append p xs ys = sum_by-append (λ x. cond (p x) 1 0) xs ys

even_append : (xs ys : List Mark) → AreEven xs → AreEven ys → AreEven (xs ++ ys)
even_append xs ys first rest =
    let ends = count_append is_end_mark xs ys in let calls = count_append is_call_mark xs ys in omega (arith, first, rest, ends, calls)

even_call : (n : ℕ) (d : Data) (inner : List Data → List Mark) (ds : Option (List Data)) → ((ds : List Data) → AreEven (inner ds)) → AreEven (a_call n d ∷ inside inner ds)
even_call n d inner None even =
    let ends = count_cons is_end_mark (a_call n d) [] in let calls = count_cons is_call_mark (a_call n d) [] in omega (arith, ends, calls)
even_call n d inner (Some ds) even =
    let within = even ds in
    let ends = count_cons is_end_mark (a_call n d) (inner ds ++ end_of_loan ∷ []) in
    let calls = count_cons is_call_mark (a_call n d) (inner ds ++ end_of_loan ∷ []) in
    let more_ends = count_append is_end_mark (inner ds) (end_of_loan ∷ []) in
    let more_calls = count_append is_call_mark (inner ds) (end_of_loan ∷ []) in
    omega (arith, within, ends, calls, more_ends, more_calls)

flat_is_even : (n : ℕ) (v : Version) (inner : List Data → List Mark) → ((ds : List Data) → AreEven (inner ds)) → (ds : List Data) → AreEven (flat_map (λ d. a_call n d ∷ inside inner (inner_calls v d)) ds)
flat_is_even n v inner even [] = omega arith
flat_is_even n v inner even (d ∷ ds) =
    subst AreEven (sym (flat_map-cons (λ d. a_call n d ∷ inside inner (inner_calls v d)) d ds))
    (even_append (a_call n d ∷ inside inner (inner_calls v d)) _ (even_call n d inner (inner_calls v d) even) (flat_is_even n v inner even ds))

marks_are_even : (v : Version) (n : ℕ) (ds : List Data) → AreEven (marks v n ds)
unfolding marks
marks_are_even v zero [] = omega arith
marks_are_even v zero (d ∷ ds) =
    let rest = marks_are_even v zero ds in
    let ends = count_cons is_end_mark (a_call zero d) (map (a_call zero) ds) in
    let calls = count_cons is_call_mark (a_call zero d) (map (a_call zero) ds) in
    omega (arith, rest, ends, calls)
marks_are_even v (suc n) ds = flat_is_even (suc n) v (marks v n) (marks_are_even v n) ds

-- ---- what the places of a list count

-- so many more calls stand before the next place, no more than a trace may have, and no more ends of loans
record Counted (v : Version) (old new : Before) (calls ends : ℕ) : Type 0 where
  total : new.calls ≡ old.calls + calls
  few : old.calls ≤ most_calls v → new.calls ≤ most_calls v
  ended : ends ≤ calls

counted_none : (v : Version) (b : Before) → Counted v b b 0 0
counted_none v b = record { total = omega arith; few = λ few. few; ended = omega arith }

counted_both : (v : Version) (b0 b1 b2 : Before) (calls ends more_calls more_ends all_calls all_ends : ℕ) → Counted v b0 b1 calls ends → Counted v b1 b2 more_calls more_ends →
    all_calls ≡ calls + more_calls → all_ends ≡ ends + more_ends → Counted v b0 b2 all_calls all_ends
counted_both v b0 b1 b2 calls ends more_calls more_ends all_calls all_ends first rest calls_are ends_are = record {
  total = (let one = first.total in let other = rest.total in omega (arith, one, other, calls_are));
  few = λ few. rest.few (first.few few);
  ended = (let one = first.ended in let other = rest.ended in omega (arith, one, other, calls_are, ends_are));
}

ok_is : (b last : Before) (o : Outcome) → o ≡ Ok b → o ≡ Ok last → b ≡ last
ok_is b last o is e = let same : Ok b ≡ Ok last = sym is ∙ e in cc

-- no rule is broken at a place of a list that is kept, and the rest is kept
kept_place : (fault : Rule → TraceFault) (rest : Outcome) (last : Before) (broken : Option Rule) → unless_broken (λ rule. Err (fault rule)) rest broken ≡ Ok last → (broken ≡ None) × (rest ≡ Ok last)
kept_place fault rest last None e = (refl, e)
kept_place fault rest last (Some rule) e = absurd cc

-- a call whose rules are kept is one of few, and has its form
few_and_formed : (a b c e f : Bool) → first_broken ((TooManyCalls, a) ∷ (UnknownOp, b) ∷ (TooDeep, c) ∷ (NotOfItsForm, e) ∷ (BoundBefore, f) ∷ []) ≡ None → (a ≡ false) × (e ≡ false)
few_and_formed false false false false false is = (refl, refl)
few_and_formed true b c e f is = absurd cc
few_and_formed false true c e f is = absurd cc
few_and_formed false false true e f is = absurd cc
few_and_formed false false false true f is = absurd cc
few_and_formed false false false false true is = absurd cc

-- what the calls of marks count
abbrev count_in : (TraceCall → Bool) → Version → List Mark → ℕ
count_in sort v ms = count_by sort (calls_of v ms)

-- as many calls as marks of calls, and as many ends as marks of ends
record AreMarked (v : Version) (old new : Before) (ms : List Mark) : Type 0 where
  total : new.calls ≡ old.calls + count_by is_call_mark ms
  few : old.calls ≤ most_calls v → new.calls ≤ most_calls v
  calls : count_in is_call v ms ≡ count_by is_call_mark ms
  ends : count_in is_end v ms ≡ count_by is_end_mark ms

-- one more mark of a call
marked_call : (v : Version) (b last : Before) (n : ℕ) (d : Data) (ms : List Mark) (c : Option TraceCall) → call_of v d ≡ c → is_none c ≡ false → IsNoEnd c → nat_le (most_calls v) b.calls ≡ false →
    AreMarked v (after v (a_call n d) b) last ms → AreMarked v b last (a_call n d ∷ ms)
unfolding IsNoEnd
marked_call v b last n d ms None is some no_end few rest = absurd cc
marked_call v b last n d ms (Some c) is some no_end few rest =
    let calls = count_cons is_call_mark (a_call n d) ms in
    let ends = count_cons is_end_mark (a_call n d) ms in
    let call_counts = ap (λ o. count_by is_call (cons_option o (calls_of v ms))) is ∙ count_cons is_call c (calls_of v ms) ∙ ap (λ t. cond (not t) 1 0 + count_in is_call v ms) no_end in
    let end_counts = ap (λ o. count_by is_end (cons_option o (calls_of v ms))) is ∙ count_cons is_end c (calls_of v ms) ∙ ap (λ t. cond t 1 0 + count_in is_end v ms) no_end in
    let within = leb-false (most_calls v) b.calls few in record {
      total = (let all = rest.total in omega (arith, all, calls));
      few = λ least. rest.few (omega (arith, within));
      calls = (let all = rest.calls in omega (arith, all, calls, call_counts));
      ends = (let all = rest.ends in omega (arith, all, ends, end_counts));
    }

marked : (v : Version) (p c : ℕ) (b last : Before) (ms : List Mark) → checked v b (placed p c ms) ≡ Ok last → AreMarked v b last ms
unfolding checked
marked v p c b last [] e = let same = ap (λ (b : Before). b.calls) (ok_is b last (Ok b) refl e) in
    record { total = omega (arith, same); few = λ few. omega (arith, same, few); calls = refl; ends = refl }
marked v p c b last (a_call n d ∷ ms) e =
    let kept = kept_place (fault_at b (record { phase = p; caller = c; mark = a_call n d })) (checked v (after v (a_call n d) b) (placed p c ms)) last (first_broken (call_rules v b n d)) e in
    let rules = few_and_formed (nat_le (most_calls v) b.calls) (is_none (op_of v d)) (is_too_deep v n d) (is_none (call_of v d)) (binds_again b (option_and_then bound_by (call_of v d))) kept.0 in
    marked_call v b last n d ms (call_of v d) refl rules.1 (calls_are_no_ends v d) rules.0 (marked v p c (after v (a_call n d) b) last ms kept.1)
marked v p c b last (end_of_loan ∷ ms) e =
    let rest = marked v p c b last ms e in
    let calls = count_cons is_call_mark end_of_loan ms in
    let ends = count_cons is_end_mark end_of_loan ms in
    let call_counts = count_cons is_call EndLoan (calls_of v ms) in
    let end_counts = count_cons is_end EndLoan (calls_of v ms) in record {
      total = (let all = rest.total in omega (arith, all, calls));
      few = rest.few;
      calls = (let all = rest.calls in omega (arith, all, calls, call_counts));
      ends = (let all = rest.ends in omega (arith, all, ends, end_counts));
    }
marked v p c b last (a_caller ∷ ms) e =
    let rest = marked v p c (after v a_caller b) last ms e in
    let calls = count_cons is_call_mark a_caller ms in
    let ends = count_cons is_end_mark a_caller ms in record {
      total = (let all = rest.total in omega (arith, all, calls));
      few = rest.few;
      calls = (let all = rest.calls in omega (arith, all, calls));
      ends = (let all = rest.ends in omega (arith, all, ends));
    }
marked v p c b last (a_phase d ∷ ms) e =
    let kept = kept_place (fault_at b (record { phase = p; caller = c; mark = a_phase d })) (checked v b (placed p c ms)) last (first_broken (rules_at v b (a_phase d))) e in
    let rest = marked v p c b last ms kept.1 in
    let calls = count_cons is_call_mark (a_phase d) ms in
    let ends = count_cons is_end_mark (a_phase d) ms in record {
      total = (let all = rest.total in omega (arith, all, calls));
      few = rest.few;
      calls = (let all = rest.calls in omega (arith, all, calls));
      ends = (let all = rest.ends in omega (arith, all, ends));
    }
marked v p c b last (more_phases ∷ ms) e = absurd cc

-- a caller, the callers of a phase, a phase, and all phases
of_caller : (v : Version) (p k : ℕ) (d : Data) (b last : Before) → checked v b (caller_places v p (k, d)) ≡ Ok last →
    Counted v b last (count_of_caller is_call (caller_of v d)) (count_of_caller is_end (caller_of v d))
unfolding checked
of_caller v p k d b last e =
    let all = marked v p k (after v a_caller b) last (marks v most_loans (items_of d)) e in
    let even = marks_are_even v most_loans (items_of d) in record {
      total = (let total = all.total in let calls = all.calls in omega (arith, total, calls));
      few = all.few;
      ended = (let calls = all.calls in let ends = all.ends in omega (arith, calls, ends, even));
    }

of_callers : (v : Version) (p k : ℕ) (ds : List Data) (b last : Before) → checked v b (flat_map (caller_places v p) (numbered k ds)) ≡ Ok last →
    Counted v b last (sum_by (count_of_caller is_call) (map (caller_of v) ds)) (sum_by (count_of_caller is_end) (map (caller_of v) ds))
unfolding checked
of_callers v p k [] b last e = subst (λ last. Counted v b last 0 0) (ok_is b last (Ok b) refl e) (counted_none v b)
of_callers v p k (d ∷ ds) b last e =
    let cut = pieces v b last (caller_places v p (k, d)) (flat_map (caller_places v p) (numbered (suc k) ds)) (ap (checked v b) (sym (flat_map-cons (caller_places v p) (k, d) (numbered (suc k) ds))) ∙ e) in
    counted_both v b cut.0 last _ _ _ _ _ _ (of_caller v p k d b cut.0 cut.1) (of_callers v p (suc k) ds cut.0 last cut.2)
    (sum_by-cons (count_of_caller is_call) (caller_of v d) (map (caller_of v) ds)) (sum_by-cons (count_of_caller is_end) (caller_of v d) (map (caller_of v) ds))

of_phase : (v : Version) (k : ℕ) (d : Data) (b last : Before) → checked v b (phase_places v (k, d)) ≡ Ok last →
    Counted v b last (count_of_phase is_call (phase_of v d)) (count_of_phase is_end (phase_of v d))
unfolding checked
of_phase v k d b last e =
    let rest = flat_map (caller_places v k) (numbered 0 (items_at (codes "callers") d)) in
    of_callers v k 0 (items_at (codes "callers") d) b last
    (kept_place (fault_at b (record { phase = k; caller = 0; mark = a_phase d })) (checked v b rest) last (first_broken (rules_at v b (a_phase d))) e).1

of_phases : (v : Version) (k : ℕ) (ds : List Data) (b last : Before) → checked v b (flat_map (phase_places v) (numbered k ds)) ≡ Ok last →
    Counted v b last (sum_by (count_of_phase is_call) (map (phase_of v) ds)) (sum_by (count_of_phase is_end) (map (phase_of v) ds))
unfolding checked
of_phases v k [] b last e = subst (λ last. Counted v b last 0 0) (ok_is b last (Ok b) refl e) (counted_none v b)
of_phases v k (d ∷ ds) b last e =
    let cut = pieces v b last (phase_places v (k, d)) (flat_map (phase_places v) (numbered (suc k) ds)) (ap (checked v b) (sym (flat_map-cons (phase_places v) (k, d) (numbered (suc k) ds))) ∙ e) in
    counted_both v b cut.0 last _ _ _ _ _ _ (of_phase v k d b cut.0 cut.1) (of_phases v (suc k) ds cut.0 last cut.2)
    (sum_by-cons (count_of_phase is_call) (phase_of v d) (map (phase_of v) ds)) (sum_by-cons (count_of_phase is_end) (phase_of v d) (map (phase_of v) ds))

-- no version has more
at_most : (v : Version) → most_calls v ≤ 262144
at_most One = omega arith
at_most Two = omega arith

pub has_few_calls : (bytes : List ℕ) (trace : Trace) → trace_of bytes ≡ Ok trace → calls_in trace ≤ 262144
has_few_calls bytes trace e =
    let w = was_checked bytes trace e in
    let all = of_phases w.version 0 w.phases nothing_before w.last w.kept in
    let few = all.few (omega arith) in
    let total = all.total in
    let most = at_most w.version in
    subst (λ (trace : Trace). calls_in trace ≤ 262144) w.is (omega (arith, few, total, most))

pub has_few_ends : (bytes : List ℕ) (trace : Trace) → trace_of bytes ≡ Ok trace → ends_in trace ≤ calls_in trace
has_few_ends bytes trace e =
    let w = was_checked bytes trace e in
    subst (λ (trace : Trace). ends_in trace ≤ calls_in trace) w.is (of_phases w.version 0 w.phases nothing_before w.last w.kept).ended
