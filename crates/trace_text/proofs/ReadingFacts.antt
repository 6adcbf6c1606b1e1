-- The places of a text, one piece after the other.
use Rattle.std.proofs.Common.{◌≡◌, ℕ, zero, suc, ◌+◌, ◌-◌, ◌<◌, ◌≤◌, ◌&&◌, List, [], ◌∷◌, ◌++◌, Bool, true, false, Option, Some, None, Result, Ok, Err, map, drop, length, get_or, refl, ap, sym, ◌∙◌, subst, append_assoc, append-nil, add-one, arith}
use Rattle.std.specs.Result.{IsErr, IsErrAnd}
use Rattle.std.specs.Prelude.{codes, option_and_then, if◌then◌else◌}
use Rattle.std.specs.List.{cons_option, flat_map, list_all}
use Rattle.std.proofs.lemmas.Bool.{le-leb}
use Rattle.std.proofs.lemmas.List.{map-append, length-map}
use Rattle.std.proofs.lemmas.List.Folds.{list_all-map}
use Rattle.std.proofs.lemmas.List.Elements.{filter_map-append}
use Rattle.serde_json.specs.Data.{Data}
use Rattle.serde_json.specs.View.{view}
use Rattle.serde_json.specs.declared.value.Value.{Value}
use Rattle.trace_text.specs.Json.{has_only, is_list}
use Rattle.trace_text.specs.Ops.{is_loan}
use Rattle.trace_text.specs.Places.{Mark, a_call, end_of_loan, Place, op_of, items_at, inner_calls, inside, marks, numbered, placed}
use Rattle.trace_text.specs.Reading.{Before, after, call_at, call_of, calls_of, checked, fault_at, first_broken, rules_at, unless_broken, is_phase, Tells}
use Rattle.trace_text.specs.declared.ops.Version.{Version}
use Rattle.trace_text.specs.declared.ops.Op.{Op}
use Rattle.trace_text.specs.declared.fault.Rule.{Rule}
use Rattle.trace_text.specs.declared.fault.TraceFault.{TraceFault}
use Rattle.trace_text.specs.declared.fault.TraceError.{TraceError}
use Rattle.trace_text.specs.declared.fault.TraceError.TheVariants.{Broken, NoMemory}
use Rattle.trace_text.specs.declared.calls.TraceCall.{TraceCall}
use Rattle.trace_text.specs.declared.calls.TraceCall.TheVariants.{EndLoan}
use Rattle.trace_text.proofs.JsonFacts.{next_item, drop_past}

-- what is left of a list begins with the item at hand
item_here : {V : Type 0} (vs : List V) (i : ℕ) (e : V) → i < length vs → e ≡ get_or vs i e → drop i vs ≡ e ∷ drop (i + 1) vs
item_here vs i e within here = next_item vs i e within ∙ ap (λ x. x ∷ drop (i + 1) vs) (sym here)

abbrev pub Outcome : Type 0
Outcome = Result Before TraceFault

abbrev pub and_then : Outcome → (Before → Outcome) → Outcome
and_then (Ok before) go_on = go_on before
and_then (Err fault) go_on = Err fault

unless_broken-and_then : (fault : Rule → TraceFault) (o : Outcome) (go_on : Before → Outcome) (rule : Option Rule) →
    unless_broken (λ r. Err (fault r)) (and_then o go_on) rule ≡ and_then (unless_broken (λ r. Err (fault r)) o rule) go_on
unless_broken-and_then fault o go_on None = refl
unless_broken-and_then fault o go_on (Some rule) = refl

-- places in two pieces
pub checked-append : (v : Version) (before : Before) (xs ys : List Place) → checked v before (xs ++ ys) ≡ and_then (checked v before xs) (λ b. checked v b ys)
unfolding checked
checked-append v before [] ys = refl
checked-append v before (x ∷ xs) ys =
    ap (λ o. unless_broken (λ rule. Err (fault_at before x rule)) o (first_broken (rules_at v before x.mark))) (checked-append v (after v x.mark before) xs ys)
    ∙ unless_broken-and_then (fault_at before x) (checked v (after v x.mark before) xs) (λ b. checked v b ys) (first_broken (rules_at v before x.mark))

pub checked-nil : (v : Version) (before : Before) → checked v before [] ≡ Ok before
unfolding checked
checked-nil v before = refl

-- a first piece that breaks no rule, and one that breaks one
pub past_piece : (v : Version) (b0 b1 : Before) (xs ys : List Place) → checked v b0 xs ≡ Ok b1 → checked v b0 (xs ++ ys) ≡ checked v b1 ys
past_piece v b0 b1 xs ys is = checked-append v b0 xs ys ∙ ap (λ o. and_then o (λ b. checked v b ys)) is

pub broken_piece : (v : Version) (b0 : Before) (fault : TraceFault) (xs ys : List Place) → checked v b0 xs ≡ Err fault → checked v b0 (xs ++ ys) ≡ Err fault
broken_piece v b0 fault xs ys is = checked-append v b0 xs ys ∙ ap (λ o. and_then o (λ b. checked v b ys)) is

-- what the error of a piece tells, it tells of more
pub tells_more : (o more : Outcome) (e : TraceError) → ((fault : TraceFault) → o ≡ Err fault → more ≡ Err fault) → Tells o e → Tells more e
tells_more o more (Broken fault) goes is = goes fault is
tells_more o more NoMemory goes is = tt

-- ---- the calls of a caller

-- the marks of what stands inside a call
abbrev pub inside_of : Version → ℕ → Data → List Mark
inside_of v zero d = []
inside_of v (suc n) d = inside (marks v n) (inner_calls v d)

pub marks-nil : (v : Version) (n : ℕ) → marks v n [] ≡ []
unfolding marks
marks-nil v zero = refl
marks-nil v (suc n) = refl

pub marks-cons : (v : Version) (n : ℕ) (d : Data) (ds : List Data) → marks v n (d ∷ ds) ≡ (a_call n d ∷ inside_of v n d) ++ marks v n ds
unfolding marks
marks-cons v zero d ds = refl
marks-cons v (suc n) d ds = refl

-- no calls stand inside a call that is no loan
pub inside_of-other : (v : Version) (n : ℕ) (d : Data) (op : Op) → op_of v d ≡ Some op → is_loan op ≡ false → inside_of v n d ≡ []
inside_of-other v zero d op is other = refl
inside_of-other v (suc n) d op is other =
    ap (λ o. inside (marks v n) (option_and_then (λ op. if is_loan op then Some (items_at (codes "calls") d) else None) o)) is
    ∙ ap (λ b. inside (marks v n) (if b then Some (items_at (codes "calls") d) else None)) other

pub inside_of-loan : (v : Version) (n : ℕ) (d : Data) (op : Op) → op_of v d ≡ Some op → is_loan op ≡ true →
    inside_of v (suc n) d ≡ marks v n (items_at (codes "calls") d) ++ end_of_loan ∷ []
inside_of-loan v n d op is loan =
    ap (λ o. inside (marks v n) (option_and_then (λ op. if is_loan op then Some (items_at (codes "calls") d) else None) o)) is
    ∙ ap (λ b. inside (marks v n) (if b then Some (items_at (codes "calls") d) else None)) loan

-- the end of a loan breaks no rule
pub past_end : (v : Version) (b0 b1 : Before) (p c : ℕ) (ms : List Mark) → checked v b0 (placed p c ms) ≡ Ok b1 → checked v b0 (placed p c (ms ++ end_of_loan ∷ [])) ≡ Ok b1
unfolding checked
past_end v b0 b1 p c ms is =
    ap (checked v b0) (map-append (λ m. record { phase = p; caller = c; mark = m }) ms (end_of_loan ∷ [])) ∙ past_piece v b0 b1 (placed p c ms) (placed p c (end_of_loan ∷ [])) is

-- the places of a list of calls: those of the first call, and then the others
placed-marks : (v : Version) (n p c : ℕ) (d : Data) (ds : List Data) (inner : List Mark) → inside_of v n d ≡ inner →
    placed p c (marks v n (d ∷ ds)) ≡ placed p c (a_call n d ∷ []) ++ (placed p c inner ++ placed p c (marks v n ds))
placed-marks v n p c d ds inner is =
    ap (placed p c) (marks-cons v n d ds ∙ ap (λ ms. (a_call n d ∷ ms) ++ marks v n ds) is)
    ∙ map-append (λ m. record { phase = p; caller = c; mark = m }) (a_call n d ∷ inner) (marks v n ds)

pub past_call : (v : Version) (n p c : ℕ) (b0 b1 b2 : Before) (d : Data) (ds : List Data) (inner : List Mark) →
    checked v b0 (placed p c (a_call n d ∷ [])) ≡ Ok b1 → inside_of v n d ≡ inner → checked v b1 (placed p c inner) ≡ Ok b2 →
    checked v b0 (placed p c (marks v n (d ∷ ds))) ≡ checked v b2 (placed p c (marks v n ds))
past_call v n p c b0 b1 b2 d ds inner first is then_ =
    ap (checked v b0) (placed-marks v n p c d ds inner is)
    ∙ past_piece v b0 b1 (placed p c (a_call n d ∷ [])) (placed p c inner ++ placed p c (marks v n ds)) first
    ∙ past_piece v b1 b2 (placed p c inner) (placed p c (marks v n ds)) then_

pub broken_call : (v : Version) (n p c : ℕ) (b0 : Before) (fault : TraceFault) (d : Data) (ds : List Data) →
    checked v b0 (placed p c (a_call n d ∷ [])) ≡ Err fault → checked v b0 (placed p c (marks v n (d ∷ ds))) ≡ Err fault
broken_call v n p c b0 fault d ds is =
    ap (checked v b0) (placed-marks v n p c d ds (inside_of v n d) refl)
    ∙ broken_piece v b0 fault (placed p c (a_call n d ∷ [])) (placed p c (inside_of v n d) ++ placed p c (marks v n ds)) is

pub broken_inside : (v : Version) (n p c : ℕ) (b0 b1 : Before) (fault : TraceFault) (d : Data) (ds : List Data) (inner : List Mark) →
    checked v b0 (placed p c (a_call n d ∷ [])) ≡ Ok b1 → inside_of v n d ≡ inner ++ end_of_loan ∷ [] → checked v b1 (placed p c inner) ≡ Err fault →
    checked v b0 (placed p c (marks v n (d ∷ ds))) ≡ Err fault
broken_inside v n p c b0 b1 fault d ds inner first is then_ =
    ap (checked v b0) (placed-marks v n p c d ds (inner ++ end_of_loan ∷ []) is)
    ∙ past_piece v b0 b1 (placed p c (a_call n d ∷ [])) (placed p c (inner ++ end_of_loan ∷ []) ++ placed p c (marks v n ds)) first
    ∙ broken_piece v b1 fault (placed p c (inner ++ end_of_loan ∷ [])) (placed p c (marks v n ds))
    (ap (checked v b1) (map-append (λ m. record { phase = p; caller = c; mark = m }) inner (end_of_loan ∷ [])) ∙ broken_piece v b1 fault (placed p c inner) (placed p c (end_of_loan ∷ [])) then_)

-- what the calls say
calls_of-cons : (v : Version) (n : ℕ) (d : Data) (call : TraceCall) (ms : List Mark) → call_of v d ≡ Some call → calls_of v (a_call n d ∷ ms) ≡ call ∷ calls_of v ms
calls_of-cons v n d call ms is = ap (λ o. cons_option o (calls_of v ms)) is

pub calls_of-marks : (v : Version) (n : ℕ) (d : Data) (ds : List Data) (call : TraceCall) (inner : List Mark) → call_of v d ≡ Some call → inside_of v n d ≡ inner →
    calls_of v (marks v n (d ∷ ds)) ≡ call ∷ (calls_of v inner ++ calls_of v (marks v n ds))
calls_of-marks v n d ds call inner is inside_is =
    ap (calls_of v) (marks-cons v n d ds ∙ ap (λ ms. (a_call n d ∷ ms) ++ marks v n ds) inside_is)
    ∙ calls_of-cons v n d call (inner ++ marks v n ds) is
    ∙ ap (λ cs. call ∷ cs) (filter_map-append (call_at v) inner (marks v n ds))

pub calls_of-end : (v : Version) (ms : List Mark) → calls_of v (ms ++ end_of_loan ∷ []) ≡ calls_of v ms ++ EndLoan ∷ []
calls_of-end v ms = filter_map-append (call_at v) ms (end_of_loan ∷ [])

-- a loop over calls: the places that are left, and what their calls say
abbrev pub places_left : Version → ℕ → ℕ → ℕ → Before → List Value → Outcome
places_left v n p c b vs = checked v b (placed p c (marks v n (map view vs)))

pub places-step : (v : Version) (n p c : ℕ) (vs : List Value) (i : ℕ) (e : Value) (b0 b1 b2 : Before) (inner : List Mark) (all : Outcome) → i < length vs → e ≡ get_or vs i e →
    checked v b0 (placed p c (a_call n (view e) ∷ [])) ≡ Ok b1 → inside_of v n (view e) ≡ inner → checked v b1 (placed p c inner) ≡ Ok b2 →
    places_left v n p c b0 (drop i vs) ≡ all → places_left v n p c b2 (drop (i + 1) vs) ≡ all
places-step v n p c vs i e b0 b1 b2 inner all within here first is then_ before =
    sym (past_call v n p c b0 b1 b2 (view e) (map view (drop (i + 1) vs)) inner first is then_)
    ∙ ap (places_left v n p c b0) (sym (item_here vs i e within here)) ∙ before

pub places-broken : (v : Version) (n p c : ℕ) (vs : List Value) (i : ℕ) (e : Value) (b0 : Before) (all : Outcome) (fault : TraceFault) → i < length vs → e ≡ get_or vs i e →
    places_left v n p c b0 (drop i vs) ≡ all → checked v b0 (placed p c (a_call n (view e) ∷ [])) ≡ Err fault → all ≡ Err fault
places-broken v n p c vs i e b0 all fault within here before is =
    sym before ∙ ap (places_left v n p c b0) (item_here vs i e within here)
    ∙ broken_call v n p c b0 fault (view e) (map view (drop (i + 1) vs)) is

pub places-broken_inside : (v : Version) (n p c : ℕ) (vs : List Value) (i : ℕ) (e : Value) (b0 b1 : Before) (inner : List Mark) (all : Outcome) (fault : TraceFault) → i < length vs → e ≡ get_or vs i e →
    places_left v n p c b0 (drop i vs) ≡ all → checked v b0 (placed p c (a_call n (view e) ∷ [])) ≡ Ok b1 →
    inside_of v n (view e) ≡ inner ++ end_of_loan ∷ [] → checked v b1 (placed p c inner) ≡ Err fault → all ≡ Err fault
places-broken_inside v n p c vs i e b0 b1 inner all fault within here before first is then_ =
    sym before ∙ ap (places_left v n p c b0) (item_here vs i e within here)
    ∙ broken_inside v n p c b0 b1 fault (view e) (map view (drop (i + 1) vs)) inner first is then_

pub places-end : (v : Version) (n p c : ℕ) (vs : List Value) (i : ℕ) (b : Before) (all : Outcome) → length vs ≤ i → places_left v n p c b (drop i vs) ≡ all → all ≡ Ok b
places-end v n p c vs i b all past before =
    sym before ∙ ap (places_left v n p c b) (drop_past vs i past) ∙ ap (λ ms. checked v b (placed p c ms)) (marks-nil v n) ∙ checked-nil v b

abbrev pub calls_left : Version → ℕ → List Value → List TraceCall
calls_left v n vs = calls_of v (marks v n (map view vs))

pub calls-step : (v : Version) (n : ℕ) (vs : List Value) (i : ℕ) (e : Value) (cs0 cs2 : List TraceCall) (call : TraceCall) (inner : List Mark) (all : List TraceCall) → i < length vs → e ≡ get_or vs i e →
    call_of v (view e) ≡ Some call → inside_of v n (view e) ≡ inner → cs2 ≡ cs0 ++ call ∷ calls_of v inner →
    cs0 ++ calls_left v n (drop i vs) ≡ all → cs2 ++ calls_left v n (drop (i + 1) vs) ≡ all
calls-step v n vs i e cs0 cs2 call inner all within here is inside_is grown before =
    ap (λ cs. cs ++ calls_left v n (drop (i + 1) vs)) grown
    ∙ append_assoc cs0 (call ∷ calls_of v inner) (calls_left v n (drop (i + 1) vs))
    ∙ ap (λ cs. cs0 ++ cs) (sym (calls_of-marks v n (view e) (map view (drop (i + 1) vs)) call inner is inside_is))
    ∙ ap (λ rest. cs0 ++ calls_left v n rest) (sym (item_here vs i e within here)) ∙ before

pub calls-end : (v : Version) (n : ℕ) (vs : List Value) (i : ℕ) (cs all : List TraceCall) → length vs ≤ i → cs ++ calls_left v n (drop i vs) ≡ all → cs ≡ all
calls-end v n vs i cs all past before =
    sym (append-nil cs) ∙ ap (λ ms. cs ++ calls_of v ms) (sym (marks-nil v n)) ∙ ap (λ rest. cs ++ calls_left v n rest) (sym (drop_past vs i past)) ∙ before

-- the calls inside a loan, as a reader finds them
pub inside-loan : (v : Version) (n : ℕ) (d : Data) (op : Op) (ds : List Data) → op_of v d ≡ Some op → is_loan op ≡ true → 0 < n → ds ≡ items_at (codes "calls") d →
    inside_of v n d ≡ marks v (n - 1) ds ++ end_of_loan ∷ []
inside-loan v zero d op ds is loan some are = absurd (omega (arith, some))
inside-loan v (suc n) d op ds is loan some are =
    let less : n ≡ suc n - 1 = omega arith in
    inside_of-loan v n d op is loan ∙ ap (λ m. marks v m (items_at (codes "calls") d) ++ end_of_loan ∷ []) less
    ∙ ap (λ rest. marks v (suc n - 1) rest ++ end_of_loan ∷ []) (sym are)

-- what was read with a loan: its call, the calls inside it, and its end
pub loan-grown : (v : Version) (cs0 cs1 cs2 cs3 : List TraceCall) (call : TraceCall) (inner : List Mark) → cs1 ≡ cs0 ++ call ∷ [] → cs2 ≡ cs1 ++ calls_of v inner → cs3 ≡ cs2 ++ EndLoan ∷ [] →
    cs3 ≡ cs0 ++ call ∷ calls_of v (inner ++ end_of_loan ∷ [])
loan-grown v cs0 cs1 cs2 cs3 call inner first then_ last =
    last ∙ ap (λ cs. cs ++ EndLoan ∷ []) (then_ ∙ ap (λ cs. cs ++ calls_of v inner) first)
    ∙ append_assoc (cs0 ++ call ∷ []) (calls_of v inner) (EndLoan ∷ []) ∙ append_assoc cs0 (call ∷ []) (calls_of v inner ++ EndLoan ∷ [])
    ∙ ap (λ cs. cs0 ++ call ∷ cs) (sym (calls_of-end v inner))

-- an error that is handed on
pub handed_on : {A : Type 0} (r : Result A TraceError) (e : TraceError) → IsErr r × IsErrAnd r (λ x. x ≡ e) → r ≡ Err e
handed_on (Ok x) e h = absurd h.1
handed_on (Err x) e h = ap Err h.1

-- ---- the callers of a phase, and the phases

pub past_item : (f : ℕ × Data → List Place) (v : Version) (k : ℕ) (b0 b1 : Before) (d : Data) (ds : List Data) → checked v b0 (f (k, d)) ≡ Ok b1 →
    checked v b0 (flat_map f (numbered k (d ∷ ds))) ≡ checked v b1 (flat_map f (numbered (k + 1) ds))
past_item f v k b0 b1 d ds is =
    past_piece v b0 b1 (f (k, d)) (flat_map f (numbered (suc k) ds)) is ∙ ap (λ n. checked v b1 (flat_map f (numbered n ds))) (sym (add-one k))

pub broken_item : (f : ℕ × Data → List Place) (v : Version) (k : ℕ) (b0 : Before) (fault : TraceFault) (d : Data) (ds : List Data) → checked v b0 (f (k, d)) ≡ Err fault →
    checked v b0 (flat_map f (numbered k (d ∷ ds))) ≡ Err fault
broken_item f v k b0 fault d ds is = broken_piece v b0 fault (f (k, d)) (flat_map f (numbered (suc k) ds)) is

-- a loop over callers or phases: what is left to check
pub rest-step : (f : ℕ × Data → List Place) (v : Version) (vs : List Value) (i k : ℕ) (e : Value) (b0 b1 : Before) (all : Outcome) →
    i < length vs → e ≡ get_or vs i e → checked v b0 (f (k, view e)) ≡ Ok b1 → checked v b0 (flat_map f (numbered k (map view (drop i vs)))) ≡ all →
    checked v b1 (flat_map f (numbered (k + 1) (map view (drop (i + 1) vs)))) ≡ all
rest-step f v vs i k e b0 b1 all within here is before =
    sym (past_item f v k b0 b1 (view e) (map view (drop (i + 1) vs)) is)
    ∙ ap (λ rest. checked v b0 (flat_map f (numbered k (map view rest)))) (sym (item_here vs i e within here)) ∙ before

pub rest-broken : (f : ℕ × Data → List Place) (v : Version) (vs : List Value) (i k : ℕ) (e : Value) (b0 : Before) (fault : TraceFault) (all : Outcome) →
    i < length vs → e ≡ get_or vs i e → checked v b0 (f (k, view e)) ≡ Err fault → checked v b0 (flat_map f (numbered k (map view (drop i vs)))) ≡ all → all ≡ Err fault
rest-broken f v vs i k e b0 fault all within here is before =
    sym before ∙ ap (λ rest. checked v b0 (flat_map f (numbered k (map view rest)))) (item_here vs i e within here)
    ∙ broken_item f v k b0 fault (view e) (map view (drop (i + 1) vs)) is

pub rest-ends : (f : ℕ × Data → List Place) (v : Version) (vs : List Value) (i k : ℕ) (b : Before) (all : Outcome) →
    length vs ≤ i → checked v b (flat_map f (numbered k (map view (drop i vs)))) ≡ all → all ≡ Ok b
rest-ends f v vs i k b all past before =
    sym before ∙ ap (λ rest. checked v b (flat_map f (numbered k (map view rest)))) (drop_past vs i past) ∙ checked-nil v b

-- a loop that makes something of each value
pub made-step : {A : Type 0} (g : Data → A) (vs : List Value) (i : ℕ) (e : Value) (found new : List A) (x : A) (all : List A) → i < length vs → e ≡ get_or vs i e → x ≡ g (view e) →
    new ≡ found ++ x ∷ [] → found ++ map g (map view (drop i vs)) ≡ all → new ++ map g (map view (drop (i + 1) vs)) ≡ all
made-step g vs i e found new x all within here is grown before =
    ap (λ n. n ++ map g (map view (drop (i + 1) vs))) grown ∙ append_assoc found (x ∷ []) (map g (map view (drop (i + 1) vs)))
    ∙ ap (λ y. found ++ y ∷ map g (map view (drop (i + 1) vs))) is
    ∙ ap (λ rest. found ++ map g (map view rest)) (sym (item_here vs i e within here)) ∙ before

pub made-ends : {A : Type 0} (g : Data → A) (vs : List Value) (i : ℕ) (found all : List A) → length vs ≤ i → found ++ map g (map view (drop i vs)) ≡ all → found ≡ all
made-ends g vs i found all past before = sym (append-nil found) ∙ ap (λ rest. found ++ map g (map view rest)) (sym (drop_past vs i past)) ∙ before

-- ---- a phase

four_tests : (a b c e : Bool) → a ≡ true → b ≡ true → c ≡ true → e ≡ (a && b && c && e)
four_tests a b c e p q r = rw (p, q, r) refl

pub is_phase-lists : (d : Data) (vs : List Value) → map view vs ≡ items_at (codes "callers") d → has_only (codes "callers" ∷ []) d ≡ true → 1 ≤ length vs → length vs ≤ 8 →
    list_all (λ v. is_list (view v)) vs ≡ is_phase d
is_phase-lists d vs are keys some few =
    let size : length vs ≡ length (items_at (codes "callers") d) = sym (length-map vs view) ∙ ap length are in
    sym (list_all-map is_list view vs) ∙ ap (list_all is_list) are
    ∙ four_tests _ _ _ _ keys (le-leb 1 _ (subst (λ n. 1 ≤ n) size some)) (le-leb _ 8 (subst (λ n. n ≤ 8) size few))
