-- The rules of one call.
use Rattle.std.proofs.Common.{◌≡◌, ℕ, suc, ◌<◌, [], ◌∷◌, Bool, true, false, Option, Some, None, Ok, Err, refl, ap, sym, ◌∙◌, subst, arith}
use Rattle.std.specs.Prelude.{not, is_none, nat_le, option_and_then}
use Rattle.std.proofs.lemmas.Bool.Decides.{nat_tests}
use Rattle.serde_json.specs.Data.{Data}
use Rattle.trace_text.specs.Ops.{most_calls}
use Rattle.trace_text.specs.Forms.{call_form}
use Rattle.trace_text.specs.Places.{a_call, op_of, placed}
use Rattle.trace_text.specs.Reading.{Before, after, binds_again, bound_by, call_of, call_rules, checked, first_broken, is_too_deep, rule_number, unless_broken, with_label, Tells}
use Rattle.trace_text.specs.declared.ops.Version.{Version}
use Rattle.trace_text.specs.declared.ops.Op.{Op}
use Rattle.trace_text.specs.declared.fault.Rule.{Rule}
use Rattle.trace_text.specs.declared.fault.Rule.TheVariants.{TooManyCalls, TooDeep, UnknownOp, NotOfItsForm, BoundBefore}
use Rattle.trace_text.specs.declared.fault.TraceFault.{TraceFault}
use Rattle.trace_text.specs.declared.fault.TraceError.{TraceError}
use Rattle.trace_text.specs.declared.fault.TraceError.TheVariants.{Broken}
use Rattle.trace_text.specs.declared.calls.TraceCall.{TraceCall}

-- the fault of a call
abbrev pub call_fault : ℕ → ℕ → ℕ → Rule → TraceFault
call_fault p c k rule = record { rule = rule_number rule; phase = p; caller = c; call = k }

pub checked-broken_call : (v : Version) (b : Before) (p c n : ℕ) (d : Data) (rule : Rule) → first_broken (call_rules v b n d) ≡ Some rule →
    checked v b (placed p c (a_call n d ∷ [])) ≡ Err (call_fault p c b.of_caller rule)
unfolding checked
checked-broken_call v b p c n d rule is =
    ap (unless_broken (λ r. Err (call_fault p c b.of_caller r)) (checked v (after v (a_call n d) b) [])) is

pub checked-call : (v : Version) (b : Before) (p c n : ℕ) (d : Data) → first_broken (call_rules v b n d) ≡ None →
    checked v b (placed p c (a_call n d ∷ [])) ≡ Ok (after v (a_call n d) b)
unfolding checked
checked-call v b p c n d is =
    ap (unless_broken (λ r. Err (call_fault p c b.of_caller r)) (checked v (after v (a_call n d) b) [])) is

-- what a reader tells of a broken call
pub tells_broken : (v : Version) (b : Before) (p c n k : ℕ) (d : Data) (rule : Rule) (e : TraceError) → first_broken (call_rules v b n d) ≡ Some rule →
    k ≡ b.of_caller → e ≡ Broken (call_fault p c k rule) → Tells (checked v b (placed p c (a_call n d ∷ []))) e
tells_broken v b p c n k d rule e is number told =
    let P : TraceError → Type 0 = λ e. Tells (checked v b (placed p c (a_call n d ∷ []))) e in
    subst P (sym told) (checked-broken_call v b p c n d rule is ∙ ap (λ k. Err (call_fault p c k rule)) (sym number))

-- the first of the five rules that is broken
abbrev five : Bool → Bool → Bool → Bool → Bool → Option Rule
five a b c e f = first_broken ((TooManyCalls, a) ∷ (UnknownOp, b) ∷ (TooDeep, c) ∷ (NotOfItsForm, e) ∷ (BoundBefore, f) ∷ [])

fourth : (a b c e f : Bool) → a ≡ false → b ≡ false → c ≡ false → e ≡ true → five a b c e f ≡ Some NotOfItsForm
fourth a b c e f p q r s = rw (p, q, r, s) refl

fifth : (a b c e f : Bool) → a ≡ false → b ≡ false → c ≡ false → e ≡ false → f ≡ true → five a b c e f ≡ Some BoundBefore
fifth a b c e f p q r s t = rw (p, q, r, s, t) refl

none_of_five : (a b c e f : Bool) → a ≡ false → b ≡ false → c ≡ false → e ≡ false → f ≡ false → five a b c e f ≡ None
none_of_five a b c e f p q r s t = rw (p, q, r, s, t) refl

not_many : (most calls : ℕ) → calls < most → nat_le most calls ≡ false
not_many most calls h = grind (arith, nat_tests)

call_of-form : (v : Version) (d : Data) (op : Op) (call : Option TraceCall) → op_of v d ≡ Some op → call ≡ call_form op d → call_of v d ≡ call
call_of-form v d op call is form = ap (λ o. option_and_then (λ op. call_form op d) o) is ∙ sym form

-- a call that has its first three rules, and not its form
pub breaks_form : (v : Version) (b : Before) (n calls : ℕ) (d : Data) (op : Op) → b.calls ≡ calls → calls < most_calls v → op_of v d ≡ Some op → is_too_deep v n d ≡ false →
    None ≡ call_form op d → first_broken (call_rules v b n d) ≡ Some NotOfItsForm
breaks_form v b n calls d op same few is deep form =
    fourth _ _ _ _ _ (not_many (most_calls v) b.calls (subst (λ k. k < most_calls v) (sym same) few)) (ap is_none is) deep (ap is_none (call_of-form v d op None is form))

-- one that binds a label again
pub breaks_label : (v : Version) (b : Before) (n calls : ℕ) (d : Data) (op : Op) (call : TraceCall) → b.calls ≡ calls → calls < most_calls v → op_of v d ≡ Some op → is_too_deep v n d ≡ false →
    Some call ≡ call_form op d → binds_again b (bound_by call) ≡ true → first_broken (call_rules v b n d) ≡ Some BoundBefore
breaks_label v b n calls d op call same few is deep form again =
    fifth _ _ _ _ _ (not_many (most_calls v) b.calls (subst (λ k. k < most_calls v) (sym same) few)) (ap is_none is) deep (ap is_none (call_of-form v d op (Some call) is form))
    (ap (λ o. binds_again b (option_and_then bound_by o)) (call_of-form v d op (Some call) is form) ∙ again)

breaks_none : (v : Version) (b : Before) (n calls : ℕ) (d : Data) (op : Op) (call : TraceCall) → b.calls ≡ calls → calls < most_calls v → op_of v d ≡ Some op → is_too_deep v n d ≡ false →
    Some call ≡ call_form op d → binds_again b (bound_by call) ≡ false → first_broken (call_rules v b n d) ≡ None
breaks_none v b n calls d op call same few is deep form fresh =
    none_of_five _ _ _ _ _ (not_many (most_calls v) b.calls (subst (λ k. k < most_calls v) (sym same) few)) (ap is_none is) deep (ap is_none (call_of-form v d op (Some call) is form))
    (ap (λ o. binds_again b (option_and_then bound_by o)) (call_of-form v d op (Some call) is form) ∙ fresh)

after-label : (v : Version) (b b1 b2 : Before) (n : ℕ) (d : Data) (call : TraceCall) → call_of v d ≡ Some call →
    b1 ≡ record { calls = b.calls; of_caller = b.of_caller; labels = with_label (bound_by call) b.labels } →
    b2 ≡ record { calls = suc b1.calls; of_caller = suc b1.of_caller; labels = b1.labels } → after v (a_call n d) b ≡ b2
after-label v b b1 b2 n d call is bound counted =
    ap (λ o. record { calls = suc b.calls; of_caller = suc b.of_caller; labels = with_label (option_and_then bound_by o) b.labels }) is
    ∙ ap (λ x. record { calls = suc x.calls; of_caller = suc x.of_caller; labels = x.labels }) (sym bound) ∙ sym counted

-- one that breaks no rule: its label is bound, and it is counted
pub reads_call : (v : Version) (b b1 b2 : Before) (p c n calls : ℕ) (d : Data) (op : Op) (call : TraceCall) → b.calls ≡ calls → calls < most_calls v → op_of v d ≡ Some op →
    is_too_deep v n d ≡ false → Some call ≡ call_form op d → binds_again b (bound_by call) ≡ false →
    b1 ≡ record { calls = b.calls; of_caller = b.of_caller; labels = with_label (bound_by call) b.labels } →
    b2 ≡ record { calls = suc b1.calls; of_caller = suc b1.of_caller; labels = b1.labels } →
    checked v b (placed p c (a_call n d ∷ [])) ≡ Ok b2
reads_call v b b1 b2 p c n calls d op call same few is deep form fresh bound counted =
    checked-call v b p c n d (breaks_none v b n calls d op call same few is deep form fresh)
    ∙ ap Ok (after-label v b b1 b2 n d call (call_of-form v d op (Some call) is form) bound counted)

-- a label was bound before exactly where it was not added
pub not_added : (added again : Bool) → added ≡ not again → added ≡ false → again ≡ true
not_added added true is false_is = refl
not_added added false is false_is = sym false_is ∙ is

pub is_added : (added again : Bool) → added ≡ not again → added ≡ true → again ≡ false
is_added added true is true_is = sym true_is ∙ is
is_added added false is true_is = refl
