-- Lists of calls that keep all rules of a trace, of the first version, outside of loans.
use Rattle.std.proofs.Common.{◌≡◌, ℕ, suc, ◌+◌, ◌<◌, ◌≤◌, ◌&&◌, Bool, true, false, not, List, [], ◌∷◌, Option, Some, None, Ok, length, refl, ap, sym, ◌∙◌, arith, filter_map, true≢false}
use Rattle.std.specs.Prelude.{is_some, is_none, option_map, option_and_then, unwrap_or, ⊤}
use Rattle.std.specs.BTreeMap.{is_at}
use Rattle.std.specs.Cmp.Lexicographic.{slice_cmp}
use Rattle.std.specs.List.{cons_option, list_any}
use Rattle.std.specs.Ordering.{nat_cmp}
use Rattle.std.proofs.lemmas.Bool.{and_parts, lt-leb}
use Rattle.serde_json.specs.Data.{Data}
use Rattle.trace_text.specs.Places.{a_call, op_of, inner_calls, inside, marks, placed}
use Rattle.trace_text.specs.Reading.{Before, after, bound_by, call_of, checked, version_numbered, with_label}
use Rattle.trace_text.proofs.ReadingFacts.{checked-nil, marks-nil, past_call}

-- the first version, whose type has no name outside of its crate
abbrev ValueOf : {A : Type 0} → Option A → Type 0
ValueOf {A} o = A

abbrev value_of : {A : Type 0} (o : Option A) → is_some o ≡ true → A
value_of None none = absurd (true≢false (sym none))
value_of (Some value) some = value

abbrev pub first_version : ValueOf (version_numbered 1)
first_version = value_of (version_numbered 1) refl

-- the label that a call binds
abbrev pub label_of : Data → Option (List ℕ)
label_of d = option_and_then bound_by (call_of first_version d)

abbrev pub labels_of : List Data → List (List ℕ)
labels_of ds = filter_map label_of ds

abbrev is_in : List (List ℕ) → List ℕ → Bool
is_in bound label = list_any (is_at (slice_cmp nat_cmp label)) bound

-- labels that are bound one after the other, none twice, and all that are bound then
abbrev pub are_new : List (List ℕ) → List (List ℕ) → Bool
are_new [] bound = true
are_new (l ∷ ls) bound = not (is_in bound l) && are_new ls (with_label (Some l) bound)

abbrev pub all_bound : List (List ℕ) → List (List ℕ) → List (List ℕ)
all_bound [] bound = bound
all_bound (l ∷ ls) bound = all_bound ls (with_label (Some l) bound)

abbrev is_nil : List Data → Bool
is_nil [] = true
is_nil (d ∷ ds) = false

-- a call of its form, with no calls inside it
abbrev pub is_call : Data → Bool
is_call d = is_some (op_of first_version d) && (is_some (call_of first_version d) && is_nil (unwrap_or (inner_calls first_version d) []))

abbrev pub AreCalls : List Data → Type 0
AreCalls [] = ⊤
AreCalls (d ∷ ds) = (is_call d ≡ true) × AreCalls ds

-- ---- one call

is_none-some : {A : Type 0} (o : Option A) → is_some o ≡ true → is_none o ≡ false
is_none-some None h = sym h
is_none-some (Some x) h = refl

not-true : (b : Bool) → not b ≡ true → b ≡ false
not-true true h = sym h
not-true false h = refl

nothing_inside : (o : Option (List Data)) (b : Before) (p c : ℕ) → is_nil (unwrap_or o []) ≡ true → checked first_version b (placed p c (inside (marks first_version 7) o)) ≡ Ok b
unfolding checked marks
nothing_inside None b p c h = refl
nothing_inside (Some []) b p c h = refl
nothing_inside (Some (d ∷ ds)) b p c h = absurd (true≢false (sym h))

-- what the labels of a list say of its first call
first_new : (o : Option (List ℕ)) (ls bound : List (List ℕ)) → are_new (cons_option o ls) bound ≡ true →
    (unwrap_or (option_map (is_in bound) o) false ≡ false) × (are_new ls (with_label o bound) ≡ true)
first_new None ls bound h = (refl, h)
first_new (Some l) ls bound h = let p = and_parts _ _ h in (not-true _ p.0, p.1)

first_bound : (o : Option (List ℕ)) (ls bound : List (List ℕ)) → all_bound (cons_option o ls) bound ≡ all_bound ls (with_label o bound)
first_bound None ls bound = refl
first_bound (Some l) ls bound = refl

one_call : (b : Before) (d : Data) (p c : ℕ) → b.calls < 65536 → is_some (op_of first_version d) ≡ true → is_some (call_of first_version d) ≡ true →
    unwrap_or (option_map (is_in b.labels) (label_of d)) false ≡ false → checked first_version b (placed p c (a_call 8 d ∷ [])) ≡ Ok (after first_version (a_call 8 d) b)
unfolding checked
one_call b d p c few op form fresh =
    let e0 = lt-leb 65536 b.calls (omega (arith, few)) in
    let e1 = is_none-some (op_of first_version d) op in
    let e3 = is_none-some (call_of first_version d) form in
    rw (e0, e1, e3, fresh) refl

-- ---- a list of calls

-- what stands behind them
abbrev pub behind : List Data → Before → Before
behind ds b = record { calls = b.calls + length ds; of_caller = b.of_caller + length ds; labels = all_bound (labels_of ds) b.labels }

behind-nil : (b : Before) → b ≡ behind [] b
behind-nil b =
    let calls : b.calls ≡ b.calls + 0 = omega arith in
    let own : b.of_caller ≡ b.of_caller + 0 = omega arith in
    λ i. record { calls = calls i; of_caller = own i; labels = b.labels }

behind-cons : (d : Data) (ds : List Data) (b : Before) → behind ds (after first_version (a_call 8 d) b) ≡ behind (d ∷ ds) b
behind-cons d ds b =
    let calls : suc b.calls + length ds ≡ b.calls + length (d ∷ ds) = omega arith in
    let own : suc b.of_caller + length ds ≡ b.of_caller + length (d ∷ ds) = omega arith in
    λ i. record { calls = calls i; of_caller = own i; labels = sym (first_bound (label_of d) (labels_of ds) b.labels) i }

-- calls of their forms whose labels are new break no rule where they are not too many
pub all_calls : (ds : List Data) (b : Before) (p c : ℕ) → AreCalls ds → are_new (labels_of ds) b.labels ≡ true → b.calls + length ds ≤ 65536 →
    checked first_version b (placed p c (marks first_version 8 ds)) ≡ Ok (behind ds b)
all_calls [] b p c calls fresh few = ap (λ ms. checked first_version b (placed p c ms)) (marks-nil first_version 8) ∙ checked-nil first_version b ∙ ap Ok (behind-nil b)
all_calls (d ∷ ds) b p c calls fresh few =
    let room : b.calls < 65536 = omega (arith, few) in
    let rest : suc b.calls + length ds ≤ 65536 = omega (arith, few) in
    let form = and_parts _ _ calls.0 in
    let parts = and_parts _ _ form.1 in
    let first = first_new (label_of d) (labels_of ds) b.labels fresh in
    let next = after first_version (a_call 8 d) b in
    past_call first_version 8 p c b next next d ds (inside (marks first_version 7) (inner_calls first_version d)) (one_call b d p c room form.0 parts.0 first.0) refl (nothing_inside (inner_calls first_version d) next p c parts.1)
    ∙ all_calls ds next p c calls.1 first.1 rest ∙ ap Ok (behind-cons d ds b)
