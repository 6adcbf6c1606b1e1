-- Phases whose callers keep all rules of a trace, of the first version.
use Rattle.std.proofs.Common.{◌≡◌, ℕ, suc, ◌+◌, ◌≤◌, true, List, [], ◌∷◌, Ok, map, length, refl, ap, sym, ◌∙◌, subst, arith}
use Rattle.std.specs.Prelude.{⊤, codes}
use Rattle.std.specs.List.{flat_map, list_all}
use Rattle.std.proofs.lemmas.Bool.{le-leb}
use Rattle.std.proofs.lemmas.List.{length-map}
use Rattle.std.proofs.lemmas.List.Concat.{flat_map-cons}
use Rattle.serde_json.specs.Data.{Data}
use Rattle.trace_make.specs.Calls.{list}
use Rattle.trace_make.specs.Made.{phase}
use Rattle.trace_text.specs.Json.{is_list}
use Rattle.trace_text.specs.Places.{Place, a_phase, a_caller, items_at, marks, numbered, placed, caller_places, phase_places}
use Rattle.trace_text.specs.Reading.{Before, after, checked, is_phase}
use Rattle.trace_text.proofs.JsonFacts.{elements-data_items}
use Rattle.trace_text.proofs.ReadingFacts.{checked-nil, past_piece}
use Rattle.made_traces.proofs.CallRules.{AreCalls, all_bound, all_calls, are_new, behind, first_version, labels_of}

-- callers whose calls keep the rules, where some labels are bound before
abbrev pub AreCallers : List (List ℕ) → List (List Data) → Type 0
AreCallers bound [] = ⊤
AreCallers bound (ds ∷ rest) = AreCalls ds × (are_new (labels_of ds) bound ≡ true) × AreCallers (all_bound (labels_of ds) bound) rest

-- the labels that are bound behind callers
abbrev pub bound_behind : List (List ℕ) → List (List Data) → List (List ℕ)
bound_behind bound [] = bound
bound_behind bound (ds ∷ rest) = bound_behind (all_bound (labels_of ds) bound) rest

abbrev pub calls_in : List (List Data) → ℕ
calls_in [] = 0
calls_in (ds ∷ rest) = length ds + calls_in rest

-- what is checked breaks no rule, and so many calls and these labels stand before what comes behind it
pub record Passes (b : Before) (places : List Place) (calls : ℕ) (labels : List (List ℕ)) : Type 0 where
  pub last : Before
  pub unbroken : checked first_version b places ≡ Ok last
  pub calls_are : last.calls ≡ b.calls + calls
  pub labels_are : last.labels ≡ labels

-- ---- a caller

one_caller : (b : Before) (p c : ℕ) (ds : List Data) → AreCalls ds → are_new (labels_of ds) b.labels ≡ true → b.calls + length ds ≤ 65536 →
    checked first_version b (caller_places first_version p (c, list ds)) ≡ Ok (behind ds (after first_version a_caller b))
unfolding checked
one_caller b p c ds calls fresh few =
    ap (λ items. checked first_version (after first_version a_caller b) (placed p c (marks first_version 8 items))) (elements-data_items ds) ∙ all_calls ds (after first_version a_caller b) p c calls fresh few

all_callers : (b : Before) (p c : ℕ) (callers : List (List Data)) → AreCallers b.labels callers → b.calls + calls_in callers ≤ 65536 →
    Passes b (flat_map (caller_places first_version p) (numbered c (map list callers))) (calls_in callers) (bound_behind b.labels callers)
all_callers b p c [] keep few = record { last = b; unbroken = checked-nil first_version b; calls_are = omega arith; labels_are = refl }
all_callers b p c (ds ∷ rest) keep few =
    let next = behind ds (after first_version a_caller b) in
    let first = one_caller b p c ds keep.0 keep.1 (omega (arith, few)) in
    let more = all_callers next p (suc c) rest keep.2 (omega (arith, few)) in
    let counted = more.calls_are in
    record {
      last = more.last;
      unbroken = ap (checked first_version b) (flat_map-cons (caller_places first_version p) (c, list ds) (numbered (suc c) (map list rest)))
          ∙ past_piece first_version b next (caller_places first_version p (c, list ds)) (flat_map (caller_places first_version p) (numbered (suc c) (map list rest))) first ∙ more.unbroken;
      calls_are = omega (arith, counted);
      labels_are = more.labels_are;
    }

-- ---- a phase

are_lists : (callers : List (List Data)) → list_all is_list (map list callers) ≡ true
are_lists [] = refl
are_lists (ds ∷ rest) = are_lists rest

a_phase_is : (callers : List (List Data)) → 1 ≤ length callers → length callers ≤ 8 → is_phase (phase callers) ≡ true
a_phase_is callers some few =
    let items = elements-data_items (map list callers) in
    let many = length-map callers list in
    let low = le-leb 1 (length (map list callers)) (omega (arith, many, some)) in
    let high = le-leb (length (map list callers)) 8 (omega (arith, many, few)) in
    rw (items, low, high, are_lists callers) refl

pub one_phase : (b : Before) (p : ℕ) (callers : List (List Data)) (bound : List (List ℕ)) → b.labels ≡ bound → 1 ≤ length callers → length callers ≤ 8 → AreCallers bound callers →
    b.calls + calls_in callers ≤ 65536 → Passes b (phase_places first_version (p, phase callers)) (calls_in callers) (bound_behind bound callers)
unfolding checked
one_phase b p callers bound known some few keep room =
    let own = a_phase_is callers some few in
    let inner = all_callers b p 0 callers (subst (λ labels. AreCallers labels callers) (sym known) keep) room in
    let rest = flat_map (caller_places first_version p) (numbered 0 (items_at (codes "callers") (phase callers))) in
    let here : Place = record { phase = p; caller = 0; mark = a_phase (phase callers) } in
    let begun : checked first_version b (here ∷ rest) ≡ checked first_version b rest = rw own refl in
    record {
      last = inner.last;
      unbroken = begun ∙ ap (λ items. checked first_version b (flat_map (caller_places first_version p) (numbered 0 items))) (elements-data_items (map list callers)) ∙ inner.unbroken;
      calls_are = inner.calls_are;
      labels_are = inner.labels_are ∙ ap (λ labels. bound_behind labels callers) known;
    }
