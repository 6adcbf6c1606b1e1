-- Of a text that is a trace the places break no rule.
use Rattle.std.proofs.Common.{◌≡◌, ℕ, ◌≤◌, List, [], ◌∷◌, ◌++◌, Bool, true, false, Option, Some, None, Ok, Err, take, length, refl, ap, sym, ◌∙◌, arith}
use Rattle.std.specs.Prelude.{nat_lt, if◌then◌else◌}
use Rattle.std.specs.List.{flat_map}
use Rattle.std.proofs.lemmas.Bool.Decides.{nat_tests}
use Rattle.std.proofs.lemmas.List.{take_all}
use Rattle.serde_json.specs.Data.{Data}
use Rattle.trace_text.specs.Places.{Place, more_phases, most_phases, numbered, phase_places, places}
use Rattle.trace_text.specs.Reading.{Before, checked, if_unbroken, json_of, most_bytes, nothing_before, phases_of, root_of, trace_of, trace_of_json, trace_of_root}
use Rattle.trace_text.specs.declared.ops.Version.{Version}
use Rattle.trace_text.specs.declared.calls.Trace.{Trace}
use Rattle.trace_text.specs.declared.fault.TraceFault.{TraceFault}
use Rattle.trace_text.proofs.ReadingFacts.{Outcome, and_then, checked-append}

-- the first of two pieces that are kept, and the second
both_kept : (o : Outcome) (go_on : Before → Outcome) (last : Before) → and_then o go_on ≡ Ok last → (b : Before) × (o ≡ Ok b) × (go_on b ≡ Ok last)
both_kept (Ok b) go_on last e = (b, refl, e)
both_kept (Err fault) go_on last e = absurd cc

pub pieces : (v : Version) (b last : Before) (xs ys : List Place) → checked v b (xs ++ ys) ≡ Ok last →
    (m : Before) × (checked v b xs ≡ Ok m) × (checked v m ys ≡ Ok last)
pieces v b last xs ys e = both_kept (checked v b xs) (λ m. checked v m ys) last (sym (checked-append v b xs ys) ∙ e)

-- a trace is made of the phases of a text, whose places break no rule
pub record WasChecked (trace : Trace) : Type 0 where
  pub version : Version
  pub phases : List Data
  pub last : Before
  pub is : phases_of version phases ≡ trace
  pub kept : checked version nothing_before (flat_map (phase_places version) (numbered 0 phases)) ≡ Ok last

more_is_broken : (v : Version) (b : Before) → checked v b (record { phase = most_phases; caller = 0; mark = more_phases } ∷ []) ≡ Err (record { rule = 4; phase = 64; caller = 0; call = 0 })
unfolding checked
more_is_broken v b = refl

abbrev Kept : Version → List Data → Type 0
Kept v ds = (last : Before) × (checked v nothing_before (flat_map (phase_places v) (numbered 0 ds)) ≡ Ok last)

by_count : (v : Version) (last : Before) (ds : List Data) (test : Bool) → nat_lt most_phases (length ds) ≡ test →
    checked v nothing_before (flat_map (phase_places v) (numbered 0 (take most_phases ds)) ++ (if test then record { phase = most_phases; caller = 0; mark = more_phases } ∷ [] else [])) ≡ Ok last →
    Kept v ds
by_count v last ds true is e =
    let cut = pieces v nothing_before last (flat_map (phase_places v) (numbered 0 (take most_phases ds))) (record { phase = most_phases; caller = 0; mark = more_phases } ∷ []) e in
    absurd (let broken = sym (more_is_broken v cut.0) ∙ cut.2 in cc)
by_count v last ds false is e =
    let cut = pieces v nothing_before last (flat_map (phase_places v) (numbered 0 (take most_phases ds))) [] e in
    let few : length ds ≤ 64 = grind (arith, nat_tests, is) in
    (cut.0, ap (λ all. checked v nothing_before (flat_map (phase_places v) (numbered 0 all))) (sym (take_all 64 ds few)) ∙ cut.1)

by_outcome : (v : Version) (ds : List Data) (trace : Trace) (o : Outcome) → checked v nothing_before (places v ds) ≡ o →
    if_unbroken (phases_of v ds) o ≡ Ok trace → WasChecked trace
by_outcome v ds trace (Err fault) is e = absurd cc
by_outcome v ds trace (Ok last) is e =
    let all = by_count v last ds (nat_lt most_phases (length ds)) refl is in
    record { version = v; phases = ds; last = all.0; is = let same : phases_of v ds ≡ trace = cc in same; kept = all.1 }

by_root : (root : Option (Version × List Data)) (trace : Trace) → trace_of_root root ≡ Ok trace → WasChecked trace
by_root None trace e = absurd cc
by_root (Some root) trace e = by_outcome root.0 root.1 trace (checked root.0 nothing_before (places root.0 root.1)) refl e

by_json : (json : Option Data) (trace : Trace) → trace_of_json json ≡ Ok trace → WasChecked trace
by_json None trace e = absurd cc
by_json (Some d) trace e = by_root (root_of d) trace e

by_length : (test : Bool) (fault : TraceFault) (json : Option Data) (trace : Trace) → (if test then Err fault else trace_of_json json) ≡ Ok trace → WasChecked trace
by_length true fault json trace e = absurd cc
by_length false fault json trace e = by_json json trace e

pub was_checked : (bytes : List ℕ) (trace : Trace) → trace_of bytes ≡ Ok trace → WasChecked trace
was_checked bytes trace e = by_length (nat_lt most_bytes (length bytes)) _ (json_of bytes) trace e
