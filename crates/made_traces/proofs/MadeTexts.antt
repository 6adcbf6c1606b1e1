-- Why what is made is a trace, whatever the seed.
use Rattle.std.proofs.Common.{◌≡◌, ℕ, zero, suc, ◌+◌, ◌*◌, ◌<◌, ◌≤◌, true, List, [], ◌∷◌, ◌++◌, Some, Result, Ok, Err, map, length, refl, ap, sym, ◌∙◌, subst, arith, add-one, append-nil, length-append, le_trans, mul-le-mul}
use Rattle.std.specs.Fmt.{digits}
use Rattle.std.specs.List.{range_with_len}
use Rattle.std.proofs.lemmas.Bool.{le-ltb}
use Rattle.std.proofs.lemmas.List.FromFn.{length-map-range_with_len}
use Rattle.std.proofs.lemmas.Str.{IsUtf8-append, is_utf8-from_IsUtf8}
use Rattle.json.proofs.Printed.Utf8.{IsUtf8-are_ascii}
use Rattle.serde_json.specs.Data.{Data, depth}
use Rattle.serde_json.specs.Written.{compact_text}
use Rattle.trace_make.specs.Draws.{state_after}
use Rattle.trace_make.specs.Made.{made, phase, trace}
use Rattle.trace_make.specs.Pictures.{caller_calls, camera_label, frame_label, release_calls}
use Rattle.trace_make.specs.Scene.{scene_calls}
use Rattle.trace_text.specs.Places.{phase_places, places}
use Rattle.trace_text.specs.Reading.{Before, IsAnswer, checked, most_bytes, nothing_before, phases_of, root_of, trace_of}
use Rattle.trace_text.specs.declared.calls.Trace.{Trace}
use Rattle.trace_text.specs.declared.fault.TraceError.{TraceError}
use Rattle.trace_text.specs.declared.fault.TraceError.TheVariants.{Broken}
use Rattle.trace_text.specs.declared.fault.TraceFault.{TraceFault}
use Rattle.trace_text.proofs.JsonFacts.{elements-data_items}
use Rattle.trace_text.proofs.ReadingFacts.{past_piece}
use Rattle.made_traces.specs.Traces.{IsTrace}
use Rattle.made_traces.proofs.CallRules.{all_bound, are_new, first_version}
use Rattle.made_traces.proofs.KeptCalls.{AllKept, are_calls, phase-flat, phase-light, phase-plain}
use Rattle.made_traces.proofs.MadeCalls.{AreBound, caller_bound, caller_many, release_bound, scene_bound, scene_labels, scene_many}
use Rattle.made_traces.proofs.PhaseRules.{AreCallers, bound_behind, calls_in, one_phase}
use Rattle.made_traces.proofs.PlainData.{is_plain, read-with_newline, text-short, text-utf8, weight}

-- ---- the callers

-- the labels that are bound before caller q
abbrev bound_before : ℕ → List (List ℕ)
bound_before zero = all_bound scene_labels []
bound_before (suc q) = all_bound (camera_label q ∷ frame_label q ∷ []) (bound_before q)

scene_new : are_new scene_labels [] ≡ true
scene_new = refl

labels_new : (q : ℕ) → q < 8 → are_new (camera_label q ∷ frame_label q ∷ []) (bound_before q) ≡ true
unfolding digits
labels_new zero h = refl
labels_new (suc zero) h = refl
labels_new (suc (suc zero)) h = refl
labels_new (suc (suc (suc zero))) h = refl
labels_new (suc (suc (suc (suc zero)))) h = refl
labels_new (suc (suc (suc (suc (suc zero))))) h = refl
labels_new (suc (suc (suc (suc (suc (suc zero)))))) h = refl
labels_new (suc (suc (suc (suc (suc (suc (suc zero))))))) h = refl
labels_new (suc (suc (suc (suc (suc (suc (suc (suc q)))))))) h = absurd (omega (arith, h))

-- a caller whose labels are known
caller-first : (bound labels : List (List ℕ)) (ds : List Data) (rest : List (List Data)) → AreBound ds labels → are_new labels bound ≡ true → AreCallers (all_bound labels bound) rest →
    AreCallers bound (ds ∷ rest)
caller-first bound labels ds rest kept fresh others =
    (are_calls ds kept.kept, ap (λ ls. are_new ls bound) kept.binds ∙ fresh, subst (λ ls. AreCallers (all_bound ls bound) rest) (sym kept.binds) others)

callers_from : (x frames q n : ℕ) → q + n ≤ 8 → AreCallers (bound_before q) (map (caller_calls x frames) (range_with_len q n))
callers_from x frames q zero few = tt
callers_from x frames q (suc n) few =
    let here : q < 8 = omega (arith, few) in
    let more : q + 1 + n ≤ 8 = omega (arith, few) in
    caller-first (bound_before q) (camera_label q ∷ frame_label q ∷ []) (caller_calls x frames q) (map (caller_calls x frames) (range_with_len (q + 1) n))
    (caller_bound x frames q here) (labels_new q here)
    (subst (λ k. AreCallers (bound_before k) (map (caller_calls x frames) (range_with_len (q + 1) n))) (add-one q) (callers_from x frames (q + 1) n more))

callers_kept : (x frames q n : ℕ) → q + n ≤ 8 → AllKept (map (caller_calls x frames) (range_with_len q n))
callers_kept x frames q zero few = tt
callers_kept x frames q (suc n) few = ((caller_bound x frames q (omega (arith, few))).kept, callers_kept x frames (q + 1) n (omega (arith, few)))

callers_many : (x frames q n : ℕ) → q + n ≤ 8 → calls_in (map (caller_calls x frames) (range_with_len q n)) ≡ n * (12 + 5 * frames)
callers_many x frames q zero few = omega arith
callers_many x frames q (suc n) few =
    let own = caller_many x frames q (omega (arith, few)) in
    let rest = callers_many x frames (q + 1) n (omega (arith, few)) in
    let both : (12 + 5 * frames) + n * (12 + 5 * frames) ≡ suc n * (12 + 5 * frames) = omega arith in
    (λ i. own i + rest i) ∙ both

-- ---- a text of three phases

trace-plain : (x y z : Data) → is_plain x ≡ true → is_plain y ≡ true → is_plain z ≡ true → is_plain (trace (x ∷ y ∷ z ∷ [])) ≡ true
trace-plain x y z p q r = rw (p, q, r) refl

trace-light : (x y z : Data) (n : ℕ) → weight x + weight y + weight z ≤ n → weight (trace (x ∷ y ∷ z ∷ [])) ≤ n + 200
trace-light x y z n few = omega (arith, few)

trace-flat : (x y z : Data) → depth x ≤ 5 → depth y ≤ 5 → depth z ≤ 5 → depth (trace (x ∷ y ∷ z ∷ [])) ≤ 127
trace-flat x y z p q r = omega (arith, p, q, r)

root_is : (ds : List Data) → root_of (trace ds) ≡ Some (first_version, ds)
root_is ds = ap (λ xs. Some (first_version, xs)) (elements-data_items ds)

-- plain data that breaks no rule is a trace, as its text with a newline behind it
text_is_trace : (d : Data) (ds : List Data) (last : Before) → is_plain d ≡ true → weight d ≤ 67000000 → depth d ≤ 127 → root_of d ≡ Some (first_version, ds) →
    checked first_version nothing_before (places first_version ds) ≡ Ok last → trace_of (compact_text d ++ 10 ∷ []) ≡ Ok (phases_of first_version ds)
text_is_trace d ds last plain light flat root unbroken =
    let text = compact_text d ++ 10 ∷ [] in
    let bytes = length-append (compact_text d) (10 ∷ []) in
    let short = text-short d plain in
    let within : length text ≤ most_bytes = omega (arith, bytes, short, light) in
    let utf8 = is_utf8-from_IsUtf8 text (IsUtf8-append (compact_text d) (10 ∷ []) (text-utf8 d plain) (IsUtf8-are_ascii (10 ∷ []) refl)) in
    rw (le-ltb most_bytes (length text) within, utf8, read-with_newline d plain flat, root, unbroken) refl

-- three phases whose callers keep the rules
record KeepsRules (bound : List (List ℕ)) (callers : List (List Data)) : Type 0 where
  some : 1 ≤ length callers
  few : length callers ≤ 8
  kept : AllKept callers
  callers_are : AreCallers bound callers

three_phases : (a b c : List (List Data)) → KeepsRules [] a → KeepsRules (bound_behind [] a) b → KeepsRules (bound_behind (bound_behind [] a) b) c →
    calls_in a + calls_in b + calls_in c ≤ 3000 →
    trace_of (compact_text (trace (phase a ∷ phase b ∷ phase c ∷ [])) ++ 10 ∷ []) ≡ Ok (phases_of first_version (phase a ∷ phase b ∷ phase c ∷ []))
three_phases a b c keep-a keep-b keep-c few =
    let first = one_phase nothing_before 0 a [] refl keep-a.some keep-a.few keep-a.callers_are (omega (arith, few)) in
    let counted = first.calls_are in
    let second = one_phase first.last 1 b (bound_behind [] a) first.labels_are keep-b.some keep-b.few keep-b.callers_are (omega (arith, few, counted)) in
    let recounted = second.calls_are in
    let third = one_phase second.last 2 c (bound_behind (bound_behind [] a) b) second.labels_are keep-c.some keep-c.few keep-c.callers_are (omega (arith, few, counted, recounted)) in
    let x = phase_places first_version (0, phase a) in
    let y = phase_places first_version (1, phase b) in
    let z = phase_places first_version (2, phase c) in
    let unbroken : checked first_version nothing_before (places first_version (phase a ∷ phase b ∷ phase c ∷ [])) ≡ Ok third.last =
    ap (checked first_version nothing_before) (append-nil (x ++ (y ++ (z ++ []))) ∙ ap (λ l. x ++ (y ++ l)) (append-nil z))
    ∙ past_piece first_version nothing_before first.last x (y ++ z) first.unbroken ∙ past_piece first_version first.last second.last y z second.unbroken ∙ third.unbroken in
    let light-a = phase-light a keep-a.kept in
    let light-b = phase-light b keep-b.kept in
    let light-c = phase-light c keep-c.kept in
    let few-a = keep-a.few in
    let few-b = keep-b.few in
    let few-c = keep-c.few in
    let light : weight (phase a) + weight (phase b) + weight (phase c) ≤ 66000000 = omega (arith, light-a, light-b, light-c, few-a, few-b, few-c, few) in
    text_is_trace (trace (phase a ∷ phase b ∷ phase c ∷ [])) (phase a ∷ phase b ∷ phase c ∷ []) third.last
    (trace-plain (phase a) (phase b) (phase c) (phase-plain a keep-a.kept) (phase-plain b keep-b.kept) (phase-plain c keep-c.kept))
    (le_trans (trace-light (phase a) (phase b) (phase c) 66000000 light) (omega arith))
    (trace-flat (phase a) (phase b) (phase c) (phase-flat a keep-a.kept) (phase-flat b keep-b.kept) (phase-flat c keep-c.kept)) (root_is (phase a ∷ phase b ∷ phase c ∷ [])) unbroken

-- ---- the whole

-- a phase of one caller
alone : (bound labels : List (List ℕ)) (ds : List Data) → AreBound ds labels → are_new labels bound ≡ true → KeepsRules bound (ds ∷ [])
alone bound labels ds kept fresh = record {
  some = omega arith;
  few = omega arith;
  kept = (kept.kept, tt);
  callers_are = caller-first bound labels ds [] kept fresh tt;
}

pub made_text_is_trace : (seed callers frames : ℕ) → 1 ≤ callers → callers ≤ 8 → frames ≤ 64 → IsTrace (made seed callers frames)
unfolding made
made_text_is_trace seed callers frames some few short =
    let x = state_after seed 349 in
    let a = scene_calls seed ∷ [] in
    let b = map (caller_calls x frames) (range_with_len 0 callers) in
    let c = release_calls ∷ [] in
    let scene = scene_bound seed in
    let bound : bound_behind [] a ≡ bound_before 0 = ap (λ labels. all_bound labels []) scene.binds in
    let many = length-map-range_with_len (caller_calls x frames) 0 callers in
    let within : 0 + callers ≤ 8 = omega (arith, few) in
    let keep-b : KeepsRules (bound_before 0) b = record {
      some = omega (arith, many, some);
      few = omega (arith, many, few);
      kept = callers_kept x frames 0 callers within;
      callers_are = callers_from x frames 0 callers within;
    } in
    let own : 12 + 5 * frames ≤ 332 = omega (arith, short) in
    let product : callers * (12 + 5 * frames) ≤ 8 * 332 = mul-le-mul few own in
    let calls = callers_many x frames 0 callers within in
    let scene_calls_many = scene_many seed in (
      _,
      three_phases a b c (alone [] scene_labels (scene_calls seed) scene scene_new) (subst (λ labels. KeepsRules labels b) (sym bound) keep-b)
          (alone (bound_behind (bound_behind [] a) b) [] release_calls release_bound refl) (omega (arith, product, calls, scene_calls_many)),
    )

-- a reader of bytes that are a trace tells no broken rule
pub never_broken : (bytes text : List ℕ) (result : Result Trace TraceError) (e : TraceError) (fault : TraceFault) → IsTrace text → bytes ≡ text → IsAnswer bytes result →
    result ≡ Err e → e ≡ Broken fault → ⊥
never_broken bytes text result e fault is same answer err broken =
    let told : trace_of bytes ≡ Err fault = subst (IsAnswer bytes) (err ∙ ap Err broken) answer in
    let both : Ok is.0 ≡ Err fault = sym is.1 ∙ ap trace_of (sym same) ∙ told in
    absurd cc
