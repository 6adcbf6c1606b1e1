-- The places of callers, phases and whole texts.
use Rattle.std.proofs.Common.{◌≡◌, ℕ, ◌<◌, ◌≤◌, List, [], ◌∷◌, ◌++◌, Bool, true, false, Option, Some, None, Ok, Err, map, take, length, refl, ap, sym, ◌∙◌, subst, arith, not}
use Rattle.std.specs.Prelude.{codes, nat_lt, option_map, IsUtf8, if◌then◌else◌}
use Rattle.std.specs.List.{flat_map}
use Rattle.std.specs.Str.{is_utf8}
use Rattle.std.proofs.lemmas.Bool.{lt-ltb}
use Rattle.std.proofs.lemmas.Bool.Decides.{nat_tests}
use Rattle.std.proofs.lemmas.List.{length-map, take-map, take_all}
use Rattle.std.proofs.lemmas.Str.{IsUtf8-from_is_utf8, is_utf8-from_IsUtf8}
use Rattle.serde_json.specs.Data.{Data}
use Rattle.serde_json.specs.Read.{read}
use Rattle.serde_json.specs.View.{view}
use Rattle.serde_json.specs.declared.value.Value.{Value}
use Rattle.trace_text.specs.Json.{from2, field, has_only, list_of}
use Rattle.trace_text.specs.Forms.{only}
use Rattle.trace_text.specs.Places.{Mark, a_caller, a_phase, more_phases, Place, most_phases, numbered, phase_places, placed, places}
use Rattle.trace_text.specs.Reading.{Before, at_start, checked, fault_at, if_unbroken, is_phase, json_of, most_bytes, root_of, trace_of, trace_of_json, trace_of_root, unless_broken, version_of, IsAnswerTo, Tells}
use Rattle.trace_text.specs.declared.ops.Version.{Version}
use Rattle.trace_text.specs.declared.fault.Rule.TheVariants.{NotAPhase, TooLong}
use Rattle.trace_text.specs.declared.fault.TraceFault.{TraceFault}
use Rattle.trace_text.specs.declared.fault.TraceError.{TraceError}
use Rattle.trace_text.specs.declared.fault.TraceError.TheVariants.{Broken, NoMemory}
use Rattle.trace_text.specs.declared.calls.Trace.{Trace}
use Rattle.trace_text.proofs.ReadingFacts.{broken_piece, checked-nil, past_piece, Outcome}

-- the calls of a caller are counted from its start on
pub checked-caller : (v : Version) (b b1 : Before) (p c : ℕ) (ms : List Mark) → b1 ≡ record { calls = b.calls; of_caller = 0; labels = b.labels } →
    checked v b (placed p c (a_caller ∷ ms)) ≡ checked v b1 (placed p c ms)
unfolding checked
checked-caller v b b1 p c ms is = ap (λ x. checked v x (placed p c ms)) (sym is)

-- a phase that has its form, and one that has not
pub checked-phase : (v : Version) (b : Before) (k : ℕ) (d : Data) (rest : List Place) → is_phase d ≡ true →
    checked v b (record { phase = k; caller = 0; mark = a_phase d } ∷ rest) ≡ checked v b rest
unfolding checked
checked-phase v b k d rest is =
    ap (λ x. unless_broken (λ rule. Err (fault_at b (record { phase = k; caller = 0; mark = a_phase d }) rule)) (checked v b rest) (if not x then Some NotAPhase else None)) is

pub checked-no_phase : (v : Version) (b : Before) (k : ℕ) (d : Data) (rest : List Place) → is_phase d ≡ false →
    checked v b (record { phase = k; caller = 0; mark = a_phase d } ∷ rest) ≡ Err (record { rule = 5; phase = k; caller = 0; call = 0 })
unfolding checked
checked-no_phase v b k d rest is =
    ap (λ x. unless_broken (λ rule. Err (fault_at b (record { phase = k; caller = 0; mark = a_phase d }) rule)) (checked v b rest) (if not x then Some NotAPhase else None)) is

checked-more : (v : Version) (b : Before) → checked v b (record { phase = most_phases; caller = 0; mark = more_phases } ∷ []) ≡ Err (record { rule = 4; phase = 64; caller = 0; call = 0 })
unfolding checked
checked-more v b = refl

pub told : (o : Outcome) (e : TraceError) (fault : TraceFault) → e ≡ Broken fault → o ≡ Err fault → Tells o e
told o e fault is broken = let P : TraceError → Type 0 = Tells o in subst P (sym is) broken

-- ---- the phases of a trace

abbrev pub phases_first : Version → List Data → List Place
phases_first v ds = flat_map (phase_places v) (numbered 0 ds)

abbrev more : List Place
more = record { phase = most_phases; caller = 0; mark = more_phases } ∷ []

pub places-few : (v : Version) (vs : List Value) → length vs ≤ 64 → places v (map view vs) ≡ phases_first v (map view vs) ++ []
places-few v vs few =
    let size : length (map view vs) ≤ 64 = subst (λ n. n ≤ 64) (sym (length-map vs view)) few in
    let test : nat_lt 64 (length (map view vs)) ≡ false = grind (arith, nat_tests) in
    ap (λ ds. phases_first v ds ++ (if nat_lt 64 (length (map view vs)) then more else [])) (take_all 64 (map view vs) size)
    ∙ ap (λ b. phases_first v (map view vs) ++ (if b then more else [])) test

pub places-many : (v : Version) (vs : List Value) → 64 < length vs → places v (map view vs) ≡ phases_first v (map view (take 64 vs)) ++ more
places-many v vs many =
    let size : 64 < length (map view vs) = subst (λ n. 64 < n) (sym (length-map vs view)) many in
    ap (λ ds. phases_first v ds ++ (if nat_lt 64 (length (map view vs)) then more else [])) (take-map view 64 vs)
    ∙ ap (λ b. phases_first v (map view (take 64 vs)) ++ (if b then more else [])) (lt-ltb 64 _ size)

-- what is told of the places of a trace is told of the trace
pub answers_err : (o : Outcome) (trace : Trace) (e : TraceError) → Tells o e → IsAnswerTo (if_unbroken trace o) (Err e)
answers_err o trace (Broken fault) is = ap (if_unbroken trace) is
answers_err o trace NoMemory is = tt

pub phases-read : (v : Version) (b b1 : Before) (vs : List Value) (trace : Trace) → length vs ≤ 64 → checked v b (phases_first v (map view vs)) ≡ Ok b1 →
    if_unbroken trace (checked v b (places v (map view vs))) ≡ Ok trace
phases-read v b b1 vs trace few is =
    ap (λ ps. if_unbroken trace (checked v b ps)) (places-few v vs few) ∙ ap (if_unbroken trace) (past_piece v b b1 (phases_first v (map view vs)) [] is ∙ checked-nil v b1)

pub phases-broken : (v : Version) (b : Before) (vs : List Value) (fault : TraceFault) → length vs ≤ 64 → checked v b (phases_first v (map view vs)) ≡ Err fault →
    checked v b (places v (map view vs)) ≡ Err fault
phases-broken v b vs fault few is = ap (checked v b) (places-few v vs few) ∙ broken_piece v b fault (phases_first v (map view vs)) [] is

pub phases-broken_first : (v : Version) (b : Before) (vs : List Value) (fault : TraceFault) → 64 < length vs → checked v b (phases_first v (map view (take 64 vs))) ≡ Err fault →
    checked v b (places v (map view vs)) ≡ Err fault
phases-broken_first v b vs fault many is = ap (checked v b) (places-many v vs many) ∙ broken_piece v b fault (phases_first v (map view (take 64 vs))) more is

pub phases-too_many : (v : Version) (b b1 : Before) (vs : List Value) → 64 < length vs → checked v b (phases_first v (map view (take 64 vs))) ≡ Ok b1 →
    checked v b (places v (map view vs)) ≡ Err (record { rule = 4; phase = 64; caller = 0; call = 0 })
phases-too_many v b b1 vs many is = ap (checked v b) (places-many v vs many) ∙ past_piece v b b1 (phases_first v (map view (take 64 vs))) more is ∙ checked-more v b1

-- ---- the root, and the whole text

in_order : (b : Bool) (v : Version) (o : Option Version) (ds : List Data) (list : Option (List Data)) → o ≡ Some v → (if b then list else None) ≡ Some ds →
    (if b then from2 {R = Version × List Data} (λ v phases. (v, phases)) o list else None) ≡ Some (v, ds)
in_order true v o ds list is are = ap (λ x. from2 {R = Version × List Data} (λ v phases. (v, phases)) x list) is ∙ ap (option_map {U = Version × List Data} (λ phases. (v, phases))) are
in_order false v o ds list is are = cc

pub root_of-parts : (d : Data) (v : Version) (ds : List Data) → field version_of (codes "trace") d ≡ Some v →
    only (codes "trace" ∷ codes "phases" ∷ []) d (field list_of (codes "phases") d) ≡ Some ds → root_of d ≡ Some (v, ds)
root_of-parts d v ds is are = in_order (has_only (codes "trace" ∷ codes "phases" ∷ []) d) v (field version_of (codes "trace") d) ds (field list_of (codes "phases") d) is are

pub trace_of-json : (bytes : List ℕ) (d : Data) → length bytes ≤ most_bytes → IsUtf8 bytes → read bytes ≡ Some d → trace_of bytes ≡ trace_of_root (root_of d)
trace_of-json bytes d few utf8 is =
    let short : nat_lt most_bytes (length bytes) ≡ false = grind (arith, nat_tests) in
    ap (λ b. if b then Err (at_start TooLong) else trace_of_json (json_of bytes)) short
    ∙ ap (λ b. trace_of_json (if b then read bytes else None)) (is_utf8-from_IsUtf8 bytes utf8)
    ∙ ap trace_of_json is

no_json : (bytes : List ℕ) (b : Bool) → is_utf8 bytes ≡ b → (IsUtf8 bytes → read bytes ≡ None) → (if b then read bytes else None) ≡ None
no_json bytes true is none = none (IsUtf8-from_is_utf8 bytes is)
no_json bytes false is none = refl

pub trace_of-no_json : (bytes : List ℕ) → length bytes ≤ most_bytes → (IsUtf8 bytes → read bytes ≡ None) → trace_of bytes ≡ trace_of_json None
trace_of-no_json bytes few none =
    let short : nat_lt most_bytes (length bytes) ≡ false = grind (arith, nat_tests) in
    ap (λ b. if b then Err (at_start TooLong) else trace_of_json (json_of bytes)) short ∙ ap trace_of_json (no_json bytes (is_utf8 bytes) refl none)
