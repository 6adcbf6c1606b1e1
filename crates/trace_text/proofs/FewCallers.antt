-- A trace has few callers in each phase.
use Rattle.std.proofs.Common.{◌≡◌, ℕ, suc, ◌≤◌, ◌&&◌, List, [], ◌∷◌, All, Bool, true, false, Ok, map, length, refl, ap, sym, subst, ◌∙◌}
use Rattle.std.specs.Prelude.{codes}
use Rattle.std.specs.List.{flat_map}
use Rattle.std.proofs.lemmas.Bool.{leb-true}
use Rattle.std.proofs.lemmas.List.{length-map}
use Rattle.std.proofs.lemmas.List.Concat.{flat_map-cons}
use Rattle.std.proofs.lemmas.List.Elements.{All-nil, All-cons}
use Rattle.serde_json.specs.Data.{Data}
use Rattle.trace_text.specs.Places.{Place, a_phase, caller_places, items_at, numbered, phase_places}
use Rattle.trace_text.specs.Reading.{Before, caller_of, checked, is_phase, nothing_before, phase_of, trace_of}
use Rattle.trace_text.specs.declared.ops.Version.{Version}
use Rattle.trace_text.specs.declared.calls.Phase.{Phase}
use Rattle.trace_text.specs.declared.calls.Trace.{Trace}
use Rattle.trace_text.proofs.CheckedTraces.{pieces, was_checked}
use Rattle.trace_text.proofs.WholeFacts.{checked-no_phase}

-- a phase has no more callers than there may be
abbrev pub HasFewCallers : Phase → Type 0
HasFewCallers phase = length phase.callers ≤ 8

and_left : (a b : Bool) → (a && b) ≡ true → a ≡ true
and_left true b e = refl
and_left false b e = absurd cc

and_right : (a b : Bool) → (a && b) ≡ true → b ≡ true
and_right true b e = e
and_right false b e = absurd cc

phase_is_kept : (v : Version) (b last : Before) (k : ℕ) (d : Data) (rest : List Place) (kept : Bool) → is_phase d ≡ kept →
    checked v b (record { phase = k; caller = 0; mark = a_phase d } ∷ rest) ≡ Ok last → is_phase d ≡ true
phase_is_kept v b last k d rest true is e = is
phase_is_kept v b last k d rest false is e = (let broken = sym (checked-no_phase v b k d rest is) ∙ e in absurd cc)

has_few : (v : Version) (d : Data) → is_phase d ≡ true → HasFewCallers (phase_of v d)
has_few v d is =
    let within = and_right _ _ (and_left _ _ is) in
    subst (λ n. n ≤ 8) (sym (length-map (items_at (codes "callers") d) (caller_of v))) (leb-true _ _ within)

have_few : (v : Version) (b last : Before) (k : ℕ) (ds : List Data) → checked v b (flat_map (phase_places v) (numbered k ds)) ≡ Ok last →
    All HasFewCallers (map (phase_of v) ds)
have_few v b last k [] e = All-nil HasFewCallers
have_few v b last k (d ∷ ds) e =
    let cut : (m : Before) × (checked v b (phase_places v (k, d)) ≡ Ok m) × (checked v m (flat_map (phase_places v) (numbered (suc k) ds)) ≡ Ok last) =
    pieces v b last (phase_places v (k, d)) (flat_map (phase_places v) (numbered (suc k) ds)) (ap (checked v b) (sym (flat_map-cons (phase_places v) (k, d) (numbered (suc k) ds))) ∙ e) in
    All-cons HasFewCallers (phase_of v d) (map (phase_of v) ds)
    (has_few v d (phase_is_kept v b cut.0 k d (flat_map (caller_places v k) (numbered 0 (items_at (codes "callers") d))) (is_phase d) refl cut.1))
    (have_few v cut.0 last (suc k) ds cut.2)

-- no phase of a trace has more callers than there may be
pub has_few_callers : (bytes : List ℕ) (trace : Trace) → trace_of bytes ≡ Ok trace → All HasFewCallers trace.phases
has_few_callers bytes trace e =
    let w = was_checked bytes trace e in
    subst (λ (trace : Trace). All HasFewCallers trace.phases) w.is (have_few w.version nothing_before w.last 0 w.phases w.kept)
