use Rattle.std.proofs.Common.{List, Result, Ok, map, sym, ap, ◌∙◌, arith}
use Rattle.serde_json.specs.View.{view}
use Rattle.trace_text.specs.Reading.{checked, nothing_before, phases_of}
use Rattle.trace_text.specs.declared.calls.Phase.{Phase}
use Rattle.trace_text.specs.declared.calls.Trace.{Trace}
use Rattle.trace_text.specs.declared.fault.TraceFault.{TraceFault}
use Rattle.trace_text.proofs.ReadingFacts.{handed_on, tells_more}
use Rattle.trace_text.proofs.WholeFacts.{answers_err, phases-broken, phases-broken_first, phases-read, phases-too_many, phases_first, told}
use Rattle.trace_text.proofs.reader.read_phases.Goals as goal

pub read_within-requires : goal.read_within-requires
read_within-requires c = omega (arith, c.split_at.ensures.front_len)

pub returns-in_err-_phases : goal.returns-in_err-_phases
returns-in_err-_phases c =
    let begun = ap (λ b. checked c.args.version b (phases_first c.args.version (map view c.split_at.result.0.now))) (sym c.new-before.ensures) in
    let first = ap (λ vs. checked c.args.version nothing_before (phases_first c.args.version (map view vs))) (sym c.split_at.ensures.front) in
    rw (handed_on c.from_residual.result c.in_err-_phases.field-0.0 c.from_residual.ensures)
    (answers_err _ _ c.in_err-_phases.field-0.0 (tells_more _ _ c.in_err-_phases.field-0.0
    (λ fault is. phases-broken_first c.args.version nothing_before c.args.values.now fault c.if-values-gt-MOST_PHASES.true (first ∙ begun ∙ is))
    c.in_err-_phases.ensures.places))

pub returns-then-values-gt-MOST_PHASES : goal.returns-then-values-gt-MOST_PHASES
returns-then-values-gt-MOST_PHASES c =
    let begun = ap (λ b. checked c.args.version b (phases_first c.args.version (map view c.split_at.result.0.now))) (sym c.new-before.ensures) in
    let first = ap (λ vs. checked c.args.version nothing_before (phases_first c.args.version (map view vs))) (sym c.split_at.ensures.front) in
    answers_err _ _ c.broken.result (told _ c.broken.result _ c.broken.ensures
    (phases-too_many c.args.version nothing_before c.read_within.new.before c.args.values.now c.if-values-gt-MOST_PHASES.true (first ∙ begun ∙ c.in_ok-_phases.ensures.places)))

pub returns-in_err-phases : goal.returns-in_err-phases
returns-in_err-phases c =
    let begun = ap (λ b. checked c.args.version b (phases_first c.args.version (map view c.args.values.now))) (sym c.new-before.ensures) in
    rw (handed_on c.from_residual-in_err-phases.result c.in_err-phases.field-0.0 c.from_residual-in_err-phases.ensures)
    (answers_err _ _ c.in_err-phases.field-0.0 (tells_more _ _ c.in_err-phases.field-0.0
    (λ fault is. phases-broken c.args.version nothing_before c.args.values.now fault c.if-values-gt-MOST_PHASES.false (begun ∙ is))
    c.in_err-phases.ensures.places))

pub returns : goal.returns
returns c =
    let begun = ap (λ b. checked c.args.version b (phases_first c.args.version (map view c.args.values.now))) (sym c.new-before.ensures) in
    let made : List Phase → Result Trace TraceFault = λ ps. Ok (record { phases = ps }) in
    phases-read c.args.version nothing_before c.read_within-2.new.before c.args.values.now (phases_of c.args.version (map view c.args.values.now))
    c.if-values-gt-MOST_PHASES.false (begun ∙ c.in_ok-phases.ensures.places)
    ∙ ap made (sym (c.from_vec.ensures ∙ c.in_ok-phases.ensures.phases))
