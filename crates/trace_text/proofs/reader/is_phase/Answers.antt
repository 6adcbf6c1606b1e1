use Rattle.std.proofs.Common.{◌≤◌, ◌∙◌, sym, arith, length}
use Rattle.std.proofs.lemmas.Bool.Decides.{nat_tests}
use Rattle.serde_json.specs.View.{view}
use Rattle.trace_text.proofs.ReadingFacts.{is_phase-lists}
use Rattle.trace_text.proofs.reader.is_phase.Goals as goal

pub returns : goal.returns
returns c =
    let some : 1 ≤ length c.items_at-callers.result.now = grind (arith, nat_tests) in
    c.are_lists.ensures
    ∙ is_phase-lists (view c.args.value.now) c.items_at-callers.result.now c.items_at-callers.ensures (sym c.has_only.ensures ∙ c.if-not-has_only.false) some
    c.if-callers-gt-MOST_CALLERS.false
