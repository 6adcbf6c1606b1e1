use Rattle.std.proofs.Common.{sym, ◌∙◌}
use Rattle.kind_tables.specs.WalkRefusals.{fault_of}
use Rattle.scene_read.proofs.TestFacts.{first_or, next_or}
use Rattle.scene_read.proofs.refusals.fault.Goals as goal

pub returns-then-is_some : goal.returns-then-is_some
unfolding fault_of
returns-then-is_some g c =
    let incomplete = rw c.as_slice-visits.ensures at c.first_incomplete-incomplete.ensures in
    first_or c.first_incomplete-incomplete.result _ _ incomplete (sym c.is_some.ensures ∙ c.if-is_some.true)

pub returns-then-is_some-2 : goal.returns-then-is_some-2
unfolding fault_of
returns-then-is_some-2 g c =
    let incomplete = rw c.as_slice-visits.ensures at c.first_incomplete-incomplete.ensures in
    let limit = rw c.as_slice-visits.ensures at c.first_limit-limit.ensures in
    next_or c.first_incomplete-incomplete.result _ c.first_limit-limit.result _ incomplete (sym c.is_some.ensures ∙ c.if-is_some.false)
    (first_or c.first_limit-limit.result _ _ limit (sym c.is_some-2.ensures ∙ c.if-is_some-2.true))

pub returns : goal.returns
unfolding fault_of
returns g c =
    let incomplete = rw c.as_slice-visits.ensures at c.first_incomplete-incomplete.ensures in
    let limit = rw c.as_slice-visits.ensures at c.first_limit-limit.ensures in
    let range = rw c.as_slice-visits.ensures at c.first_out_of_range.ensures in
    next_or c.first_incomplete-incomplete.result _ c.first_out_of_range.result _ incomplete (sym c.is_some.ensures ∙ c.if-is_some.false)
    (next_or c.first_limit-limit.result _ c.first_out_of_range.result _ limit (sym c.is_some-2.ensures ∙ c.if-is_some-2.false) range)
