use Rattle.std.proofs.Common.{sym, ◌∙◌}
use Rattle.kind_tables.specs.WalkRefusals.{first_limit}
use Rattle.scene_read.proofs.TestFacts.{first_or, next_or}
use Rattle.scene_read.proofs.refusals.first_limit.Goals as goal

pub returns-then-is_some : goal.returns-then-is_some
unfolding first_limit
returns-then-is_some g c = first_or c.too_many-surfaces.result _ _ c.too_many-surfaces.ensures (sym c.is_some.ensures ∙ c.if-is_some.true)

pub returns-then-is_some-2 : goal.returns-then-is_some-2
unfolding first_limit
returns-then-is_some-2 g c =
    next_or c.too_many-surfaces.result _ c.too_many-lights.result _ c.too_many-surfaces.ensures (sym c.is_some.ensures ∙ c.if-is_some.false)
    (first_or c.too_many-lights.result _ _ c.too_many-lights.ensures (sym c.is_some-2.ensures ∙ c.if-is_some-2.true))

pub returns : goal.returns
unfolding first_limit
returns g c =
    next_or c.too_many-surfaces.result _ c.too_many.result _ c.too_many-surfaces.ensures (sym c.is_some.ensures ∙ c.if-is_some.false)
    (next_or c.too_many-lights.result _ c.too_many.result _ c.too_many-lights.ensures (sym c.is_some-2.ensures ∙ c.if-is_some-2.false) c.too_many.ensures)
