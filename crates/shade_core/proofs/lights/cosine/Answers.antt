use Rattle.picture_model.proofs.Numbers.{read_wide}
use Rattle.shade_core.proofs.Shares.{cosine-along, cosine-apart}
use Rattle.shade_core.proofs.lights.cosine.Goals as goal

pub returns-then-along-le0-clause-value : goal.returns-then-along-le0-clause-value
returns-then-along-le0-clause-value c =
    cosine-apart c.args.normal c.args.direction (rw (read_wide c.dot-along.result c.dot-along.type_inv, c.dot-along.ensures.value) at c.if-along-le0.true)

pub returns-else-along-le0-clause-value : goal.returns-else-along-le0-clause-value
returns-else-along-le0-clause-value c =
    let along = rw (read_wide c.dot-along.result c.dot-along.type_inv, c.dot-along.ensures.value) at c.unsigned_abs.ensures.value in
    rw along (cosine-along c.args.normal c.args.direction (rw (read_wide c.dot-along.result c.dot-along.type_inv, c.dot-along.ensures.value) at c.if-along-le0.false))
