use Rattle.shade_core.proofs.Shares.{share-is}
use Rattle.shade_core.proofs.lights.with_lamp.Goals as goal

pub returns-clause-red : goal.returns-clause-red
returns-clause-red c =
    share-is 0 c.args.surface.now.normal c.args.surface.now.point c.args.light.now c.component.result c.lamp_at-lamp.result.strength c.cosine-along.result c.share.result c.args.sum.now.red
    (rw c.lamp_at-lamp.ensures.color at c.component.ensures.value)
    c.lamp_at-lamp.ensures.strength
    (rw c.lamp_at-lamp.ensures.direction at c.cosine-along.ensures.value)
    c.share.ensures.value

pub returns-clause-green : goal.returns-clause-green
returns-clause-green c =
    share-is 1 c.args.surface.now.normal c.args.surface.now.point c.args.light.now c.component-2.result c.lamp_at-lamp.result.strength c.cosine-along.result c.share-2.result c.args.sum.now.green
    (rw c.lamp_at-lamp.ensures.color at c.component-2.ensures.value)
    c.lamp_at-lamp.ensures.strength
    (rw c.lamp_at-lamp.ensures.direction at c.cosine-along.ensures.value)
    c.share-2.ensures.value

pub returns-clause-blue : goal.returns-clause-blue
returns-clause-blue c =
    share-is 2 c.args.surface.now.normal c.args.surface.now.point c.args.light.now c.component-3.result c.lamp_at-lamp.result.strength c.cosine-along.result c.share-3.result c.args.sum.now.blue
    (rw c.lamp_at-lamp.ensures.color at c.component-3.ensures.value)
    c.lamp_at-lamp.ensures.strength
    (rw c.lamp_at-lamp.ensures.direction at c.cosine-along.ensures.value)
    c.share-3.ensures.value
