use Rattle.ray_kernel.proofs.Holdings.{corners_in}
use Rattle.ray_kernel.proofs.shapes.corner_box.Goals as goal

pub returns : goal.returns
returns c = corners_in c.args.a c.args.b c.args.c c.join.result c.join-2.result c.join.ensures.first c.join.ensures.second c.join-2.ensures.first c.join-2.ensures.second
