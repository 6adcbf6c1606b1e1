use Rattle.std.proofs.Common.{◌++◌, ◌∙◌, ap, sym, append_assoc}
use Rattle.scene_read.proofs.ListFacts.{enumerate_more}
use Rattle.scene_read.specs.Shown.{finished}
use Rattle.scene_read.proofs.scenes.push_shapes.Goals as goal

pub loop-k-preserved : goal.loop-k-preserved
loop-k-preserved c =
    rw (c.in_ok-push.ensures.items, c.loop-k.invariant, c.primitive.ensures)
    (append_assoc c.args.primitives.now.items _ _
    ∙ ap (λ xs. c.args.primitives.now.items ++ xs) (sym (enumerate_more (finished c.args.spot.now c.args.finish.now) c.args.shapes.now c.loop-k.k _ c.loop-k-test.true)))
