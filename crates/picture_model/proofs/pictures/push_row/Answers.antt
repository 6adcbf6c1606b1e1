use Rattle.std.proofs.Common.{◌∙◌, ◌++◌, ap, append_assoc, arith, sym}
use Rattle.picture_model.proofs.PixelRows.{in_a_row-more}
use Rattle.picture_model.specs.Pictures.{pixel}
use Rattle.picture_model.proofs.pictures.push_row.Goals as goal

pub loop-x-preserved : goal.loop-x-preserved
loop-x-preserved c =
    rw (c.in_ok-extend_from_slice.ensures.items, c.pixel.ensures, c.loop-x.invariant)
    (append_assoc c.args.out.now.items _ _
    ∙ ap (λ xs. c.args.out.now.items ++ xs) (sym (in_a_row-more (λ x. pixel c.args.scene.now c.args.plane x c.args.y) c.args.rect.now.x0 c.loop-x.x (omega arith))))
