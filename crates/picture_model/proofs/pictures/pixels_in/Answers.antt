use Rattle.std.proofs.Common.{◌≡◌, ◌-◌, arith, sym}
use Rattle.picture_model.proofs.PixelRows.{in_a_row-more}
use Rattle.picture_model.specs.Pictures.{pixel, pixels_in, row_of}
use Rattle.picture_model.proofs.pictures.pixels_in.Goals as goal

pub loop-y-preserved : goal.loop-y-preserved
loop-y-preserved c =
    rw (c.in_ok-push_row.ensures, c.loop-y.invariant)
    (sym (in_a_row-more (row_of (pixel c.args.scene.now c.args.plane) c.args.rect.now) c.args.rect.now.y0 c.loop-y.y (omega arith)))

pub returns : goal.returns
unfolding pixels_in
returns c =
    let all : c.loop-y.y - c.args.rect.now.y0 ≡ c.args.rect.now.h = omega arith in
    rw all at c.loop-y.invariant
