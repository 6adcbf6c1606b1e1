use Rattle.std.proofs.Common.{◌∙◌, sym}
use Rattle.picture_model.proofs.Crossings.{is_crossed-det, kept}
use Rattle.picture_model.proofs.depths.crossing_depth.Goals as goal

pub nonzero_div-depth : goal.nonzero_div-depth
nonzero_div-depth c =
    rw (c.unsigned_abs-2.ensures.value, kept c.args.c.now.det c.requires.det)
    (is_crossed-det c.args.c.now (sym c.is_crossed.ensures ∙ c.if-not-is_crossed.false))
