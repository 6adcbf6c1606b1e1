use Rattle.std.proofs.Common.{◌+◌, ap, sym, subst, ◌∙◌, length}
use Rattle.tile_claims.specs.Seats.{key_of, pixels_of, tile_of}
use Rattle.tile_claims.specs.declared.seats.Claim.{Claim}
use Rattle.tile_render.proofs.FilledLaws.{filled_more, length-row_shown}
use Rattle.tile_render.specs.Filled.{AreFilled}
use Rattle.tile_render.proofs.tiles.fill.Goals as goal

pub write_row-requires-clause-size : goal.write_row-requires-clause-size
write_row-requires-clause-size c =
    ap length c.requires.shows
    ∙ length-row_shown (key_of c.args.claims.now) (tile_of c.args.claim.now) (pixels_of c.args.claim.now) c.args.channel c.args.y c.requires.claim.sized

pub returns-clause-after : goal.returns-clause-after
returns-clause-after c =
    let key = key_of c.args.claims.now in
    let claim = c.args.claim.now in
    subst (λ (d : Claim). AreFilled key (tile_of d) (pixels_of d) c.args.y (c.args.channel + 1)) (sym c.write_row.ensures)
    (filled_more key (tile_of claim) (pixels_of claim) c.args.channel c.args.y c.args.bytes.now c.requires.claim.sized c.requires.claim.whole
    c.requires.channel c.requires.row c.requires.shows c.requires.before)
