use Rattle.std.proofs.Common.{◌≡◌, arith, ap, sym, ◌∙◌}
use Rattle.picture_model.specs.declared.records.Rect.{Rect}
use Rattle.picture_model.specs.Tiles.{tile_rect}
use Rattle.tile_claims.specs.Parts.{rect_of}
use Rattle.tile_claims.specs.Seats.{key_of, pixels_of, tile_of}
use Rattle.tile_render.proofs.FilledLaws.{filled_all}
use Rattle.tile_render.proofs.tiles.render.Goals as goal

pub returns-clause-filled : goal.returns-clause-filled
returns-clause-filled c =
    let key = key_of c.args.work.now.claims in
    let claim = c.loop-y.claim in
    let of = c.loop-y.invariant.0 in
    let tile = c.loop-y.invariant.1.tile ∙ sym c.tile.ensures in
    let rect : rect_of key (tile_of claim) ≡ c.tile_rect-rect.result =
    (λ i. tile_rect (c.requires.key i).width (c.requires.key i).height (tile i)) ∙ sym c.tile_rect-rect.ensures.value in
    let high = ap (λ (r : Rect). r.h) rect in
    filled_all key (tile_of claim) (pixels_of claim) c.loop-y.y of.sized of.whole (omega (arith, of.sized.height, high, c.loop-y-test.false)) c.loop-y.invariant.2
