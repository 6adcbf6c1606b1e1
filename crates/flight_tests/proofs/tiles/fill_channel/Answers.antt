use Rattle.std.proofs.Common.{◌≡◌, ◌+◌, List, ℕ, ap, sym, subst, ◌∙◌, arith}
use Rattle.picture_model.specs.declared.records.Rect.{Rect}
use Rattle.picture_model.specs.Pictures.{pixel, row_of, plane}
use Rattle.tile_claims.specs.declared.seats.Claim.{Claim}
use Rattle.tile_claims.specs.Parts.{rect_of, row_shown, AreRows}
use Rattle.tile_claims.specs.Seats.{key_of, tile_of, pixels_of, IsClaimOf, IsSameClaim}
use Rattle.tile_claims.proofs.RowLaws.{rows_more, claim_written}
use Rattle.flight_tests.proofs.tiles.fill_channel.Goals as goal

pub loop-y-preserved : goal.loop-y-preserved
loop-y-preserved c =
    let claims = c.args.claims.now in
    let key = key_of claims in
    let claim = c.loop-y.claim in
    let of = c.loop-y.invariant.0 in
    let same = c.loop-y.invariant.1 in
    let y = c.loop-y.y in
    let channel = c.args.channel in
    let bytes : List ℕ = row_of (pixel c.args.scene.now (plane channel)) c.args.rect.now (c.args.rect.now.y0 + y) in
    let scene = c.requires.same_scene in
    let rect = c.requires.rect ∙ ap (λ t. rect_of key t) (sym same.tile) in
    let shows : bytes ≡ row_shown key (tile_of claim) channel y = (λ i. row_of (pixel (sym scene i) (plane channel)) (rect i) ((rect i).y0 + y)) in
    let high = ap (λ (r : Rect). r.h) rect in
    subst (λ (d : Claim). IsClaimOf claims d × IsSameClaim c.args.claim.now d × AreRows key (tile_of d) (pixels_of d) channel (y + 1)) (sym c.fill_row.ensures) (
      claim_written claims claim channel y bytes of,
      record { tile = same.tile; seat = same.seat },
      rows_more key (tile_of claim) (pixels_of claim) channel y bytes of.sized of.whole c.requires.channel (omega (arith, c.loop-y-test.true, high, of.sized.height)) shows c.loop-y.invariant.2,
    )
