use Rattle.std.proofs.Common.{◌≡◌, ◌+◌, ◌*◌, ◌<◌, ◌++◌, ℕ, length, take, arith, subst, ◌∙◌}
use Rattle.frame_future.proofs.PixelParts.{row_written}
use Rattle.frame_future.proofs.mapped.MappedFrame.copy_row.Goals as goal

pub loop-tile-preserved : goal.loop-tile-preserved
loop-tile-preserved c =
    let m = c.args.self.now in
    let y = c.args.y in
    let tile = c.loop-tile.tile in
    let same = c.width-width.ensures in
    let within : 16 * tile < m.width = omega (arith, c.loop-tile-test.true, c.div_ceil-tile-end.ensures, same) in
    let front = subst (λ (w : ℕ). take (4 * (y * w + 16 * tile) + length c.part.result.now) c.put.new.out ≡ take (4 * (y * w + 16 * tile)) c.loop-tile.out ++ c.part.result.now) same c.put.ensures.front in
    (c.put.ensures.same ∙ c.loop-tile.invariant.0, row_written m y tile c.loop-tile.out c.put.new.out c.part.result.now within c.part.ensures.value c.part.ensures.count c.loop-tile.invariant.1 front)
