use Rattle.std.proofs.Common.{◌≢◌, arith, ap, sym, subst, ◌∙◌}
use Rattle.tile_claims.specs.declared.view.View.{View}
use Rattle.tile_claims.specs.Rule.{HasSeenAll}
use Rattle.tile_claims.specs.Seats.{view}
use Rattle.dev_types.specs.Counting.{times}
use Rattle.dev_types.proofs.SumLaws.{times-other}
use Rattle.flight_tests.proofs.tiles.collect_all.Goals as goal

pub loop-tile-preserved : goal.loop-tile-preserved
loop-tile-preserved g c =
    let tile = c.loop-tile.tile in
    let now = c.collect-pixels.ensures.view in
    let before = c.loop-tile.invariant in (
      c.collect-pixels.ensures.seat.0,
      ap (λ (v : View). v.first) now ∙ before.1,
      subst (λ (v : View). HasSeenAll v) (sym now) before.2,
      λ t later.
          let apart : tile ≢ t = (λ e. omega (arith, e, later)) in
          ap (λ (v : View). times t v.collected) now ∙ times-other t tile (view c.loop-tile.seat).collected apart ∙ before.3 t (omega (arith, later)),
    )
