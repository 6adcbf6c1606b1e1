use Rattle.std.proofs.Common.{◌≡◌, ◌≢◌, ◌+◌, ◌≤◌, List, [], ◌∷◌, length, length-append, vec_capacity, arith, ap, sym, subst, ◌∙◌}
use Rattle.tile_claims.specs.declared.view.View.{View}
use Rattle.tile_claims.specs.Pixels.{Pixels}
use Rattle.tile_claims.specs.Rule.{HasSeenAll}
use Rattle.tile_claims.specs.Seats.{key_of, view}
use Rattle.dev_types.specs.Counting.{times}
use Rattle.dev_types.proofs.SumLaws.{times-other}
use Rattle.frame_future.specs.Pixels.{AreTiles}
use Rattle.frame_future.proofs.Collected.{are_more}
use Rattle.frame_future.proofs.flight.collect_all.Goals as goal

pub loop-tile-preserved : goal.loop-tile-preserved
loop-tile-preserved c =
    let tile = c.loop-tile.tile in
    let now = c.collect.ensures.view in
    let before = c.loop-tile.invariant in
    let xs : List Pixels = c.loop-tile.pixels.items in
    let p = c.collect.result in
    let room : c.args.tiles ≤ vec_capacity c.push_reserved.new.self = omega (arith, before.6, c.push_reserved.ensures.capacity) in
    let count : length c.push_reserved.new.self.items ≡ tile + 1 = ap length c.push_reserved.ensures.items ∙ length-append xs (p ∷ []) ∙ omega (arith, before.4) in (
      c.collect.ensures.seat.0,
      ap (λ (v : View). v.first) now ∙ before.1,
      subst (λ (v : View). HasSeenAll v) (sym now) before.2,
      (λ t later.
          let apart : tile ≢ t = (λ e. omega (arith, e, later)) in
          ap (λ (v : View). times t v.collected) now ∙ times-other t tile (view c.loop-tile.seat).collected apart ∙ before.3 t (omega (arith, later))),
      count,
      subst (λ ys. AreTiles (key_of c.args.claims.now) ys) (sym c.push_reserved.ensures.items) (are_more (key_of c.args.claims.now) xs p tile (sym before.4) before.5 c.collect.ensures.filled),
      room,
    )
