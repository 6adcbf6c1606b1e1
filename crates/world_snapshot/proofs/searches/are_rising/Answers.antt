use Rattle.std.proofs.Common.{◌≡◌, true, arith, sym, ◌∙◌}
use Rattle.picture_model.specs.Hits.{is_lower}
use Rattle.world_snapshot.proofs.Orders.{rising_more}
use Rattle.world_snapshot.proofs.searches.are_rising.Goals as goal

pub loop-i-preserved : goal.loop-i-preserved
loop-i-preserved c =
    let before = c.index-rows-i.result in
    let here = c.index-rows-i-in-loop-i.result in
    let next : is_lower before.place here.place ≡ true =
    (λ k. is_lower (sym c.place.ensures k) (sym c.place-in-loop-i.ensures k)) ∙ sym c.is_lower.ensures ∙ c.if-not-is_lower.false in (
      omega arith,
      rising_more c.args.rows.now c.loop-i.i before here c.loop-i.invariant.0 c.loop-i-test.true c.index-rows-i.is c.index-rows-i-in-loop-i.is next c.loop-i.invariant.1,
    )
