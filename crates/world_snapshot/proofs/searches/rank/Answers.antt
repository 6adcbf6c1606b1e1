use Rattle.std.proofs.Common.{◌≡◌, ◌+◌, ◌-◌, ◌/◌, ◌<◌, ℕ, true, false, length, arith, sym, ap, ◌∙◌}
use Rattle.fx_math.specs.declared.scene.Place.{Place}
use Rattle.picture_model.specs.Hits.{is_lower}
use Rattle.world_snapshot.proofs.Orders.{lower_more, not_lower_more}
use Rattle.world_snapshot.proofs.searches.rank.Goals as goal

pub loop-low-preserved-then-is_lower : goal.loop-low-preserved-then-is_lower
loop-low-preserved-then-is_lower c =
    let before = c.loop-low.invariant in
    let row = c.index-rows-middle.result in
    let middle : ℕ = c.loop-low.low + (c.loop-low.high - c.loop-low.low) / 2 in
    let within : middle < length c.args.rows.now = omega (arith, c.loop-low-test.true, before.1) in
    let lower : is_lower row.place c.args.place.now ≡ true =
    ap (λ (p : Place). is_lower p c.args.place.now) (sym c.place.ensures) ∙ sym c.is_lower.ensures ∙ c.if-is_lower.true in (
      omega (arith, c.loop-low-test.true),
      before.1,
      lower_more c.args.rows.now c.args.place.now middle row c.requires within c.index-rows-middle.is lower,
      before.3,
    )

pub loop-low-preserved : goal.loop-low-preserved
loop-low-preserved c =
    let before = c.loop-low.invariant in
    let row = c.index-rows-middle.result in
    let middle : ℕ = c.loop-low.low + (c.loop-low.high - c.loop-low.low) / 2 in
    let within : middle < length c.args.rows.now = omega (arith, c.loop-low-test.true, before.1) in
    let higher : is_lower row.place c.args.place.now ≡ false =
    ap (λ (p : Place). is_lower p c.args.place.now) (sym c.place.ensures) ∙ sym c.is_lower.ensures ∙ c.if-is_lower.false in (
      omega arith,
      omega (arith, within),
      before.2,
      not_lower_more c.args.rows.now c.args.place.now middle row c.requires within c.index-rows-middle.is higher,
    )
