use Rattle.std.proofs.Common.{◌≡◌, ◌<◌, Some, true, false, length, arith, ap, sym, ◌∙◌}
use Rattle.fx_math.specs.declared.scene.Place.{Place}
use Rattle.picture_model.specs.Shading.{is_same_place}
use Rattle.world_snapshot.proofs.Orders.{found_at, found_none, found_nowhere}
use Rattle.world_snapshot.proofs.searches.primitive_by_rank.Goals as goal

pub returns-then-number-rows : goal.returns-then-number-rows
returns-then-number-rows c =
    sym (found_nowhere c.args.rows.now c.args.place.now c.rank-number.result (omega (arith, c.if-number-rows.true)) c.rank-number.ensures.below)

pub returns-then-is_same_place : goal.returns-then-is_same_place
returns-then-is_same_place c =
    let row = c.index-rows-number.result in
    let within : c.rank-number.result < length c.args.rows.now = omega (arith, c.rank-number.ensures.within, c.if-number-rows.false) in
    let same : is_same_place row.place c.args.place.now ≡ true =
    ap (λ (p : Place). is_same_place p c.args.place.now) (sym c.place.ensures) ∙ sym c.is_same_place.ensures ∙ c.if-is_same_place.true in
    ap Some c.primitive.ensures ∙ sym (found_at c.args.rows.now c.args.place.now c.rank-number.result row within c.index-rows-number.is c.rank-number.ensures.below same)

pub returns-else-is_same_place : goal.returns-else-is_same_place
returns-else-is_same_place c =
    let row = c.index-rows-number.result in
    let within : c.rank-number.result < length c.args.rows.now = omega (arith, c.rank-number.ensures.within, c.if-number-rows.false) in
    let other : is_same_place row.place c.args.place.now ≡ false =
    ap (λ (p : Place). is_same_place p c.args.place.now) (sym c.place.ensures) ∙ sym c.is_same_place.ensures ∙ c.if-is_same_place.false in
    sym (found_none c.args.rows.now c.args.place.now c.rank-number.result row c.requires within c.index-rows-number.is c.rank-number.ensures.below c.rank-number.ensures.above other)
