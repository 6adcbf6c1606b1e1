use Rattle.std.proofs.Common.{◌≡◌, to_z, of_z, arith}
use Rattle.std.proofs.lemmas.Int.{ints}
use mir.Syntax.{w32, w64}
use Rattle.picture_model.proofs.limits.is_view_within.Goals as goal

pub returns-then-is_between : goal.returns-then-is_between
returns-then-is_between c =
    let aspect : to_z w64 (of_z w64 (to_z w32 (of_z w32 c.args.aspect))) ≡ c.args.aspect = omega (arith, ints) in
    let extent : to_z w64 (of_z w64 (to_z w32 (of_z w32 c.args.extent))) ≡ c.args.extent = omega (arith, ints) in
    let ratio = rw aspect at c.is_between.ensures in
    let opening = rw extent at c.is_between-then-is_between.ensures in (
      λ t. record {
        place = c.is_point.ensures.0 c.if-not-is_point.false;
        ahead = rw (← c.reach.ensures) c.if-reach.false;
        upward = rw (← c.reach-else-reach.ensures) c.if-reach-2.false;
        ratio = ratio.0 c.if-is_between.true;
        opening = opening.0 t;
      },
      λ view. opening.1 view.opening,
    )
