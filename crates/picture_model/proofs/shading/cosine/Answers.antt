use Rattle.std.proofs.Common.{◌≡◌, pos, int_le, true, false, refl, ◌∙◌, ap}
use Rattle.std.specs.Int.{int_div_euclid}
use Rattle.fx_math.specs.Vec3.{dot}
use Rattle.picture_model.proofs.Numbers.{read_shifted, read_wide}
use Rattle.picture_model.specs.Shading.{cosine}
use Rattle.picture_model.proofs.shading.cosine.Goals as goal

pub returns-then-along-le0-clause-value : goal.returns-then-along-le0-clause-value
unfolding cosine
returns-then-along-le0-clause-value c =
    let test : int_le (dot c.args.normal c.args.direction) (pos 0) ≡ true = rw (read_wide c.dot-along.result c.dot-along.type_inv, c.dot-along.ensures.value) at c.if-along-le0.true in
    rw test refl

pub returns-else-along-le0-clause-value : goal.returns-else-along-le0-clause-value
unfolding cosine
returns-else-along-le0-clause-value c =
    let test : int_le (dot c.args.normal c.args.direction) (pos 0) ≡ false = rw (read_wide c.dot-along.result c.dot-along.type_inv, c.dot-along.ensures.value) at c.if-along-le0.false in
    rw (test, read_wide c.dot-along.result c.dot-along.type_inv)
    (read_shifted c.dot-along.result c.dot-along.type_inv ∙ ap (λ z. int_div_euclid z (pos 65536)) c.dot-along.ensures.value)
