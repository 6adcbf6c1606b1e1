use Rattle.std.proofs.Common.{◌≡◌, ◌==◌, unsigned_abs, true, false, refl, arith}
use Rattle.std.proofs.lemmas.Bool.Decides.{nat_tests}
use Rattle.std.proofs.lemmas.Int.{to_z-of_z, to_z_pos}
use Rattle.fx_math.specs.Vec3.{dot}
use Rattle.picture_model.proofs.Numbers.{read_wide}
use Rattle.picture_model.specs.Shading.{faded}
use mir.Syntax.{w32, w128}
use Rattle.picture_model.proofs.shading.faded.Goals as goal

pub returns-then-squared-eq0-clause-value : goal.returns-then-squared-eq0-clause-value
unfolding faded
returns-then-squared-eq0-clause-value c =
    let squared : c.unsigned_abs-squared.result ≡ unsigned_abs (dot c.args.way c.args.way) = rw (read_wide c.dot.result c.dot.type_inv, c.dot.ensures.value) at c.unsigned_abs-squared.ensures.value in
    let test : (unsigned_abs (dot c.args.way c.args.way) == 0) ≡ true = rw (← squared, c.if-squared-eq0.true) refl in
    rw test refl

pub returns-clause-value : goal.returns-clause-value
unfolding faded
returns-clause-value c =
    let squared : c.unsigned_abs-squared.result ≡ unsigned_abs (dot c.args.way c.args.way) = rw (read_wide c.dot.result c.dot.type_inv, c.dot.ensures.value) at c.unsigned_abs-squared.ensures.value in
    let some : (c.unsigned_abs-squared.result == 0) ≡ false = grind (arith, nat_tests) in
    let test : (unsigned_abs (dot c.args.way c.args.way) == 0) ≡ false = rw squared at some in
    let intensity : c.unsigned_abs.result ≡ unsigned_abs c.args.intensity = rw (to_z-of_z w32 c.args.intensity c.ranges.intensity) at c.unsigned_abs.ensures.value in
    rw (test, to_z_pos w128 c.min.result (omega arith), c.min.ensures, squared, intensity) refl
