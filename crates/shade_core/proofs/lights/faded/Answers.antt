use Rattle.std.proofs.Common.{◌≡◌, unsigned_abs, arith}
use Rattle.std.proofs.lemmas.Int.{to_z-of_z}
use Rattle.fx_math.specs.Vec3.{dot}
use Rattle.picture_model.proofs.Numbers.{read_wide}
use Rattle.shade_core.proofs.Shares.{faded-at, faded-away, faded-near}
use mir.Syntax.{w32}
use Rattle.shade_core.proofs.lights.faded.Goals as goal
use Rattle.shade_core.proofs.lights.faded.Goals.{then-squared-eq0-via-then-squared-eq0, then-squared-eq0-via-else-squared-eq0+then-squared-bright}

pub returns-then-squared-eq0-clause-value : goal.returns-then-squared-eq0-clause-value
returns-then-squared-eq0-clause-value c =
    let squared : c.unsigned_abs-squared.result ≡ unsigned_abs (dot c.args.way c.args.way) = rw (read_wide c.dot.result c.dot.type_inv, c.dot.ensures.value) at c.unsigned_abs-squared.ensures.value in
    let intensity : c.unsigned_abs.result ≡ unsigned_abs c.args.intensity = rw (to_z-of_z w32 c.args.intensity c.ranges.intensity) at c.unsigned_abs.ensures.value in
    elim c.then-squared-eq0.branch [
      | then-squared-eq0-via-then-squared-eq0 w ↦ faded-at c.args.intensity c.args.way (rw (← squared) (omega arith))
      | then-squared-eq0-via-else-squared-eq0+then-squared-bright w ↦ faded-away c.args.intensity c.args.way (rw (← squared, ← intensity) (omega arith))
    ]

pub returns-clause-value : goal.returns-clause-value
returns-clause-value c =
    let squared : c.unsigned_abs-squared.result ≡ unsigned_abs (dot c.args.way c.args.way) = rw (read_wide c.dot.result c.dot.type_inv, c.dot.ensures.value) at c.unsigned_abs-squared.ensures.value in
    let intensity : c.unsigned_abs.result ≡ unsigned_abs c.args.intensity = rw (to_z-of_z w32 c.args.intensity c.ranges.intensity) at c.unsigned_abs.ensures.value in
    rw (c.min.ensures, squared, intensity) (faded-near c.args.intensity c.args.way (rw (← squared) (omega arith)))
