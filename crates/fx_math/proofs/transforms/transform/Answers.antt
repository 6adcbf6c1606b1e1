use Rattle.std.proofs.Common.{arith, sym}
use Rattle.fx_math.proofs.transforms.transform.Goals as goal

pub returns-then-reach : goal.returns-then-reach
returns-then-reach c = (rw (sym c.placed-image.ensures.value) (omega arith), c.placed-image.ensures.value)

pub returns-else-reach : goal.returns-else-reach
returns-else-reach c = rw (sym c.placed-image.ensures.value) (λ h. omega arith)
