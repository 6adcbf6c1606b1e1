use Rattle.std.proofs.Common.{length, arith, ap, sym, subst}
use Rattle.frame_future.specs.Future.{IsKept}
use Rattle.frame_future.proofs.Kept.{kept_nothing}
use Rattle.frame_future.proofs.frames.Frames.new.Goals as goal

pub invariant_of-result : goal.invariant_of-result
invariant_of-result c = (
  subst IsKept (λ i. record { flights = sym c.new.ensures.items i; pictures = sym c.new-2.ensures.items i }) kept_nothing,
  let one = ap length c.new.ensures.items in let other = ap length c.new-2.ensures.items in omega (arith, one, other),
)
