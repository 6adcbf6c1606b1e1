use Rattle.std.proofs.Common.{ℕ, ◌-◌, ◌*◌, ◌/◌, ◌^◌, ◌<◌, subst}
use Rattle.std.proofs.Math.Nat.{one-mul}
use Rattle.fx_math.specs.Root.{IsRoot}
use Rattle.fx_math.proofs.SquareRoots.{Base, base_is, Digits, digits_are}
use Rattle.fx_math.proofs.roots.large_root.Goals as goal

-- what the upper root says of the digit below it
digits : (n k s : ℕ) → Base n k → IsRoot (n / 2 ^ (2 * k)) s → s < 2 ^ 32 → Digits n (2 ^ k) s
digits n k s base root small =
    digits_are n (2 ^ k) s base.positive base.most small
    (subst (λ (m : ℕ). 0 < n / m) base.squared base.upper_positive)
    (subst (λ (m : ℕ). IsRoot (n / m) s) base.squared root)

pub overflow_cast-n : goal.overflow_cast-n
overflow_cast-n c =
    let base = base_is c.args.n c.ilog2.result c.ilog2.ensures.bound c.requires c.ilog2.ensures.power_le c.ilog2.ensures.next_power_gt in
    record { fits = base.upper_fits }

pub overflow_sub-rest : goal.overflow_sub-rest
overflow_sub-rest c =
    let base = base_is c.args.n c.ilog2.result c.ilog2.ensures.bound c.requires c.ilog2.ensures.power_le c.ilog2.ensures.next_power_gt in
    let below = digits c.args.n ((c.ilog2.result - 62) / 2) c.small_root-upper.result base c.small_root-upper.ensures.root c.small_root-upper.ensures.size in
    rw c.raised.ensures below.room

pub down_to_root-requires-clause-above : goal.down_to_root-requires-clause-above
down_to_root-requires-clause-above c =
    let base = base_is c.args.n c.ilog2.result c.ilog2.ensures.bound c.requires c.ilog2.ensures.power_le c.ilog2.ensures.next_power_gt in
    let below = digits c.args.n ((c.ilog2.result - 62) / 2) c.small_root-upper.result base c.small_root-upper.ensures.root c.small_root-upper.ensures.size in
    let digit = simp (c.raised.ensures, c.raised-2.ensures, one-mul) at c.min-digit.ensures in
    rw (c.raised-3.ensures, digit) below.above
