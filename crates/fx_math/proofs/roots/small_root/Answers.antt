use Rattle.std.proofs.Common.{◌≡◌, ℕ, ◌<◌, ◌+◌, ◌*◌, ◌/◌, ◌%◌, ◌^◌, arith}
use Rattle.std.proofs.Math.Nat.{mod-eq_of_lt, one-mul}
use Rattle.fx_math.proofs.SquareRoots.{Guess, guess_is, mean_above}
use Rattle.fx_math.proofs.roots.small_root.Goals as goal

power : (n k : ℕ) → Guess n k → 1 * 2 ^ k % 2 ^ 64 ≡ 2 ^ k
power n k g = let small : 2 ^ k < 2 ^ 64 = omega (arith, g.bound) in rw (one-mul (2 ^ k)) (mod-eq_of_lt small)

pub overflow_add-guess : goal.overflow_add-guess
overflow_add-guess c =
    let g = guess_is c.args.n c.ilog2.result c.ilog2.ensures.bound c.ilog2.ensures.next_power_gt c.ranges.n.fits in
    rw (power c.args.n ((c.ilog2.result + 1) / 2) g) (record { fits = omega (arith, g.bound) })

pub newton_root-requires-clause-above : goal.newton_root-requires-clause-above
newton_root-requires-clause-above c =
    let g = guess_is c.args.n c.ilog2.result c.ilog2.ensures.bound c.ilog2.ensures.next_power_gt c.ranges.n.fits in
    rw (power c.args.n ((c.ilog2.result + 1) / 2) g) (mean_above c.args.n (2 ^ ((c.ilog2.result + 1) / 2)) g.positive)

pub newton_root-requires-clause-size : goal.newton_root-requires-clause-size
newton_root-requires-clause-size c =
    let g = guess_is c.args.n c.ilog2.result c.ilog2.ensures.bound c.ilog2.ensures.next_power_gt c.ranges.n.fits in
    rw (power c.args.n ((c.ilog2.result + 1) / 2) g) (omega (arith, g.bound))
