use Rattle.std.proofs.Common.{◌-◌, ◌*◌, ◌^◌, ◌≤◌, arith}
use Rattle.hit_tests.proofs.LongRoots.{long_root-is, long_root-size, step_within}
use Rattle.hit_tests.proofs.spheres.long_root.Goals as goal

pub overflow_mul-result-2 : goal.overflow_mul-result-2
overflow_mul-result-2 c =
    let unit : 65536 * 2 ^ (c.ilog2-digits.result - 16) ≤ c.args.slack = step_within c.args.slack c.ilog2-digits.result c.if-slack-lt65536.false c.ilog2-digits.ensures.power_le c.ilog2-digits.ensures.next_power_gt in
    let is = long_root-is c.args.n (c.ilog2-digits.result - 16) c.isqrt-2.result c.args.slack c.isqrt-2.ensures.greatest unit in
    let size = long_root-size c.args.n c.args.slack _ is c.requires.room in
    rw c.power.ensures (record { fits = omega arith })

pub returns-clause-low : goal.returns-clause-low
returns-clause-low c =
    let unit : 65536 * 2 ^ (c.ilog2-digits.result - 16) ≤ c.args.slack = step_within c.args.slack c.ilog2-digits.result c.if-slack-lt65536.false c.ilog2-digits.ensures.power_le c.ilog2-digits.ensures.next_power_gt in
    let is = long_root-is c.args.n (c.ilog2-digits.result - 16) c.isqrt-2.result c.args.slack c.isqrt-2.ensures.greatest unit in
    rw c.power.ensures is.low

pub returns-clause-high : goal.returns-clause-high
returns-clause-high c =
    let unit : 65536 * 2 ^ (c.ilog2-digits.result - 16) ≤ c.args.slack = step_within c.args.slack c.ilog2-digits.result c.if-slack-lt65536.false c.ilog2-digits.ensures.power_le c.ilog2-digits.ensures.next_power_gt in
    let is = long_root-is c.args.n (c.ilog2-digits.result - 16) c.isqrt-2.result c.args.slack c.isqrt-2.ensures.greatest unit in
    rw c.power.ensures is.high

pub returns-clause-size : goal.returns-clause-size
returns-clause-size c =
    let unit : 65536 * 2 ^ (c.ilog2-digits.result - 16) ≤ c.args.slack = step_within c.args.slack c.ilog2-digits.result c.if-slack-lt65536.false c.ilog2-digits.ensures.power_le c.ilog2-digits.ensures.next_power_gt in
    let is = long_root-is c.args.n (c.ilog2-digits.result - 16) c.isqrt-2.result c.args.slack c.isqrt-2.ensures.greatest unit in
    rw c.power.ensures (long_root-size c.args.n c.args.slack _ is c.requires.room)
