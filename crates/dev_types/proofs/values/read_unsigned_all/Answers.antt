use Rattle.std.proofs.Common.{ℕ, ◌≡◌, ◌+◌, ◌-◌, ◌*◌, take, drop, ◌∙◌, ap, arith, length, ◌<◌, length-set}
use Rattle.dev_types.specs.ValueBytes.{unsigned_bytes, unsigned_number}
use Rattle.dev_types.proofs.ValueFacts.{read_step, same_step, read_done}
use Rattle.dev_types.proofs.values.read_unsigned_all.Goals as goal

pub loop-i-preserved : goal.loop-i-preserved
loop-i-preserved g c =
    let within : c.loop-i.i < length c.loop-i.numbers = omega (arith, c.loop-i.invariant.many) in
    let four : 4 * c.loop-i.i + 4 - 4 * c.loop-i.i ≡ 4 = omega arith in
    record {
      many = length-set _ _ _ ∙ c.loop-i.invariant.many;
      read = read_step unsigned_number _ _ _ _ _ within (c.read_unsigned.ensures.value ∙ ap (λ (n : ℕ). unsigned_number (take n (drop (4 * c.loop-i.i) c.args.bytes.now))) four) c.loop-i.invariant.read;
      same = same_step unsigned_bytes _ _ _ _ within (c.read_unsigned.ensures.bytes ∙ ap (λ (n : ℕ). take n (drop (4 * c.loop-i.i) c.args.bytes.now)) four) c.loop-i.invariant.same;
    }

pub returns-clause-value : goal.returns-clause-value
returns-clause-value g c = read_done unsigned_number _ _ c.loop-i.i _ c.loop-i.invariant.many (omega arith) c.loop-i.invariant.read
