use Rattle.std.proofs.Common.{rules, ℕ, ◌≡◌, ◌+◌, ◌-◌, ◌*◌, take, drop, ◌∙◌, ap, arith, length, ◌<◌, length-set, FitsSigned, w32}
use Rattle.std.proofs.lemmas.Int.{to_z-of_z}
use Rattle.dev_types.specs.ValueBytes.{signed_bytes, signed_number}
use Rattle.dev_types.proofs.ValueFacts.{read_step, same_step, read_done}
use Rattle.dev_types.proofs.values.read_signed_all.Goals as goal

pub loop-i-preserved : goal.loop-i-preserved
loop-i-preserved g c =
    let within : c.loop-i.i < length c.loop-i.numbers = omega (arith, c.loop-i.invariant.many) in
    let four : 4 * c.loop-i.i + 4 - 4 * c.loop-i.i ≡ 4 = omega arith in
    let fits : FitsSigned w32 c.read_signed.result = search rules in
    record {
      many = length-set _ _ _ ∙ c.loop-i.invariant.many;
      read = read_step signed_number _ _ _ _ _ within (to_z-of_z w32 c.read_signed.result fits ∙ c.read_signed.ensures.value ∙ ap (λ (n : ℕ). signed_number (take n (drop (4 * c.loop-i.i) c.args.bytes.now))) four) c.loop-i.invariant.read;
      same = same_step signed_bytes _ _ _ _ within (ap signed_bytes (to_z-of_z w32 c.read_signed.result fits) ∙ c.read_signed.ensures.bytes ∙ ap (λ (n : ℕ). take n (drop (4 * c.loop-i.i) c.args.bytes.now)) four) c.loop-i.invariant.same;
    }

pub returns-clause-value : goal.returns-clause-value
returns-clause-value g c = read_done signed_number _ _ c.loop-i.i _ c.loop-i.invariant.many (omega arith) c.loop-i.invariant.read
