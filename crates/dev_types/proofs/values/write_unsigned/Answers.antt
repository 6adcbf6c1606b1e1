use Rattle.std.proofs.Common.{arith}
use Rattle.dev_types.proofs.ValueFacts.{unsigned_back}
use Rattle.dev_types.proofs.values.write_unsigned.Goals as goal

pub returns-clause-back : goal.returns-clause-back
returns-clause-back g c = unsigned_back _ _ _ c.loop-i.i c.told-numbers (omega arith) (omega arith) c.loop-i.invariant.written c.loop-i.invariant.fit
