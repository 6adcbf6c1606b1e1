use Rattle.std.proofs.Common.{rules, subst, sym}
use Rattle.plain_journal.proofs.Beginnings.{begins}
use Rattle.plain_journal.specs.Whole.{IsWhole}
use Rattle.plain_journal.proofs.record.Record.new.Goals as goal

pub invariant_of-result : goal.invariant_of-result
invariant_of-result c =
    subst (λ s. IsWhole s c.reserve.new.self) (sym (search rules))
    (begins c.reserve.new.self (search rules) (search rules) (search rules) (search rules) (search rules) (search rules) (search rules))
