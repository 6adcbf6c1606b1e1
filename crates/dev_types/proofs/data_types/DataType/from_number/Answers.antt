use Rattle.std.proofs.Common.{sym, arith}
use Rattle.dev_types.proofs.TypeFacts.{type_at, type_past, number_numbered}
use Rattle.dev_types.proofs.data_types.DataType.from_number.Goals as goal

pub returns-in-1-to-24-clause-value : goal.returns-in-1-to-24-clause-value
returns-in-1-to-24-clause-value c = type_at c.args.number _ (omega arith) (omega arith)

pub returns-in-1-to-24-clause-number : goal.returns-in-1-to-24-clause-number
returns-in-1-to-24-clause-number c = number_numbered c.args.number _ (sym (type_at c.args.number _ (omega arith) (omega arith)))

pub returns-in_default-2-clause-value : goal.returns-in_default-2-clause-value
returns-in_default-2-clause-value c = type_past c.args.number (λ some. omega arith)
