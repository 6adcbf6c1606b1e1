use Rattle.std.proofs.Common.{◌≡◌, ◌+◌, Some, refl}
use denote.Enum.Declared.{tag_of}
use Rattle.dev_types.specs.declared.data_types.DataType.{DataType}
use Rattle.dev_types.specs.declared.data_types.DataType.TheVariants.{Int32}
use Rattle.dev_types.specs.contracts.data_types.DataType.{the_type}
use Rattle.dev_types.specs.DataTypes.{type_numbered}
use Rattle.dev_types.proofs.data_types.DataType.number.Goals as goal

-- the type one above a variant's place is that variant
named : (t : DataType) → type_numbered (tag_of the_type t + 1) ≡ Some t
named Int32 = refl
named _ = refl

pub returns-clause-named : goal.returns-clause-named
returns-clause-named c = named c.args.self
