use Rattle.std.proofs.Common.{◌≡◌, take}
use Rattle.std.specs.List.{flat_map}
use Rattle.dev_types.specs.DataTypes.{types_in_order}
use Rattle.table_text.specs.Tables.{type_kinds_text}
use Rattle.table_text.proofs.kinds.describe.Given as goal

-- the kinds of the first i types are written
abbrev pub invariant-loop-i : goal.invariant-loop-i
invariant-loop-i l = l.out.items ≡ flat_map type_kinds_text (take l.i types_in_order)
