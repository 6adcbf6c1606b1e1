use Rattle.std.proofs.Common.{◌≡◌, ◌++◌, map, take}
use Rattle.std.specs.List.{flat_map}
use Rattle.table_text.specs.Tables.{kind_named}
use Rattle.table_text.proofs.kinds.push_type.Given as goal

-- the first i kinds are written
abbrev pub invariant-loop-i : goal.invariant-loop-i
invariant-loop-i l = l.out.items ≡ l.initial.out.items ++ flat_map (kind_named l.ty) (map (λ subtype. subtype.now) (take l.i l.subtypes))
