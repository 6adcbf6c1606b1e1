use Rattle.std.proofs.Common.{◌≡◌, ◌++◌, map, take}
use Rattle.std.specs.List.{flat_map}
use Rattle.table_text.specs.Tables.{line_named}
use Rattle.table_text.proofs.parameters.push_parameters.Given as goal

-- the lines of the first i parameters are written
abbrev pub invariant-loop-i : goal.invariant-loop-i
invariant-loop-i l = l.out.items ≡ l.initial.out.items ++ flat_map (line_named l.kind) (map (λ name. name.now) (take l.i l.names))
