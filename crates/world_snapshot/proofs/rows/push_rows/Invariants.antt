use Rattle.std.proofs.Common.{◌≡◌, ◌++◌, map}
use Rattle.std.specs.List.{range_with_len}
use Rattle.world_snapshot.specs.Captured.{primitive_of}
use Rattle.world_snapshot.proofs.rows.push_rows.Given as goal

abbrev pub invariant-loop-k : goal.invariant-loop-k
invariant-loop-k l = l.rows.items ≡ l.initial.rows.items ++ map (primitive_of l.surface.value) (range_with_len 0 l.k)
