use Rattle.std.proofs.Common.{◌≡◌, ◌++◌, map, take}
use Rattle.std.specs.List.{enumerate_from}
use Rattle.scene_read.specs.Shown.{finished}
use Rattle.scene_read.proofs.scenes.push_shapes.Given as goal

abbrev pub invariant-loop-k : goal.invariant-loop-k
invariant-loop-k l = l.primitives.items ≡ l.initial.primitives.items ++ map (finished l.spot l.finish) (enumerate_from 0 (take l.k l.shapes))
