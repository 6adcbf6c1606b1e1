use Rattle.std.proofs.Common.{◌≡◌, drop}
use Rattle.std.specs.List.{list_all}
use Rattle.fx_math.specs.Mat34.{placed}
use Rattle.kind_tables.specs.Ranges.{is_point}
use Rattle.scene_read.specs.Shaped.{vectors_in}
use Rattle.scene_read.proofs.geometry_ranges.are_centres.Given as goal

-- all are points exactly where those that are left are
abbrev pub invariant-loop-k : goal.invariant-loop-k
invariant-loop-k l = list_all (λ p. is_point (placed l.m p)) (drop l.k (vectors_in l.positions)) ≡ list_all (λ p. is_point (placed l.m p)) (vectors_in l.positions)
