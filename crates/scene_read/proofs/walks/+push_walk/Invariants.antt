use Rattle.std.proofs.Common.{◌≡◌, ◌++◌, ◌-◌, take}
use Rattle.std.specs.List.{flat_map}
use Rattle.kind_tables.specs.Walks.{walk_from}
use Rattle.scene_read.specs.Starts.{starts_of}
use Rattle.scene_read.proofs.walks.+push_walk.Given as goal

abbrev pub decreases-push_walk : goal.decreases-push_walk
decreases-push_walk g l = l.depth

abbrev pub invariant-loop-start : goal.invariant-loop-start
invariant-loop-start g l =
    l.visits.items ≡ l.initial.visits.items ++ flat_map (λ next. starts_of (walk_from (l.depth - 1) (g.O.Objects.objects l.state) next)) (take l.start-index l.start-items)
