use Rattle.std.proofs.Common.{◌≡◌, take}
use Rattle.std.specs.List.{flat_map}
use Rattle.kind_tables.specs.Scenes.{primitives_at}
use Rattle.scene_read.specs.Starts.{all_seen}
use Rattle.world_snapshot.proofs.rows.Rows.of.Given as goal

abbrev pub invariant-loop-visit : goal.invariant-loop-visit
invariant-loop-visit g l =
    l.rows.items ≡ flat_map (primitives_at (g.O.Objects.objects l.state)) (all_seen (g.O.Objects.objects l.state) (take l.visit-index l.visits))
