use Rattle.std.proofs.Common.{◌≡◌, take}
use Rattle.std.specs.Prelude.{fold}
use Rattle.std.specs.List.{flat_map}
use Rattle.kind_tables.specs.Scenes.{primitives_at}
use Rattle.scene_read.specs.Starts.{all_seen}
use Rattle.device_queries.specs.Extents.{nothing, with_primitive}
use Rattle.device_queries.proofs.bounds.extent_of.Given as goal

abbrev pub invariant-loop-visit : goal.invariant-loop-visit
invariant-loop-visit g l = l.extent ≡ fold with_primitive nothing
    (flat_map (primitives_at (g.O.Objects.objects l.state)) (all_seen (g.O.Objects.objects l.state) (take l.visit-index l.visits)))
