use Rattle.std.proofs.Common.{◌≡◌, Some, drop, map, take}
use Rattle.std.specs.List.{list_all}
use Rattle.kind_tables.specs.Ranges.{is_radius}
use Rattle.kind_tables.specs.SceneObjects.{scalar_in}
use Rattle.scene_read.specs.Reading.{all_elements}
use Rattle.scene_read.proofs.geometry_ranges.are_radii.Given as goal

-- all are in range exactly where those that are left are
abbrev pub invariant-loop-k : goal.invariant-loop-k
invariant-loop-k l =
    list_all (is_radius l.m) (drop l.k (take l.count (map (λ v. scalar_in (Some v)) (all_elements l.radii))))
    ≡ list_all (is_radius l.m) (take l.count (map (λ v. scalar_in (Some v)) (all_elements l.radii)))
