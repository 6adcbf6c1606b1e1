-- The walk through the objects of a scene, from a frame or a world down (ANARI 1.0 Specification, World, Group, Instance, Surface). An
-- object is visited before what it names, and what it names in the order of its parameters and its elements.
use Rattle.std.specs.Prelude.{ℕ, zero, suc, ◌+◌, List, [], ◌∷◌, ◌++◌, codes, map}
use Rattle.std.specs.List.{filter_map, flat_map}
use Rattle.std.specs.Option.{option_and_then, option_map_or}
use Rattle.dev_types.specs.declared.data_types.DataType.TheVariants as ty
use Rattle.fx_math.specs.Ids.{no_id}
use Rattle.fx_math.specs.declared.transforms.Mat34.{Mat34}
use Rattle.kind_tables.specs.Rows.{identity, rows_of}
use Rattle.kind_tables.specs.SceneObjects.{SceneObject, SceneObjects, id_in, matrix_in, object_at, object_in, objects_in, value_at, value_named}
use Rattle.kind_tables.specs.declared.kinds.Kind.{Kind}
use Rattle.kind_tables.specs.declared.kinds.Kind.TheVariants.{Array, InstanceTransform}

-- where in the scene a visit stands: the instance place and the surface place, the instance's transform, and its id
pub record Spot : Type 0 where
  pub inst : ℕ
  pub surf : ℕ
  pub transform : Mat34
  pub instance_id : ℕ

-- an object on the walk: its handle, what it is, and where
pub record Visit : Type 0 where
  pub handle : ℕ
  pub object : SceneObject
  pub spot : Spot

-- where a walk begins: under no instance
abbrev pub at_origin : Spot
at_origin = record { inst = 0; surf = 0; transform = record { c = identity }; instance_id = no_id }

-- where element i of an array stands: surfaces are numbered in their array, and instances from 1 on
abbrev pub at_element : Kind → Spot → ℕ → Spot
at_element (Array ty.Surface) spot i = record spot { surf = i }
at_element (Array ty.Instance) spot i = record spot { inst = i + 1 }
at_element _ spot i = spot

-- where the parameters of an object stand: those of an instance under its transform
abbrev pub at_parameters_of : Kind → SceneObject → Spot → Spot
at_parameters_of InstanceTransform o spot =
    record spot { transform = matrix_in (value_at o (codes "transform")); instance_id = id_in (value_at o (codes "id")) }
at_parameters_of _ o spot = spot

-- the objects that an object's parameters name, in the order of its rows
abbrev pub named_parameters : SceneObject → List ℕ
named_parameters o = filter_map (λ row. option_and_then object_in (value_named row.0 o.committed)) (rows_of o.kind)

-- the objects that an object's elements name, each with its index
abbrev pub named_elements : SceneObject → List (ℕ × ℕ)
named_elements o = option_map_or objects_in o.block []

-- what an object names, each with the place where it stands
unfoldable pub below : Spot → SceneObject → List (Spot × ℕ)
below spot o =
    map (λ named. (at_element o.kind spot named.0, named.1)) (named_elements o) ++
    map (λ h. (at_parameters_of o.kind o spot, h)) (named_parameters o)

-- the visit of an object at a spot
abbrev pub visit : Spot × ℕ → SceneObject → Visit
visit start o = record { handle = start.1; object = o; spot = start.0 }

-- the walk from an object at a spot, at most `depth` objects deep; an object that is not there is passed over
unfoldable pub walk_from : ℕ → SceneObjects → Spot × ℕ → List Visit
walk_from zero objects start = []
walk_from (suc depth) objects start =
    option_map_or (λ o. visit start o ∷ flat_map (walk_from depth objects) (below start.0 o)) (object_at objects start.1) []

-- the walk from an object; no chain of names is longer than the ten ranks
unfoldable pub walk : SceneObjects → ℕ → List Visit
walk objects root = walk_from 10 objects (at_origin, root)

-- the handles of the visited objects
abbrev pub visited : List Visit → List ℕ
visited visits = map (λ v. v.handle) visits
