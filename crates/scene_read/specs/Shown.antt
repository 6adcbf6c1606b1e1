-- What surfaces show, from what is read of them.
use Rattle.std.specs.Prelude.{ℕ, List, Option, codes}
use Rattle.std.specs.Option.{option_and_then, option_map, unwrap_or}
use Rattle.fx_math.specs.declared.scene.LightRow.{LightRow}
use Rattle.fx_math.specs.declared.scene.Lighting.{Lighting}
use Rattle.fx_math.specs.declared.scene.Primitive.{Primitive}
use Rattle.fx_math.specs.declared.scene.Shape.{Shape}
use Rattle.kind_tables.specs.SceneObjects.{SceneObjects, id_in, object_at, object_named, scalar_of, scalars_of, value_at}
use Rattle.kind_tables.specs.Scenes.{lighting_by, nothing_of}
use Rattle.kind_tables.specs.Walks.{Spot}
use Rattle.kind_tables.specs.declared.kinds.Kind.TheVariants.{RendererDefault}
use Rattle.scene_read.specs.Reading.{named_in}
use Rattle.scene_read.specs.Starts.{visited_object}
use Rattle.scene_read.specs.declared.scenes.Finish.{Finish}

-- the handle that was committed under a name, if there is such an object
abbrev pub live_in : SceneObjects → ℕ → List ℕ → Option ℕ
live_in objects h name = option_and_then (λ g. option_map (λ o. g) (object_at objects g)) (named_in objects h name)

-- what the shapes of a surface with a material have in common
abbrev pub finish_of : SceneObjects → ℕ → ℕ → Finish
finish_of objects surface material = record {
  color = scalars_of (visited_object objects material) (codes "color");
  opacity = scalar_of (visited_object objects material) (codes "opacity");
  object_id = id_in (value_at (visited_object objects surface) (codes "id"));
}

-- shape number k of a surface at a spot
abbrev pub finished : Spot → Finish → ℕ × Shape → Primitive
finished spot finish shape = record {
  place = record { inst = spot.inst; surf = spot.surf; prim = shape.0 };
  shape = shape.1;
  color = finish.color;
  opacity = finish.opacity;
  object_id = finish.object_id;
  instance_id = spot.instance_id;
}

-- these lights under the renderer of a frame
abbrev pub lit : SceneObjects → ℕ → List LightRow → Lighting
lit objects f lights = lighting_by lights (unwrap_or (object_named objects (visited_object objects f) (codes "renderer")) (nothing_of RendererDefault))
