-- The scene of a frame: what its picture is made from, read from committed parameters and contents (ANARI 1.0 Specification, World,
-- Surface, Light, Camera, Renderer).
use Rattle.std.specs.Prelude.{ℕ, false, List, [], Option, Some, None, codes, map, slice_index_or}
use Rattle.std.specs.List.{enumerate_from, filter_map, flat_map}
use Rattle.std.specs.Option.{option_map_or, unwrap_or}
use Rattle.fx_math.specs.Mat34.{linear, placed}
use Rattle.fx_math.specs.declared.scene.CameraRow.{CameraRow}
use Rattle.fx_math.specs.declared.scene.CameraRow.TheVariants.{Orthographic, Perspective}
use Rattle.fx_math.specs.declared.scene.Lighting.{Lighting}
use Rattle.fx_math.specs.declared.scene.LightRow.{LightRow}
use Rattle.fx_math.specs.declared.scene.LightRow.TheVariants.{Directional, Point}
use Rattle.fx_math.specs.declared.scene.Primitive.{Primitive}
use Rattle.fx_math.specs.declared.scene.Scene.{Scene}
use Rattle.fx_math.specs.declared.scene.Shape.{Shape}
use Rattle.kind_tables.specs.SceneObjects.{SceneObject, SceneObjects, id_in, object_at, object_named, scalar_of, scalars_of, sizes_in, value_at, vector_of}
use Rattle.kind_tables.specs.Shapes.{shapes_of}
use Rattle.kind_tables.specs.Walks.{Spot, Visit, walk}
use Rattle.kind_tables.specs.declared.kinds.Kind.{Kind}
use Rattle.kind_tables.specs.declared.kinds.Kind.TheVariants.{CameraOrthographic, CameraPerspective, FrameDefault, LightDirectional, LightPoint, RendererDefault, SurfaceDefault}

-- shape number i of a surface at a spot, with its material
abbrev pub primitive : Spot → SceneObject → SceneObject → ℕ × Shape → Primitive
primitive spot surface material shape = record {
  place = record { inst = spot.inst; surf = spot.surf; prim = shape.0 };
  shape = shape.1;
  color = scalars_of material (codes "color");
  opacity = scalar_of material (codes "opacity");
  object_id = id_in (value_at surface (codes "id"));
  instance_id = spot.instance_id;
}

-- the shapes of a surface's geometry at a spot, numbered from 0
abbrev pub surface_shapes : SceneObjects → Spot → SceneObject → List (ℕ × Shape)
surface_shapes objects spot surface =
    enumerate_from 0 (option_map_or (λ geometry. shapes_of objects geometry spot.transform) (object_named objects surface (codes "geometry")) [])

-- what a surface shows; without a material it shows nothing
abbrev pub surface_primitives : SceneObjects → Spot → SceneObject → List Primitive
surface_primitives objects spot surface =
    option_map_or (λ material. map (primitive spot surface material) (surface_shapes objects spot surface)) (object_named objects surface (codes "material")) []

-- the primitives of a visit of an object of a kind: only surfaces have any
abbrev pub primitives_by : Kind → SceneObjects → Visit → List Primitive
primitives_by SurfaceDefault objects v = surface_primitives objects v.spot v.object
primitives_by _ objects v = []

abbrev pub primitives_at : SceneObjects → Visit → List Primitive
primitives_at objects v = primitives_by v.object.kind objects v

-- all primitives of a walk
unfoldable pub primitives_of : SceneObjects → List Visit → List Primitive
primitives_of objects visits = flat_map (primitives_at objects) visits

-- the light of a visit of an object of a kind, in world space
abbrev pub light_by : Kind → Spot → SceneObject → Option LightRow
light_by LightDirectional spot o =
    Some (Directional (linear spot.transform (vector_of o (codes "direction")))
    (scalars_of o (codes "color")) (scalar_of o (codes "irradiance")))
light_by LightPoint spot o =
    Some (Point (placed spot.transform (vector_of o (codes "position")))
    (scalars_of o (codes "color")) (scalar_of o (codes "intensity")))
light_by _ spot o = None

abbrev pub light_at : Visit → Option LightRow
light_at v = light_by v.object.kind v.spot v.object

-- all lights of a walk, in its order
unfoldable pub lights_of : List Visit → List LightRow
lights_of visits = filter_map light_at visits

-- the camera of a kind
abbrev pub camera_by : Kind → SceneObject → CameraRow
camera_by CameraPerspective o =
    Perspective (vector_of o (codes "position")) (vector_of o (codes "direction")) (vector_of o (codes "up"))
    (scalar_of o (codes "aspect")) (scalar_of o (codes "tanHalfFovy"))
camera_by _ o =
    Orthographic (vector_of o (codes "position")) (vector_of o (codes "direction")) (vector_of o (codes "up"))
    (scalar_of o (codes "aspect")) (scalar_of o (codes "height"))

-- an object that names nothing and has no values, which stands where none is; the scene of a complete frame has none of it
abbrev pub nothing_of : Kind → SceneObject
nothing_of kind = record { kind = kind; committed = []; block = None; mapped = false }

-- the lights of a walk under a renderer
abbrev pub lighting_by : List LightRow → SceneObject → Lighting
lighting_by lights renderer = record {
  lights = lights;
  background = scalars_of renderer (codes "background");
  ambient_color = scalars_of renderer (codes "ambientColor");
  ambient_radiance = scalar_of renderer (codes "ambientRadiance");
}

-- the camera and the renderer of a frame
abbrev pub camera_of : SceneObjects → SceneObject → CameraRow
camera_of objects frame =
    let camera = unwrap_or (object_named objects frame (codes "camera")) (nothing_of CameraOrthographic) in
    camera_by camera.kind camera

abbrev pub lighting_of : SceneObjects → SceneObject → List Visit → Lighting
lighting_of objects frame visits =
    lighting_by (lights_of visits) (unwrap_or (object_named objects frame (codes "renderer")) (nothing_of RendererDefault))

-- side i of a frame: its width and its height
abbrev pub side_of : SceneObject → ℕ → ℕ
side_of frame i = slice_index_or (sizes_in (value_at frame (codes "size"))) i 0

-- the scene of a frame, by what its walk visits
unfoldable pub scene_by : SceneObjects → SceneObject → List Visit → Scene
scene_by objects frame visits = record {
  primitives = primitives_of objects visits;
  camera = camera_of objects frame;
  lighting = lighting_of objects frame visits;
  width = side_of frame 0;
  height = side_of frame 1;
}

-- the scene of the frame with this handle
unfoldable pub scene : SceneObjects → ℕ → Scene
scene objects f = scene_by objects (unwrap_or (object_at objects f) (nothing_of FrameDefault)) (walk objects f)
