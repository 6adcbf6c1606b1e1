-- Small scenes, object by object, whose walks and rows are computed.
use Rattle.std.specs.Prelude.{ℕ, ℤ, pos, negsuc, false, List, [], ◌∷◌, Some, None, codes}
use Rattle.std.specs.List.{flat_map}
use Rattle.dev_types.specs.ValueBytes.{bytes_of}
use Rattle.dev_types.specs.declared.data_types.DataType.{DataType}
use Rattle.dev_types.specs.declared.data_types.DataType.TheVariants as ty
use Rattle.dev_types.specs.declared.values.Value.{Value}
use Rattle.dev_types.specs.declared.values.Value.TheVariants.{Scalar, ScalarVec3, ScalarMat34, Object, TypeName, Uint32, Uint32Vec2}
use Rattle.kind_tables.specs.SceneObjects.{SceneObject, SceneObjects}
use Rattle.kind_tables.specs.declared.kinds.Kind.{Kind}
use Rattle.kind_tables.specs.declared.kinds.Kind.TheVariants.{Array, CameraOrthographic, FrameDefault, GeometrySphere, GeometryTriangle, GroupDefault, InstanceTransform, MaterialMatte, RendererDefault, SurfaceDefault, WorldDefault}

-- an object with parameters, in the order of their names
abbrev with_parameters : Kind → List (List ℕ × Value) → SceneObject
with_parameters kind values = record { kind = kind; committed = values; block = None; mapped = false }

-- a dense array of these values
abbrev dense : DataType → ℕ → ℕ → List Value → SceneObject
dense elem stride count values = record {
  kind = Array elem;
  committed = [];
  block = Some (record { elem = elem; count = count; stride = stride; bytes = flat_map bytes_of values });
  mapped = false;
}

abbrev xyz : ℤ → ℤ → ℤ → Value
xyz x y z = ScalarVec3 (x ∷ y ∷ z ∷ [])

-- a frame of 4 by 4 with one red triangle: the positions, the geometry, the material, the surface, its array, the world, the camera, the
-- renderer, the frame
unfoldable pub triangle_objects : SceneObjects
triangle_objects =
    (1, dense ty.ScalarVec3 12 3 (xyz (negsuc 131071) (negsuc 131071) (pos 0) ∷ xyz (pos 131072) (negsuc 131071) (pos 0) ∷ xyz (negsuc 131071) (pos 131072) (pos 0) ∷ [])) ∷
    (2, with_parameters GeometryTriangle ((codes "vertex.position", Object ty.Array1D 1) ∷ [])) ∷
    (3, with_parameters MaterialMatte ((codes "color", xyz (pos 65536) (pos 0) (pos 0)) ∷ [])) ∷
    (4, with_parameters SurfaceDefault ((codes "geometry", Object ty.Geometry 2) ∷ (codes "material", Object ty.Material 3) ∷ [])) ∷
    (5, dense ty.Surface 8 1 (Object ty.Surface 4 ∷ [])) ∷
    (6, with_parameters WorldDefault ((codes "surface", Object ty.Array1D 5) ∷ [])) ∷
    (7, with_parameters CameraOrthographic ((codes "height", Scalar (pos 262144)) ∷ (codes "position", xyz (pos 0) (pos 0) (pos 65536)) ∷ [])) ∷
    (8, with_parameters RendererDefault []) ∷ (
      9,
      with_parameters FrameDefault (
          (codes "camera", Object ty.Camera 7) ∷ (codes "channel.color", TypeName ty.Ufixed8Vec4) ∷ (codes "renderer", Object ty.Renderer 8) ∷
          (codes "size", Uint32Vec2 (4 ∷ 4 ∷ [])) ∷ (codes "world", Object ty.World 6) ∷ []),
    ) ∷ []

-- a world with one sphere in a group under the second of two instances, the first of which is empty: the centre, the geometry, the
-- material, the surface, its array, the group, the instance, the array of instances, the world
unfoldable pub sphere_objects : SceneObjects
sphere_objects =
    (1, dense ty.ScalarVec3 12 1 (xyz (pos 10) (pos 20) (pos 30) ∷ [])) ∷
    (2, with_parameters GeometrySphere ((codes "radius", Scalar (pos 100)) ∷ (codes "vertex.position", Object ty.Array1D 1) ∷ [])) ∷
    (3, with_parameters MaterialMatte ((codes "opacity", Scalar (pos 32768)) ∷ [])) ∷
    (4, with_parameters SurfaceDefault ((codes "geometry", Object ty.Geometry 2) ∷ (codes "id", Uint32 11) ∷ (codes "material", Object ty.Material 3) ∷ [])) ∷
    (5, dense ty.Surface 8 1 (Object ty.Surface 4 ∷ [])) ∷
    (6, with_parameters GroupDefault ((codes "surface", Object ty.Array1D 5) ∷ [])) ∷ (
      7,
      with_parameters InstanceTransform (
          (codes "group", Object ty.Group 6) ∷ (codes "id", Uint32 22) ∷ (
            codes "transform",
            ScalarMat34 (
                pos 131072 ∷ pos 0 ∷ pos 0 ∷ pos 0 ∷ pos 131072 ∷ pos 0 ∷ pos 0 ∷ pos 0 ∷ pos 131072 ∷ pos 1 ∷ pos 2 ∷ pos 3 ∷ []),
          ) ∷ []),
    ) ∷
    (8, dense ty.Instance 8 2 (Object ty.Instance 0 ∷ Object ty.Instance 7 ∷ [])) ∷
    (9, with_parameters WorldDefault ((codes "instance", Object ty.Array1D 8) ∷ [])) ∷ []
