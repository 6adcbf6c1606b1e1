-- Which values of which parameters are in range, and in which order they are asked within one visit (ANARI 1.0 Specification, the tables
-- of parameters). A value is the committed one, or the default.
use Rattle.std.specs.Prelude.{ℕ, ℤ, pos, Bool, true, not, ◌&&◌, ◌==◌, ◌^◌, ◌++◌, nat_le, nat_lt, int_le, List, [], ◌∷◌, Option, Some, None, codes, length, take}
use Rattle.std.specs.Int.{is_in_range}
use Rattle.std.specs.List.{find, flat_map, list_all}
use Rattle.std.specs.Option.{option_map}
use Rattle.dev_types.specs.Words.{name_of_channel}
use Rattle.dev_types.specs.declared.data_types.DataType.{DataType}
use Rattle.dev_types.specs.declared.data_types.DataType.TheVariants as ty
use Rattle.dev_types.specs.declared.handles.Channel.{Channel}
use Rattle.dev_types.specs.declared.handles.Channel.TheVariants.{Color, PrimitiveId, ObjectId, InstanceId}
use Rattle.dev_types.specs.declared.values.Value.{Value}
use Rattle.dev_types.specs.declared.values.Value.TheVariants.{TypeName}
use Rattle.fx_math.specs.Mat34.{placed, scaled_radius}
use Rattle.fx_math.specs.UnitVector.{unit}
use Rattle.fx_math.specs.Vec3.{cross, reach}
use Rattle.fx_math.specs.declared.transforms.Mat34.{Mat34}
use Rattle.fx_math.specs.declared.vectors.Vec3.{Vec3}
use Rattle.kind_tables.specs.Kinds.{is_same_type}
use Rattle.kind_tables.specs.SceneObjects.{SceneObject, SceneObjects, scalar_of, scalars_of, sizes_in, value_at, vector_of}
use Rattle.kind_tables.specs.Shapes.{common_radius, corners_of, own_radii, positions_of, vertex}
use Rattle.kind_tables.specs.Walks.{Visit}
use Rattle.kind_tables.specs.declared.kinds.Kind.{Kind}
use Rattle.kind_tables.specs.declared.kinds.Kind.TheVariants.{CameraOrthographic, CameraPerspective, FrameDefault, GeometrySphere, GeometryTriangle, LightDirectional, LightPoint, MaterialMatte, RendererDefault}

-- low ≤ z ≤ high
abbrev pub is_between : ℤ → ℤ → ℤ → Bool
is_between low high z = int_le low z && int_le z high

-- 0 or more
abbrev pub is_amount : ℤ → Bool
is_amount z = int_le (pos 0) z

-- each component 0 or more
abbrev pub is_color : List ℤ → Bool
is_color color = list_all is_amount color

-- each component from -2^28 to 2^28
abbrev pub is_point : Vec3 → Bool
is_point p = nat_le (reach p) (2 ^ 28)

-- not the zero vector
abbrev pub is_direction : Vec3 → Bool
is_direction v = not (reach v == 0)

-- a radius that is 0 or more, and at most 2^28 under the transform
abbrev pub is_radius : Mat34 → ℤ → Bool
is_radius m r = is_amount r && int_le (scaled_radius m r) (pos (2 ^ 28))

-- a side of a frame
abbrev pub is_side : ℕ → Bool
is_side n = is_in_range 1 4096 n

-- the type of a channel's pixels
abbrev pub type_of_channel : Channel → DataType
type_of_channel Color = ty.Ufixed8Vec4
type_of_channel _ = ty.Uint32

-- a channel that is not asked for, or with this type
abbrev pub is_asked_as : DataType → Option Value → Bool
is_asked_as t (Some (TypeName asked)) = is_same_type asked t
is_asked_as t _ = true

-- a parameter's name, and whether its value is in range
abbrev Test : Type 0
Test = List ℕ × Bool

-- the first name whose value is out of range
abbrev pub first_broken : List Test → Option (List ℕ)
first_broken tests = option_map (λ test. test.0) (find (λ test. not test.1) tests)

-- a scalar within two ends, one that is 0 or more, and a colour
abbrev between : ℤ → ℤ → SceneObject → List ℕ → Test
between low high o name = (name, is_between low high (scalar_of o name))

abbrev amount : SceneObject → List ℕ → Test
amount o name = (name, is_amount (scalar_of o name))

abbrev color : SceneObject → List ℕ → Test
color o name = (name, is_color (scalars_of o name))

-- the parameters that every camera has: what it looks along is not zero, and `up` does not lie on the same line
abbrev camera_tests : SceneObject → List Test
camera_tests o =
    (codes "position", is_point (vector_of o (codes "position"))) ∷
    (codes "direction", is_direction (vector_of o (codes "direction"))) ∷
    (codes "up", is_direction (cross (unit (vector_of o (codes "direction"))) (vector_of o (codes "up")))) ∷
    between (pos 1) (pos (2 ^ 20)) o (codes "aspect") ∷ []

-- a channel of a frame
abbrev channel : SceneObject → Channel → Test
channel o c = (name_of_channel c, is_asked_as (type_of_channel c) (value_at o (name_of_channel c)))

-- the ranges of a kind's parameters in the order of its rows, but for geometries; a light's position is asked where it stands in the world
abbrev pub tests_of : Kind → Mat34 → SceneObject → List Test
tests_of CameraOrthographic m o = camera_tests o ++ between (pos 1) (pos (2 ^ 26)) o (codes "height") ∷ []
tests_of CameraPerspective m o = camera_tests o ++ between (pos 1) (pos (2 ^ 20)) o (codes "tanHalfFovy") ∷ []
tests_of FrameDefault m o =
    (codes "size", list_all is_side (sizes_in (value_at o (codes "size")))) ∷
    channel o Color ∷ channel o PrimitiveId ∷ channel o ObjectId ∷ channel o InstanceId ∷ []
tests_of LightDirectional m o = color o (codes "color") ∷ amount o (codes "irradiance") ∷ []
tests_of LightPoint m o =
    (codes "position", is_point (placed m (vector_of o (codes "position")))) ∷
    color o (codes "color") ∷ amount o (codes "intensity") ∷ []
tests_of MaterialMatte m o = color o (codes "color") ∷ between (pos 0) (pos 65536) o (codes "opacity") ∷ []
tests_of RendererDefault m o = color o (codes "background") ∷ color o (codes "ambientColor") ∷ amount o (codes "ambientRadiance") ∷ []
tests_of _ m o = []

-- of one triangle: each vertex number is below their count, and each of its vertices is a point of the world
abbrev pub triangle_tests : Mat34 → List Vec3 → List ℕ → List Test
triangle_tests m positions corners =
    (codes "primitive.index", list_all (λ i. nat_lt i (length positions)) corners) ∷
    (codes "vertex.position", list_all (λ i. is_point (placed m (vertex positions i))) corners) ∷ []

-- of the radii: where each sphere has its own there are enough of them and each in use is a radius, else the one of all is
abbrev pub radius_tests : Mat34 → Option (List ℤ) → ℤ → ℕ → List Test
radius_tests m (Some radii) common count =
    (codes "vertex.radius", nat_le count (length radii)) ∷ (codes "vertex.radius", list_all (is_radius m) (take count radii)) ∷ []
radius_tests m None common count = (codes "radius", is_radius m common) ∷ []

-- the ranges of a geometry under a transform: triangle by triangle; of spheres first all centres, then the radii
abbrev pub geometry_tests : Kind → SceneObjects → SceneObject → Mat34 → List Test
geometry_tests GeometryTriangle objects o m = flat_map (triangle_tests m (positions_of objects o)) (corners_of objects o)
geometry_tests GeometrySphere objects o m =
    (codes "vertex.position", list_all (λ p. is_point (placed m p)) (positions_of objects o)) ∷
    radius_tests m (own_radii objects o) (common_radius o) (length (positions_of objects o))
geometry_tests _ objects o m = []

-- the first parameter of a visited object that is out of range
unfoldable pub broken_parameter : SceneObjects → Visit → Option (List ℕ)
broken_parameter objects v =
    first_broken (tests_of v.object.kind v.spot.transform v.object ++ geometry_tests v.object.kind objects v.object v.spot.transform)
