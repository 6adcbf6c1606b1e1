-- The parameters of each kind: the type of a parameter's values, whether a picture needs it, and the
-- value that stands where it was not set.
use Rattle.std.specs.Prelude.{ℕ, ℤ, pos, negsuc, true, false, List, [], ◌∷◌, ◌++◌, Option, Some, None, codes, map}
use Rattle.std.specs.Map.{lookup}
use Rattle.std.specs.Str.{bytes_eq}
use Rattle.dev_types.specs.ValueBytes.{type_of}
use Rattle.dev_types.specs.declared.data_types.DataType.{DataType}
use Rattle.dev_types.specs.declared.data_types.DataType.TheVariants as ty
use Rattle.dev_types.specs.declared.values.Value.{Value}
use Rattle.dev_types.specs.declared.values.Value.TheVariants.{Scalar, ScalarVec3, ScalarMat34}
use Rattle.kind_tables.specs.declared.kinds.Kind.{Kind}
use Rattle.kind_tables.specs.declared.kinds.Kind.TheVariants.{CameraOrthographic, CameraPerspective, FrameDefault, GeometrySphere, GeometryTriangle, GroupDefault, InstanceTransform, LightDirectional, LightPoint, MaterialMatte, RendererDefault, SurfaceDefault, WorldDefault, Array}
use Rattle.kind_tables.specs.declared.rows.Row.{Row}

-- a value that a picture needs
abbrev pub required_row : DataType → Row
required_row t = record { ty = t; elem = None; required = true; default = None }

-- a value that may be missing, with nothing in its place
abbrev pub optional_row : DataType → Row
optional_row t = record { ty = t; elem = None; required = false; default = None }

-- an array with elements of this type that may be missing
abbrev pub array_row : DataType → Row
array_row t = record { ty = ty.Array1D; elem = Some t; required = false; default = None }

-- an array with elements of this type that a picture needs
abbrev pub required_array_row : DataType → Row
required_array_row t = record { ty = ty.Array1D; elem = Some t; required = true; default = None }

-- a value in whose place this one stands where it was not set
abbrev pub default_row : Value → Row
default_row v = record { ty = type_of v; elem = None; required = false; default = Some v }

-- 1 and -1 in units of 1/65536
abbrev one : ℤ
one = pos 65536

abbrev minus_one : ℤ
minus_one = negsuc 65535

-- a scalar and a vector with a default
abbrev scalar_row : ℤ → Row
scalar_row z = default_row (Scalar z)

abbrev vector_row : ℤ → ℤ → ℤ → Row
vector_row x y z = default_row (ScalarVec3 (x ∷ y ∷ z ∷ []))

-- three unit columns and no translation
abbrev pub identity : List ℤ
identity = one ∷ pos 0 ∷ pos 0 ∷ pos 0 ∷ one ∷ pos 0 ∷ pos 0 ∷ pos 0 ∷ one ∷ pos 0 ∷ pos 0 ∷ pos 0 ∷ []

-- the parameters that every camera has
abbrev pub camera_rows : List (List ℕ × Row)
camera_rows =
    (codes "position", vector_row (pos 0) (pos 0) (pos 0)) ∷
    (codes "direction", vector_row (pos 0) (pos 0) minus_one) ∷
    (codes "up", vector_row (pos 0) one (pos 0)) ∷
    (codes "aspect", scalar_row one) ∷ []

-- the parameters of a kind in their order
abbrev pub rows_of : Kind → List (List ℕ × Row)
rows_of CameraOrthographic = camera_rows ++ (codes "height", scalar_row one) ∷ []
rows_of CameraPerspective = camera_rows ++ (codes "tanHalfFovy", scalar_row (pos 37837)) ∷ []
rows_of FrameDefault =
    (codes "world", required_row ty.World) ∷
    (codes "camera", required_row ty.Camera) ∷
    (codes "renderer", required_row ty.Renderer) ∷
    (codes "size", required_row ty.Uint32Vec2) ∷
    (codes "channel.color", optional_row ty.TypeName) ∷
    (codes "channel.primitiveId", optional_row ty.TypeName) ∷
    (codes "channel.objectId", optional_row ty.TypeName) ∷
    (codes "channel.instanceId", optional_row ty.TypeName) ∷ []
rows_of GeometrySphere =
    (codes "vertex.position", required_array_row ty.ScalarVec3) ∷
    (codes "vertex.radius", array_row ty.Scalar) ∷
    (codes "radius", scalar_row one) ∷ []
rows_of GeometryTriangle =
    (codes "vertex.position", required_array_row ty.ScalarVec3) ∷
    (codes "primitive.index", array_row ty.Uint32Vec3) ∷ []
rows_of GroupDefault =
    (codes "surface", array_row ty.Surface) ∷
    (codes "light", array_row ty.Light) ∷ []
rows_of InstanceTransform =
    (codes "group", required_row ty.Group) ∷
    (codes "transform", default_row (ScalarMat34 identity)) ∷
    (codes "id", optional_row ty.Uint32) ∷ []
rows_of LightDirectional =
    (codes "direction", vector_row (pos 0) (pos 0) minus_one) ∷
    (codes "color", vector_row one one one) ∷
    (codes "irradiance", scalar_row one) ∷ []
rows_of LightPoint =
    (codes "position", vector_row (pos 0) (pos 0) (pos 0)) ∷
    (codes "color", vector_row one one one) ∷
    (codes "intensity", scalar_row one) ∷ []
rows_of MaterialMatte =
    (codes "color", vector_row (pos 52429) (pos 52429) (pos 52429)) ∷
    (codes "opacity", scalar_row one) ∷ []
rows_of RendererDefault =
    (codes "background", vector_row (pos 0) (pos 0) (pos 0)) ∷
    (codes "ambientColor", vector_row one one one) ∷
    (codes "ambientRadiance", scalar_row one) ∷ []
rows_of SurfaceDefault =
    (codes "geometry", required_row ty.Geometry) ∷
    (codes "material", required_row ty.Material) ∷
    (codes "id", optional_row ty.Uint32) ∷ []
rows_of WorldDefault =
    (codes "surface", array_row ty.Surface) ∷
    (codes "light", array_row ty.Light) ∷
    (codes "instance", array_row ty.Instance) ∷ []
rows_of (Array _) = []

-- the row of a kind's parameter, if the kind has one of this name
abbrev pub row_of : Kind → List ℕ → Option Row
row_of kind name = lookup (bytes_eq name) (rows_of kind)

-- the names of a kind's parameters in their order
abbrev pub parameters_of : Kind → List (List ℕ)
parameters_of kind = map (λ (row : List ℕ × Row). row.0) (rows_of kind)
