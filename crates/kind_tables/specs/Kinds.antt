-- The kinds of objects: the type of each, and the subtypes of each type.
use Rattle.std.specs.Prelude.{ℕ, ◌==◌, Bool, List, [], ◌∷◌, Option, codes, map}
use Rattle.std.specs.Map.{lookup}
use Rattle.std.specs.Str.{bytes_eq}
use Rattle.dev_types.specs.DataTypes.{type_number}
use Rattle.dev_types.specs.declared.data_types.DataType.{DataType}
use Rattle.dev_types.specs.declared.data_types.DataType.TheVariants as ty
use Rattle.kind_tables.specs.declared.kinds.Kind.{Kind}
use Rattle.kind_tables.specs.declared.kinds.Kind.TheVariants.{CameraOrthographic, CameraPerspective, FrameDefault, GeometrySphere, GeometryTriangle, GroupDefault, InstanceTransform, LightDirectional, LightPoint, MaterialMatte, RendererDefault, SurfaceDefault, WorldDefault, Array}

-- the same data type
abbrev pub is_same_type : DataType → DataType → Bool
is_same_type t u = type_number t == type_number u

-- the type of the objects of a kind
abbrev pub type_of_kind : Kind → DataType
type_of_kind CameraOrthographic = ty.Camera
type_of_kind CameraPerspective = ty.Camera
type_of_kind FrameDefault = ty.Frame
type_of_kind GeometrySphere = ty.Geometry
type_of_kind GeometryTriangle = ty.Geometry
type_of_kind GroupDefault = ty.Group
type_of_kind InstanceTransform = ty.Instance
type_of_kind LightDirectional = ty.Light
type_of_kind LightPoint = ty.Light
type_of_kind MaterialMatte = ty.Material
type_of_kind RendererDefault = ty.Renderer
type_of_kind SurfaceDefault = ty.Surface
type_of_kind WorldDefault = ty.World
type_of_kind (Array _) = ty.Array1D

-- the subtypes of a type by rising text, each with its kind
abbrev pub kinds_of_type : DataType → List (List ℕ × Kind)
kinds_of_type ty.Camera = (codes "orthographic", CameraOrthographic) ∷ (codes "perspective", CameraPerspective) ∷ []
kinds_of_type ty.Frame = (codes "default", FrameDefault) ∷ []
kinds_of_type ty.Geometry = (codes "sphere", GeometrySphere) ∷ (codes "triangle", GeometryTriangle) ∷ []
kinds_of_type ty.Group = (codes "default", GroupDefault) ∷ []
kinds_of_type ty.Instance = (codes "transform", InstanceTransform) ∷ []
kinds_of_type ty.Light = (codes "directional", LightDirectional) ∷ (codes "point", LightPoint) ∷ []
kinds_of_type ty.Material = (codes "matte", MaterialMatte) ∷ []
kinds_of_type ty.Renderer = (codes "default", RendererDefault) ∷ []
kinds_of_type ty.Surface = (codes "default", SurfaceDefault) ∷ []
kinds_of_type ty.World = (codes "default", WorldDefault) ∷ []
kinds_of_type _ = []

-- the kind of a type that has this subtype, if there is one
abbrev pub kind_of : DataType → List ℕ → Option Kind
kind_of t subtype = lookup (bytes_eq subtype) (kinds_of_type t)

-- the subtypes of a type by rising text
abbrev pub subtypes_of : DataType → List (List ℕ)
subtypes_of t = map (λ (row : List ℕ × Kind). row.0) (kinds_of_type t)
