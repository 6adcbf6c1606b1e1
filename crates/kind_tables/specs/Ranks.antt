-- How high each kind stands: what an object may name stands lower, so that no object reaches itself.
use Rattle.std.specs.Prelude.{ℕ, Bool, true, not, ◌&&◌, ◌||◌, nat_lt, List, Option, Some, None}
use Rattle.std.specs.List.{list_all}
use Rattle.dev_types.specs.DataTypes.{is_element_type}
use Rattle.dev_types.specs.declared.data_types.DataType.{DataType}
use Rattle.dev_types.specs.declared.data_types.DataType.TheVariants as ty
use Rattle.kind_tables.specs.Kinds.{kinds_of_type}
use Rattle.kind_tables.specs.Rows.{rows_of}
use Rattle.kind_tables.specs.declared.kinds.Kind.{Kind}
use Rattle.kind_tables.specs.declared.kinds.Kind.TheVariants.{CameraOrthographic, CameraPerspective, FrameDefault, GeometrySphere, GeometryTriangle, GroupDefault, InstanceTransform, LightDirectional, LightPoint, MaterialMatte, RendererDefault, SurfaceDefault, WorldDefault, Array}
use Rattle.kind_tables.specs.declared.rows.Row.{Row}

-- how high a kind stands: above all that its objects may name
abbrev pub rank_of : Kind → ℕ
rank_of CameraOrthographic = 2
rank_of CameraPerspective = 2
rank_of FrameDefault = 9
rank_of GeometrySphere = 2
rank_of GeometryTriangle = 2
rank_of GroupDefault = 5
rank_of InstanceTransform = 6
rank_of LightDirectional = 2
rank_of LightPoint = 2
rank_of MaterialMatte = 2
rank_of RendererDefault = 2
rank_of SurfaceDefault = 3
rank_of WorldDefault = 8
rank_of (Array ty.Light) = 3
rank_of (Array ty.Surface) = 4
rank_of (Array ty.Instance) = 7
rank_of (Array _) = 0

-- every kind of a type stands lower than n
abbrev pub type_is_below : ℕ → DataType → Bool
type_is_below n t = list_all (λ (row : List ℕ × Kind). nat_lt (rank_of row.1) n) (kinds_of_type t)

-- arrays with these elements stand lower than n, where a row asks for arrays
abbrev pub arrays_are_below : ℕ → Option DataType → Bool
arrays_are_below n None = true
arrays_are_below n (Some elem) = nat_lt (rank_of (Array elem)) n

-- what a parameter may name stands lower than n
abbrev pub row_is_below : ℕ → List ℕ × Row → Bool
row_is_below n row = type_is_below n row.1.ty && arrays_are_below n row.1.elem

-- all that an object of the kind may name, in its elements or in its parameters, stands lower than it
abbrev pub names_lower : Kind → Bool
names_lower (Array elem) = not (is_element_type elem) || type_is_below (rank_of (Array elem)) elem
names_lower kind = list_all (row_is_below (rank_of kind)) (rows_of kind)
