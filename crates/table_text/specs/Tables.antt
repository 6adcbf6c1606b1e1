-- The tables of kinds and parameters as a text: a line for each kind, and below it one for each of its parameters.
use Rattle.std.specs.Prelude.{ℕ, ℤ, pos, List, [], ◌∷◌, ◌++◌, Bool, true, false, Option, Some, None, codes, map}
use Rattle.std.specs.Fmt.{signed_decimal}
use Rattle.std.specs.List.{flat_map}
use Rattle.std.specs.Option.{option_map_or}
use Rattle.dev_types.specs.DataTypes.{types_in_order}
use Rattle.dev_types.specs.Words.{name_of_type, word_of_type}
use Rattle.dev_types.specs.declared.data_types.DataType.{DataType}
use Rattle.dev_types.specs.declared.values.Value.{Value}
use Rattle.dev_types.specs.declared.values.Value.TheVariants.{Int32, Uint32, Uint32Vec2, Uint32Vec3, Uint64, Scalar, ScalarVec2, ScalarVec3, ScalarMat34, ScalarBox3, Ufixed8Vec4, Str, TypeName, Object}
use Rattle.kind_tables.specs.Kinds.{kind_of, kinds_of_type}
use Rattle.kind_tables.specs.Rows.{row_of, rows_of}
use Rattle.kind_tables.specs.declared.kinds.Kind.{Kind}
use Rattle.kind_tables.specs.declared.rows.Row.{Row}

-- the components of a value; a text, a type and an object have none
abbrev pub numbers_of : Value → List ℤ
numbers_of (Int32 z) = z ∷ []
numbers_of (Uint32 n) = pos n ∷ []
numbers_of (Uint32Vec2 ns) = map pos ns
numbers_of (Uint32Vec3 ns) = map pos ns
numbers_of (Uint64 n) = pos n ∷ []
numbers_of (Scalar z) = z ∷ []
numbers_of (ScalarVec2 zs) = zs
numbers_of (ScalarVec3 zs) = zs
numbers_of (ScalarMat34 zs) = zs
numbers_of (ScalarBox3 zs) = zs
numbers_of (Ufixed8Vec4 ns) = map pos ns
numbers_of (Str _) = []
numbers_of (TypeName _) = []
numbers_of (Object _ _) = []

-- numbers, each behind a space
abbrev pub spaced_numbers : List ℤ → List ℕ
spaced_numbers zs = flat_map (λ z. codes " " ++ signed_decimal z) zs

-- the type of a parameter's values, of arrays with that of their elements
abbrev pub type_text : DataType → Option DataType → List ℕ
type_text t None = name_of_type t
type_text t (Some elem) = name_of_type t ++ (codes "(" ++ (name_of_type elem ++ codes ")"))

-- whether a parameter has to be set, and else what stands where it is not
abbrev pub need_text : Bool → Option Value → List ℕ
need_text true _ = codes "required"
need_text false None = codes "optional"
need_text false (Some default) = codes "default" ++ spaced_numbers (numbers_of default)

-- the line of a parameter: its name, its type and its need
abbrev pub parameter_line : List ℕ × Row → List ℕ
parameter_line (name, row) =
    codes "  " ++ (name ++ (codes " " ++ (type_text row.ty row.elem ++ (codes " " ++ (need_text row.required row.default ++ codes "\n")))))

-- the line of a kind of this type, which is its word and its subtype, and the lines of its parameters in their order
abbrev pub kind_text : DataType → List ℕ × Kind → List ℕ
kind_text t (subtype, kind) = word_of_type t ++ (codes " " ++ (subtype ++ (codes "\n" ++ flat_map parameter_line (rows_of kind))))

-- the kinds of a type by rising text
abbrev pub type_kinds_text : DataType → List ℕ
type_kinds_text t = flat_map (kind_text t) (kinds_of_type t)

-- all kinds of all types, by rising text
unfoldable pub description : List ℕ
description = flat_map type_kinds_text types_in_order

-- the line of a parameter by its name, and the kind of a type by its subtype, where there is one
abbrev pub line_named : Kind → List ℕ → List ℕ
line_named kind name = option_map_or (λ row. parameter_line (name, row)) (row_of kind name) []

abbrev pub kind_named : DataType → List ℕ → List ℕ
kind_named t subtype = option_map_or (λ kind. kind_text t (subtype, kind)) (kind_of t subtype) []
