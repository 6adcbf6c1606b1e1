-- What holds of every entry of the table.
use Rattle.std.proofs.Common.{ℕ, List, ◌≡◌, ◌∷◌, [], true, refl}
use Rattle.std.specs.Prelude.{IfSome, All}
use Rattle.std.specs.List.{list_all}
use Rattle.std.specs.Str.{bytes_eq}
use Rattle.std.proofs.lemmas.Map.Entries.{All-lookup}
use Rattle.std.proofs.lemmas.List.Elements.{All-nil, All-cons}
use Rattle.dev_types.specs.Bounded.{is_name}
use Rattle.dev_types.specs.declared.data_types.DataType.{DataType}
use Rattle.dev_types.specs.declared.data_types.DataType.TheVariants as ty
use Rattle.kind_tables.specs.Kinds.{type_of_kind, kinds_of_type, kind_of, subtypes_of}
use Rattle.kind_tables.specs.Ranks.{names_lower}
use Rattle.kind_tables.specs.Rows.{parameters_of}
use Rattle.kind_tables.specs.declared.kinds.Kind.{Kind}
use Rattle.kind_tables.specs.declared.kinds.Kind.TheVariants.{CameraOrthographic, Array}

-- no object reaches itself
pub ranks_fall : (kind : Kind) → names_lower kind ≡ true
ranks_fall (Array ty.Int32) = refl
ranks_fall _ = refl

-- subtypes are names
pub subtypes_are_names : (t : DataType) → list_all is_name (subtypes_of t) ≡ true
subtypes_are_names ty.Int32 = refl
subtypes_are_names _ = refl

-- parameters have names
pub parameters_are_names : (kind : Kind) → list_all is_name (parameters_of kind) ≡ true
parameters_are_names CameraOrthographic = refl
parameters_are_names _ = refl

-- the kind of an entry has this type
abbrev HasType : DataType → List ℕ × Kind → Type 0
HasType t row = type_of_kind row.1 ≡ t

-- one entry, and two
one_has : (t : DataType) (row : List ℕ × Kind) → HasType t row → All (HasType t) (row ∷ [])
one_has t row first = All-cons (HasType t) row [] first (All-nil (HasType t))

two_have : (t : DataType) (row next : List ℕ × Kind) → HasType t row → HasType t next → All (HasType t) (row ∷ next ∷ [])
two_have t row next first second = All-cons (HasType t) row (next ∷ []) first (one_has t next second)

-- the kinds of a type have that type
kinds_have_type : (t : DataType) → All (HasType t) (kinds_of_type t)
kinds_have_type ty.Camera = two_have ty.Camera _ _ refl refl
kinds_have_type ty.Frame = one_has ty.Frame _ refl
kinds_have_type ty.Geometry = two_have ty.Geometry _ _ refl refl
kinds_have_type ty.Group = one_has ty.Group _ refl
kinds_have_type ty.Instance = one_has ty.Instance _ refl
kinds_have_type ty.Light = two_have ty.Light _ _ refl refl
kinds_have_type ty.Material = one_has ty.Material _ refl
kinds_have_type ty.Renderer = one_has ty.Renderer _ refl
kinds_have_type ty.Surface = one_has ty.Surface _ refl
kinds_have_type ty.World = one_has ty.World _ refl
kinds_have_type t = All-nil (HasType t)

-- the kind that is found has the type that was asked for
pub kind_has_type : (t : DataType) (subtype : List ℕ) → IfSome (kind_of t subtype) (λ (kind : Kind). type_of_kind kind ≡ t)
kind_has_type t subtype = All-lookup (λ (kind : Kind). type_of_kind kind ≡ t) (bytes_eq subtype) (kinds_of_type t) (kinds_have_type t)
