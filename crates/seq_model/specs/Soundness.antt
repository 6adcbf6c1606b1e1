-- What holds of the objects of every legal history: their values have the types of their parameters, and all that they name is there, as the
-- tables ask for it.
use Rattle.std.specs.Prelude.{◌≡◌, ℕ, ◌<◌, true, List, All, Option, Some, None, IsTrue}
use Rattle.std.specs.BTreeMap.{is_at}
use Rattle.std.specs.Map.{lookup}
use Rattle.std.specs.Option.{IsSomeAnd, MatchOption}
use Rattle.std.specs.Ordering.{nat_cmp}
use Rattle.dev_types.specs.DataTypes.{is_element_type}
use Rattle.dev_types.specs.ValueBytes.{type_of}
use Rattle.dev_types.specs.declared.data_types.DataType.{DataType}
use Rattle.dev_types.specs.declared.data_types.DataType.TheVariants as ty
use Rattle.dev_types.specs.declared.values.Value.{Value}
use Rattle.kind_tables.specs.Kinds.{type_of_kind}
use Rattle.kind_tables.specs.Ranks.{rank_of}
use Rattle.kind_tables.specs.Rows.{row_of}
use Rattle.kind_tables.specs.SceneObjects.{Block, object_in, objects_in}
use Rattle.kind_tables.specs.Typed.{Takes}
use Rattle.kind_tables.specs.declared.kinds.Kind.{Kind}
use Rattle.kind_tables.specs.declared.kinds.Kind.TheVariants.{Array}
use Rattle.seq_model.specs.Life.{has, names_of}
use Rattle.seq_model.specs.State.{ArrayState, Object, ParameterLoan, State, object_at}

-- the object h is there, and the parameter of this name takes it
abbrev pub NamesFitting : State → Kind → List ℕ → ℕ → Type 0
NamesFitting s kind name h = IsSomeAnd (object_at s h) (λ o. IsSomeAnd (row_of kind name) (λ row. Takes row o.kind))

-- a value has the type of its parameter, if there is one, and an object that it names fits there
pub record Fits (s : State) (kind : Kind) (name : List ℕ) (v : Value) : Type 0 where
  pub typed : MatchOption (row_of kind name) (Unit {0}) (λ row. type_of v ≡ row.ty)
  pub named : MatchOption (object_in v) (Unit {0}) (NamesFitting s kind name)

-- each value of a map of parameters fits
abbrev pub AllFit : State → Kind → List (List ℕ × Value) → Type 0
AllFit s kind values = All (λ entry. Fits s kind entry.0 entry.1) values

-- the array that is lent fits its parameter
abbrev pub LoanFits : Kind → ParameterLoan → Type 0
LoanFits kind loan =
    IsTrue (is_element_type loan.elem) × IsSomeAnd (row_of kind loan.name) (λ row. (row.ty ≡ ty.Array1D) × (row.elem ≡ Some loan.elem))

-- each object that the elements name is there, and has their type
abbrev pub ElementsFit : State → Block → Type 0
ElementsFit s b = All (λ named. IsSomeAnd (object_at s named.1) (λ o. type_of_kind o.kind ≡ b.elem)) (objects_in b)

-- an array has elements that arrays may have, and its kind says which; nothing else has elements
abbrev pub ArrayFits : State → Kind → Option ArrayState → Type 0
ArrayFits s kind None = (elem : DataType) → kind ≡ Array elem → ⊥
ArrayFits s kind (Some a) = (kind ≡ Array a.block.elem) × IsTrue (is_element_type a.block.elem) × ElementsFit s a.block

-- all of an object is so
pub record IsSound (s : State) (o : Object) : Type 0 where
  pub staged : AllFit s o.kind o.staged
  pub committed : AllFit s o.kind o.committed
  pub loans : All (LoanFits o.kind) o.parameter_loans
  pub array : ArrayFits s o.kind o.array

-- each object is sound
abbrev pub AllSound : State → Type 0
AllSound s = (h : ℕ) → MatchOption (object_at s h) (Unit {0}) (IsSound s)

-- what each of these objects names is among them, and stands lower
abbrev pub IsRanked : List (ℕ × Object) → Type 0
IsRanked objects =
    (h : ℕ) (o : Object) → lookup (is_at (nat_cmp h)) objects ≡ Some o → (k : ℕ) → has k (names_of o) ≡ true →
    IsSomeAnd (lookup (is_at (nat_cmp k)) objects) (λ p. rank_of p.kind < rank_of o.kind)
