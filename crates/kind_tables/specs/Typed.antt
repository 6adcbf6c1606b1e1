-- What holds of the objects of a device that set and committed their parameters as the table asks.
use Rattle.std.specs.Prelude.{◌≡◌, ℕ, List, Option, Some, IsTrue, true}
use Rattle.std.specs.Option.{IsSomeAnd, MatchOption}
use Rattle.dev_types.specs.ValueBytes.{is_well_typed, type_of}
use Rattle.dev_types.specs.declared.values.Value.{Value}
use Rattle.kind_tables.specs.Kinds.{type_of_kind}
use Rattle.kind_tables.specs.Rows.{row_of}
use Rattle.kind_tables.specs.SceneObjects.{Block, SceneObject, SceneObjects, object_at, object_named, value_named}
use Rattle.kind_tables.specs.WalkRanks.{AreRanked}
use Rattle.kind_tables.specs.declared.kinds.Kind.{Kind}
use Rattle.kind_tables.specs.declared.kinds.Kind.TheVariants.{Array}
use Rattle.kind_tables.specs.declared.rows.Row.{Row}

-- a row takes an object of this kind
abbrev pub Takes : Row → Kind → Type 0
Takes row kind = (type_of_kind kind ≡ row.ty) × MatchOption row.elem (Unit {0}) (λ elem. kind ≡ Array elem)

-- a value has this row's type
abbrev pub HasTypeOf : Row → Value → Type 0
HasTypeOf row v = (type_of v ≡ row.ty) × (is_well_typed v ≡ true)

-- a parameter names an object that it takes, and an array has the elements that its kind tells
pub record IsTyped (objects : SceneObjects) : Type 0 where
  pub named : (h : ℕ) (o : SceneObject) (name : List ℕ) (p : SceneObject) → object_at objects h ≡ Some o → object_named objects o name ≡ Some p →
      IsSomeAnd (row_of o.kind name) (λ row. Takes row p.kind)
  pub array : (h : ℕ) (o : SceneObject) (b : Block) → object_at objects h ≡ Some o → o.block ≡ Some b → o.kind ≡ Array b.elem

-- the objects of a device as they always are: what is named is of its type, values have the types of their parameters, and each object stands
-- higher than what it names
pub record AreFit (objects : SceneObjects) : Type 0 where
  pub typed : IsTyped objects
  pub valued : (h : ℕ) (o : SceneObject) (name : List ℕ) (v : Value) → object_at objects h ≡ Some o → value_named name o.committed ≡ Some v →
      MatchOption (row_of o.kind name) (Unit {0}) (λ row. HasTypeOf row v)
  pub ranked : AreRanked objects
