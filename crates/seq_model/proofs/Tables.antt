-- What the table of kinds says of ranks: what an object may name stands lower than it.
use Rattle.std.proofs.Common.{ℕ, ◌≡◌, ◌<◌, ◌∙◌, ◌⊎◌, inl, inr, Bool, true, false, not, List, [], ◌∷◌, Option, Some, None, refl, sym, ap, subst}
use Rattle.std.specs.Prelude.{◌||◌, ◌&&◌, nat_lt}
use Rattle.std.specs.List.{list_all}
use Rattle.std.specs.Map.{lookup}
use Rattle.std.specs.Option.{MatchOption, is_some}
use Rattle.std.specs.Str.{bytes_eq}
use Rattle.std.proofs.lemmas.Bool.{and_parts, eqb-true, ltb-true, or_cases, not-true}
use Rattle.dev_types.proofs.TypeFacts.{numbered_number}
use Rattle.dev_types.specs.DataTypes.{is_element_type, type_number, type_numbered}
use Rattle.dev_types.specs.declared.data_types.DataType.{DataType}
use Rattle.dev_types.specs.declared.data_types.DataType.TheVariants as ty
use Rattle.kind_tables.proofs.TableFacts.{ranks_fall}
use Rattle.kind_tables.specs.Kinds.{is_same_type, kind_of, kinds_of_type, type_of_kind}
use Rattle.kind_tables.specs.Ranks.{arrays_are_below, rank_of, row_is_below, type_is_below}
use Rattle.kind_tables.specs.Rows.{row_of, rows_of}
use Rattle.kind_tables.specs.declared.kinds.Kind.{Kind}
use Rattle.kind_tables.specs.declared.kinds.Kind.TheVariants.{CameraOrthographic, CameraPerspective, FrameDefault, GeometrySphere, GeometryTriangle, GroupDefault, InstanceTransform, LightDirectional, LightPoint, MaterialMatte, RendererDefault, SurfaceDefault, WorldDefault, Array}
use Rattle.kind_tables.specs.declared.rows.Row.{Row}
use Rattle.kind_tables.specs.Typed.{Takes}

-- types with one number are one type
pub same_type : (t u : DataType) → is_same_type t u ≡ true → t ≡ u
same_type t u is =
    let numbers : type_number t ≡ type_number u = eqb-true (type_number t) (type_number u) is in
    let both : Some t ≡ Some u = sym (numbered_number t) ∙ ap type_numbered numbers ∙ numbered_number u in cc

-- arrays
abbrev pub is_array : Kind → Bool
is_array (Array _) = true
is_array _ = false

-- what holds of all entries of a table holds of the one that is found
found_passes : {K X : Type 0} (p : X → Bool) (test : K → Bool) (es : List (K × X)) (v : X) → list_all (λ e. p e.1) es ≡ true → lookup test es ≡ Some v → p v ≡ true
found_passes p test [] v all found = absurd cc
found_passes {K} {X} p test (e ∷ es) v all found = by (test e.0) refl (λ x. found_passes p test es v (and_parts (p e.1) (list_all (λ e. p e.1) es) all).1 x)
  where
    by : (t : Bool) → test e.0 ≡ t → (lookup test es ≡ Some v → p v ≡ true) → p v ≡ true
    by true is rest =
        let value : Some e.1 ≡ Some v = rw is at found in
        let same : e.1 ≡ v = cc in
        ap p (sym same) ∙ (and_parts (p e.1) (list_all (λ e. p e.1) es) all).0
    by false is rest = rest (rw is at found)

-- an object that is made by its subtype is no array
no_arrays : (t : DataType) → list_all (λ row. not (is_array row.1)) (kinds_of_type t) ≡ true
no_arrays ty.Int32 = refl
no_arrays _ = refl

pub made_is_no_array : (t : DataType) (subtype : List ℕ) (kind : Kind) → kind_of t subtype ≡ Some kind → is_array kind ≡ false
made_is_no_array t subtype kind found = not-true (is_array kind) (found_passes (λ kind. not (is_array kind)) (bytes_eq subtype) (kinds_of_type t) kind (no_arrays t) found)

-- a kind of a type that stands below a number does too
lower_kind : (n : ℕ) (kind : Kind) → is_array kind ≡ false → type_is_below n (type_of_kind kind) ≡ true → nat_lt (rank_of kind) n ≡ true
lower_kind n CameraOrthographic none low = (and_parts (nat_lt 2 n) (nat_lt 2 n && true) low).0
lower_kind n CameraPerspective none low = (and_parts (nat_lt 2 n) true (and_parts (nat_lt 2 n) (nat_lt 2 n && true) low).1).0
lower_kind n FrameDefault none low = (and_parts (nat_lt 9 n) true low).0
lower_kind n GeometrySphere none low = (and_parts (nat_lt 2 n) (nat_lt 2 n && true) low).0
lower_kind n GeometryTriangle none low = (and_parts (nat_lt 2 n) true (and_parts (nat_lt 2 n) (nat_lt 2 n && true) low).1).0
lower_kind n GroupDefault none low = (and_parts (nat_lt 5 n) true low).0
lower_kind n InstanceTransform none low = (and_parts (nat_lt 6 n) true low).0
lower_kind n LightDirectional none low = (and_parts (nat_lt 2 n) (nat_lt 2 n && true) low).0
lower_kind n LightPoint none low = (and_parts (nat_lt 2 n) true (and_parts (nat_lt 2 n) (nat_lt 2 n && true) low).1).0
lower_kind n MaterialMatte none low = (and_parts (nat_lt 2 n) true low).0
lower_kind n RendererDefault none low = (and_parts (nat_lt 2 n) true low).0
lower_kind n SurfaceDefault none low = (and_parts (nat_lt 3 n) true low).0
lower_kind n WorldDefault none low = (and_parts (nat_lt 8 n) true low).0
lower_kind n (Array elem) none low = absurd cc

rows_are_lower : (kind : Kind) → is_array kind ≡ false → list_all (row_is_below (rank_of kind)) (rows_of kind) ≡ true
rows_are_lower (Array elem) none = absurd cc
rows_are_lower CameraOrthographic none = ranks_fall CameraOrthographic
rows_are_lower kind none = ranks_fall kind

-- rows for arrays say of which elements
says_elements : Row → Bool
says_elements row = not (is_same_type row.ty ty.Array1D) || is_some row.elem

array_rows : (kind : Kind) → list_all (λ row. says_elements row.1) (rows_of kind) ≡ true
unfolding says_elements
array_rows CameraOrthographic = refl
array_rows _ = refl

says_none : (row : Row) → says_elements row ≡ true → is_same_type row.ty ty.Array1D ≡ true → row.elem ≡ None → ⊥
unfolding says_elements
says_none row says array none =
    let wrong : false ≡ true = sym (ap (λ t. not t || is_some row.elem) array ∙ ap is_some none) ∙ says in cc

row_is_lower : (kind : Kind) (name : List ℕ) (row : Row) → row_of kind name ≡ Some row → row_is_below (rank_of kind) (name, row) ≡ true
row_is_lower kind name row found = by (is_array kind) refl
  where
    none : (kind : Kind) → is_array kind ≡ true → row_of kind name ≡ None
    none (Array elem) is = refl
    none CameraOrthographic is = absurd cc
    none _ is = absurd cc

    by : (t : Bool) → is_array kind ≡ t → row_is_below (rank_of kind) (name, row) ≡ true
    by false is = found_passes (λ row. row_is_below (rank_of kind) (name, row)) (bytes_eq name) (rows_of kind) row (rows_are_lower kind is) found
    by true is = let nothing : None ≡ Some row = sym (none kind is) ∙ found in absurd cc

-- what a row takes stands lower than the object that has the row
pub takes_lower : (kind named : Kind) (name : List ℕ) (row : Row) → row_of kind name ≡ Some row → Takes row named → rank_of named < rank_of kind
takes_lower kind named name row found takes =
    by row.elem refl (is_array named) refl
  where
    both : (type_is_below (rank_of kind) row.ty ≡ true) × (arrays_are_below (rank_of kind) row.elem ≡ true)
    both = and_parts (type_is_below (rank_of kind) row.ty) (arrays_are_below (rank_of kind) row.elem) (row_is_lower kind name row found)

    array_type : (kind : Kind) → is_array kind ≡ true → is_same_type (type_of_kind kind) ty.Array1D ≡ true
    array_type (Array elem) is = refl
    array_type CameraOrthographic is = absurd cc
    array_type _ is = absurd cc

    by : (elem : Option DataType) → row.elem ≡ elem → (t : Bool) → is_array named ≡ t → rank_of named < rank_of kind
    by (Some elem) is t array =
        let kind_is : named ≡ Array elem = subst (λ (x : Option DataType). MatchOption x (Unit {0}) (λ elem. named ≡ Array elem)) is takes.1 in
        let low : nat_lt (rank_of (Array elem)) (rank_of kind) ≡ true = ap (arrays_are_below (rank_of kind)) (sym is) ∙ both.1 in
        ltb-true (rank_of named) (rank_of kind) (ap (λ k. nat_lt (rank_of k) (rank_of kind)) kind_is ∙ low)
    by None is false array = ltb-true (rank_of named) (rank_of kind) (lower_kind (rank_of kind) named array (ap (type_is_below (rank_of kind)) takes.0 ∙ both.0))
    by None is true array =
        let says : says_elements row ≡ true = found_passes says_elements (bytes_eq name) (rows_of kind) row (array_rows kind) found in
        absurd (says_none row says (ap (λ t. is_same_type t ty.Array1D) (sym takes.0) ∙ array_type named array) is)

-- what an array's elements name stands lower than the array
pub element_lower : (elem : DataType) (named : Kind) → is_element_type elem ≡ true → type_of_kind named ≡ elem → rank_of named < rank_of (Array elem)
element_lower elem named may has = by (is_array named) refl (or_cases (not (is_element_type elem)) (type_is_below (rank_of (Array elem)) elem) (ranks_fall (Array elem)))
  where
    array_elem : (kind : Kind) → is_array kind ≡ true → is_element_type (type_of_kind kind) ≡ false
    array_elem (Array e) is = refl
    array_elem CameraOrthographic is = absurd cc
    array_elem _ is = absurd cc

    by : (t : Bool) → is_array named ≡ t → (not (is_element_type elem) ≡ true) ⊎ (type_is_below (rank_of (Array elem)) elem ≡ true) → rank_of named < rank_of (Array elem)
    by true is cases = let wrong : false ≡ true = sym (array_elem named is) ∙ ap is_element_type has ∙ may in absurd cc
    by false is (inl not_may) = let wrong : false ≡ true = sym (not-true (is_element_type elem) not_may) ∙ may in absurd cc
    by false is (inr low) = ltb-true (rank_of named) (rank_of (Array elem)) (lower_kind (rank_of (Array elem)) named is (ap (type_is_below (rank_of (Array elem))) has ∙ low))
