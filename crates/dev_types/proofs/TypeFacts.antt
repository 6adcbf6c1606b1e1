-- The numbers of the data types and the types with these numbers.
use Rattle.std.proofs.Common.{ℕ, zero, suc, ◌+◌, ◌-◌, List, [], ◌∷◌, ◌≡◌, ◌∙◌, sym, subst, ◌<◌, ◌≤◌, get_or, Some, None, refl, arith}
use Rattle.std.specs.Prelude.{slice_get}
use Rattle.std.proofs.lemmas.Option.{slice_get-get_or, slice_get_past}
use Rattle.dev_types.specs.declared.data_types.DataType.{DataType}
use Rattle.dev_types.specs.declared.data_types.DataType.TheVariants.{Int32}
use Rattle.dev_types.specs.DataTypes.{type_number, type_numbered, types_in_order}

-- the type that has a type's number is that type
pub numbered_number : (t : DataType) → type_numbered (type_number t) ≡ Some t
numbered_number Int32 = refl
numbered_number _ = refl

-- the types of the list have the numbers from m on
abbrev pub NumberedFrom : ℕ → List DataType → Type 0
NumberedFrom m [] = Unit {0}
NumberedFrom m (t ∷ ts) = (type_number t ≡ m) × NumberedFrom (suc m) ts

pub number_at : (m i : ℕ) (ts : List DataType) (t : DataType) → NumberedFrom m ts → slice_get ts i ≡ Some t → type_number t ≡ i + m
number_at m i [] t h e = cc
number_at m zero (x ∷ ts) t h e = let same : x ≡ t = cc in subst (λ (y : DataType). type_number y ≡ 0 + m) same (h.0 ∙ omega arith)
number_at m (suc i) (x ∷ ts) t h e = number_at (suc m) i ts t h.1 e ∙ omega arith

pub types_are_numbered : NumberedFrom 1 types_in_order
types_are_numbered = (refl, (refl, (refl, (refl, (refl, (refl, (refl, (refl, (refl, (refl, (refl, (refl, (refl, (refl, (refl, (refl, (refl, (refl, (refl, (refl, (refl, (refl, (refl, (refl, tt))))))))))))))))))))))))

-- the type with a number has that number
pub number_numbered : (n : ℕ) (t : DataType) → type_numbered n ≡ Some t → type_number t ≡ n
number_numbered zero t e = cc
number_numbered (suc n) t e = number_at 1 n types_in_order t types_are_numbered e ∙ omega arith

-- the type with a number from 1 to 24
pub type_at : (n : ℕ) (d : DataType) → 1 ≤ n → n ≤ 24 → Some (get_or types_in_order (n - 1) d) ≡ type_numbered n
type_at zero d from to = absurd (omega arith)
type_at (suc n) d from to = let e : suc n - 1 ≡ n = omega arith in rw e (sym (slice_get-get_or types_in_order n d (omega arith)))

-- no type has another number
pub type_past : (n : ℕ) → (0 < n → 24 < n) → None ≡ type_numbered n
type_past zero h = refl
type_past (suc n) h = let past : 24 < suc n = h (omega arith) in sym (slice_get_past types_in_order n (omega arith))
