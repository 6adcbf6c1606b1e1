-- Where the elements of a part of a loan lie.
use Rattle.std.proofs.Common.{ℕ, zero, suc, ◌+◌, ◌-◌, ◌*◌, ◌<◌, ◌≤◌, ◌≡◌, ◌∙◌, ap, sym, refl, subst, List, length, take, drop, arith, length-drop, length-take, nat_lt, true, false, inl, inr, ◌⊎◌, Bool, Some, None}
use Rattle.std.specs.Prelude.{if◌then◌else◌}
use Rattle.std.proofs.Math.Nat.{add-mul, suc-mul, mul-le-mul_right}
use Rattle.std.proofs.Math.Seq.{take-length}
use Rattle.std.proofs.lemmas.Bool.{lt-ltb, cases_lt}
use Rattle.dev_types.specs.Blocks.{end_of, FitsBlock}
use Rattle.dev_types.specs.DataTypes.{byte_size}
use Rattle.dev_types.specs.declared.data_types.DataType.{DataType}
use Rattle.dev_types.specs.ValueBytes.{type_of, value_of, are_bytes_of, decoded}
use Rattle.dev_types.specs.declared.values.Value.{Value}
use Rattle.dev_types.proofs.BlockFacts.{part_of-with_part}
use Rattle.byte_view.specs.Elements.{Elements, Fit, start_of, element, with_element}

-- the element m places behind element i ends where the last may
later_end : (size stride i m last len : ℕ) → i + m ≤ last → last * stride + size ≤ len → i * stride + (m * stride + size) ≤ len
later_end size stride i m last len within fits =
    let sum : (i + m) * stride ≡ i * stride + m * stride = add-mul i m stride in
    let most : (i + m) * stride ≤ last * stride = mul-le-mul_right stride within in
    omega arith

-- the elements i to j - 1 end within the block
pub end_of_range : (size stride count i j len : ℕ) → end_of size stride count ≤ len → i < j → j ≤ count → i * stride + end_of size stride (j - i) ≤ len
end_of_range size stride zero i j len fits some within = absurd (omega arith)
end_of_range size stride (suc last) i j len fits some within =
    let e : j - i ≡ suc (j - i - 1) = omega arith in
    rw e (later_end size stride i (j - i - 1) last len (omega arith) fits)

-- an element begins a whole number of strides from the front
pub start_below : (e : Elements) (i : ℕ) → i < e.count → start_of e i ≡ i * e.stride
start_below e i below = rw (lt-ltb i e.count below) refl

-- a test that fails
not_below : (m n : ℕ) → n ≤ m → nat_lt m n ≡ false
not_below m n above = grind arith

-- the elements i to j - 1 lie in the bytes from element i on
pub range_fits : (e : Elements) (i j : ℕ) → Fit e → i ≤ j → j ≤ e.count → FitsBlock e.ty e.stride (j - i) (length (drop (start_of e i) e.bytes))
range_fits e i j fits ordered within = (fits.0, fits.1, ends (cases_lt i j))
  where
    ends : (i < j) ⊎ (j ≤ i) → end_of (byte_size e.ty) e.stride (j - i) ≤ length (drop (start_of e i) e.bytes)
    ends (inl some) =
        let at : start_of e i ≡ i * e.stride = start_below e i (omega arith) in
        let last : i * e.stride + end_of (byte_size e.ty) e.stride (j - i) ≤ length e.bytes = end_of_range (byte_size e.ty) e.stride e.count i j (length e.bytes) fits.2 some within in
        rw at (omega (arith, length-drop (i * e.stride) e.bytes))
    ends (inr none) = let empty : j - i ≡ 0 = omega arith in rw empty (omega arith)

-- a value that bytes decode to is the one that stands in them
decoded_value : (b : Bool) (x v : Value) → (if b then Some x else None) ≡ Some v → x ≡ v
decoded_value true x v e = cc
decoded_value false x v e = cc

-- what was written to an element is read from it
pub element_written : (e : Elements) (i : ℕ) (own : List ℕ) (v : Value) → i * e.stride ≤ length e.bytes → length own ≡ byte_size e.ty →
    type_of v ≡ e.ty → decoded (type_of v) own ≡ Some v → element (with_element e i own) i ≡ v
element_written e i own v within sized typed back =
    ap (value_of e.ty) (part_of-with_part e.ty e.stride e.bytes i own sized within) ∙
    ap (λ (t : DataType). value_of t own) (sym typed) ∙
    decoded_value (are_bytes_of (type_of v) own) (value_of (type_of v) own) v back

-- an element that is there ends within the bytes
pub ends_within : (e : Elements) (i : ℕ) → Fit e → i < e.count → i * e.stride + byte_size e.ty ≤ length e.bytes
ends_within e i fits below =
    let one : suc i - i ≡ 1 = omega arith in
    let last : i * e.stride + end_of (byte_size e.ty) e.stride (suc i - i) ≤ length e.bytes = end_of_range (byte_size e.ty) e.stride e.count i (suc i) (length e.bytes) fits.2 (omega arith) (omega arith) in
    let end : i * e.stride + (0 * e.stride + byte_size e.ty) ≤ length e.bytes = subst (λ (n : ℕ). i * e.stride + end_of (byte_size e.ty) e.stride n ≤ length e.bytes) one last in
    omega arith

-- the elements before i lie in the bytes before it
front_end : (size stride count i len : ℕ) → size ≤ stride → end_of size stride count ≤ len → i < count → end_of size stride i ≤ i * stride
front_end size stride count zero len apart fits below = omega arith
front_end size stride count (suc i) len apart fits below =
    let more : suc i * stride ≡ i * stride + stride = suc-mul i stride in
    omega arith

pub front_fits : (e : Elements) (i : ℕ) → Fit e → i ≤ e.count → FitsBlock e.ty e.stride i (length (take (start_of e i) e.bytes))
front_fits e i fits within = (fits.0, fits.1, ends (cases_lt i e.count))
  where
    ends : (i < e.count) ⊎ (e.count ≤ i) → end_of (byte_size e.ty) e.stride i ≤ length (take (start_of e i) e.bytes)
    ends (inl below) =
        let at : start_of e i ≡ i * e.stride = start_below e i below in
        let front : end_of (byte_size e.ty) e.stride i ≤ i * e.stride = front_end (byte_size e.ty) e.stride e.count i (length e.bytes) fits.1 fits.2 below in
        let here : i * e.stride + byte_size e.ty ≤ length e.bytes = ends_within e i fits below in
        rw at (omega (arith, length-take (i * e.stride) e.bytes))
    ends (inr all) =
        let same : i ≡ e.count = omega arith in
        let last : nat_lt i e.count ≡ false = not_below i e.count all in
        let at : start_of e i ≡ length e.bytes = rw last refl in
        let whole : take (length e.bytes) e.bytes ≡ e.bytes = take-length e.bytes in
        rw (at, whole, same) fits.2
