-- Elements of a block: their sizes, and what a write of one changes.
use Rattle.std.proofs.Common.{ℕ, ◌+◌, ◌*◌, ◌≤◌, ◌≡◌, ◌∙◌, ap, sym, refl, List, ◌++◌, length, take, drop, IsTrue, arith, length-append, length-take, length-drop}
use Rattle.std.proofs.Math.Seq.{take-append_seam, drop-append_seam}
use Rattle.std.proofs.lemmas.List.{length-take-le}
use Rattle.dev_types.specs.Blocks.{part_of, with_part}
use Rattle.dev_types.specs.DataTypes.{byte_size, is_element_type, is_object_type}
use Rattle.dev_types.specs.ValueBytes.{type_of, value_size, is_well_typed}
use Rattle.dev_types.specs.declared.data_types.DataType.{DataType}
use Rattle.dev_types.specs.declared.data_types.DataType.TheVariants.{Array1D, Camera, Frame, Geometry, Group, Instance, Light, Material, Renderer, Surface, World}
use Rattle.dev_types.specs.declared.values.Value.{Value}
use Rattle.dev_types.specs.declared.values.Value.TheVariants.{Str, Object}

-- an object has 8 bytes
object_size : (t : DataType) → IsTrue (is_object_type t) → 8 ≡ byte_size t
object_size Array1D is = refl
object_size Camera is = refl
object_size Frame is = refl
object_size Geometry is = refl
object_size Group is = refl
object_size Instance is = refl
object_size Light is = refl
object_size Material is = refl
object_size Renderer is = refl
object_size Surface is = refl
object_size World is = refl
object_size _ is = cc

-- a value that may be an element has its type's number of bytes
pub element_size : (v : Value) → IsTrue (is_well_typed v) → IsTrue (is_element_type (type_of v)) → value_size v ≡ byte_size (type_of v)
element_size (Str text) typed may = cc
element_size (Object t h) typed may = object_size t typed
element_size _ typed may = refl

-- a write of an element keeps the block's length
pub length-with_part : (t : DataType) (stride : ℕ) (bytes : List ℕ) (i : ℕ) (part : List ℕ) → length part ≡ byte_size t →
    i * stride + byte_size t ≤ length bytes → length (with_part t stride bytes i part) ≡ length bytes
length-with_part t stride bytes i part sized within =
    omega (arith, length-append (take (i * stride) bytes) (part ++ drop (i * stride + byte_size t) bytes), length-append part (drop (i * stride + byte_size t) bytes), length-take (i * stride) bytes, length-drop (i * stride + byte_size t) bytes)

-- what was written to an element is read from it
pub part_of-with_part : (t : DataType) (stride : ℕ) (bytes : List ℕ) (i : ℕ) (part : List ℕ) → length part ≡ byte_size t →
    i * stride ≤ length bytes → part_of t stride (with_part t stride bytes i part) i ≡ part
part_of-with_part t stride bytes i part sized within =
    let front : length (take (i * stride) bytes) ≡ i * stride = length-take-le (i * stride) bytes within in
    let after : drop (i * stride) (with_part t stride bytes i part) ≡ part ++ drop (i * stride + byte_size t) bytes =
    ap (λ (n : ℕ). drop n (with_part t stride bytes i part)) (sym front) ∙ drop-append_seam (take (i * stride) bytes) (part ++ drop (i * stride + byte_size t) bytes) in
    ap (take (byte_size t)) after ∙ ap (λ (n : ℕ). take n (part ++ drop (i * stride + byte_size t) bytes)) (sym sized) ∙ take-append_seam part (drop (i * stride + byte_size t) bytes)
