-- The data type and the bytes of each value, and the value that stands in bytes: little-endian,
-- components in order.
use Rattle.std.specs.Prelude.{ℕ, ℤ, zero, suc, ◌==◌, ◌&&◌, Bool, true, false, List, [], ◌∷◌, Option, Some, None, is_some, unwrap_or, length, take, drop, map, if◌then◌else◌}
use Rattle.std.specs.List.{flat_map}
use Rattle.std.specs.Int.{w32, w64, cast_signed, cast_unsigned, to_le_bytes, from_le_bytes}
use Rattle.dev_types.specs.Bounded.{is_text}
use Rattle.dev_types.specs.DataTypes.{type_number, type_numbered, byte_size, is_object_type}
use Rattle.dev_types.specs.declared.data_types.DataType.{DataType}
use Rattle.dev_types.specs.declared.data_types.DataType.TheVariants as ty
use Rattle.dev_types.specs.declared.values.Value.{Value}
use Rattle.dev_types.specs.declared.values.Value.TheVariants.{Int32, Uint32, Uint32Vec2, Uint32Vec3, Uint64, Scalar, ScalarVec2, ScalarVec3, ScalarMat34, ScalarBox3, Ufixed8Vec4, Str, TypeName, Object}

-- the data type of a value
abbrev pub type_of : Value → DataType
type_of (Int32 _) = ty.Int32
type_of (Uint32 _) = ty.Uint32
type_of (Uint32Vec2 _) = ty.Uint32Vec2
type_of (Uint32Vec3 _) = ty.Uint32Vec3
type_of (Uint64 _) = ty.Uint64
type_of (Scalar _) = ty.Scalar
type_of (ScalarVec2 _) = ty.ScalarVec2
type_of (ScalarVec3 _) = ty.ScalarVec3
type_of (ScalarMat34 _) = ty.ScalarMat34
type_of (ScalarBox3 _) = ty.ScalarBox3
type_of (Ufixed8Vec4 _) = ty.Ufixed8Vec4
type_of (Str _) = ty.Str
type_of (TypeName _) = ty.TypeName
type_of (Object t _) = t

-- the four bytes of a number from 0 to 2^32 - 1, and of one from -2^31 to 2^31 - 1
abbrev pub unsigned_bytes : ℕ → List ℕ
unsigned_bytes n = to_le_bytes w32 n

abbrev pub signed_bytes : ℤ → List ℕ
signed_bytes z = to_le_bytes w32 (cast_unsigned w32 z)

-- the bytes of a value
abbrev pub bytes_of : Value → List ℕ
bytes_of (Int32 z) = signed_bytes z
bytes_of (Uint32 n) = unsigned_bytes n
bytes_of (Uint32Vec2 ns) = flat_map unsigned_bytes ns
bytes_of (Uint32Vec3 ns) = flat_map unsigned_bytes ns
bytes_of (Uint64 n) = to_le_bytes w64 n
bytes_of (Scalar z) = signed_bytes z
bytes_of (ScalarVec2 zs) = flat_map signed_bytes zs
bytes_of (ScalarVec3 zs) = flat_map signed_bytes zs
bytes_of (ScalarMat34 zs) = flat_map signed_bytes zs
bytes_of (ScalarBox3 zs) = flat_map signed_bytes zs
bytes_of (Ufixed8Vec4 bs) = bs
bytes_of (Str text) = text
bytes_of (TypeName t) = unsigned_bytes (type_number t)
bytes_of (Object _ h) = to_le_bytes w64 h

-- how many bytes a value has
abbrev pub value_size : Value → ℕ
value_size (Str text) = length text
value_size (Object _ _) = 8
value_size v = byte_size (type_of v)

-- every value but an object of a type that is no object type
abbrev pub is_well_typed : Value → Bool
is_well_typed (Object t _) = is_object_type t
is_well_typed _ = true

-- the number in four bytes, without and with a sign
abbrev pub unsigned_number : List ℕ → ℕ
unsigned_number bytes = from_le_bytes w32 bytes

abbrev pub signed_number : List ℕ → ℤ
signed_number bytes = cast_signed w32 (from_le_bytes w32 bytes)

-- the first n groups of four bytes
abbrev pub groups : ℕ → List ℕ → List (List ℕ)
groups zero bytes = []
groups (suc n) bytes = take 4 bytes ∷ groups n (drop 4 bytes)

abbrev pub unsigned_numbers : ℕ → List ℕ → List ℕ
unsigned_numbers n bytes = map unsigned_number (groups n bytes)

abbrev pub signed_numbers : ℕ → List ℕ → List ℤ
signed_numbers n bytes = map signed_number (groups n bytes)

-- the types whose values may have any bytes of the right number
abbrev pub has_any_bytes : DataType → Bool
has_any_bytes ty.Str = false
has_any_bytes ty.TypeName = false
has_any_bytes _ = true

-- whether these are the bytes of a value of the type
abbrev pub are_bytes_of : DataType → List ℕ → Bool
are_bytes_of ty.Str bytes = is_text bytes
are_bytes_of ty.TypeName bytes = (length bytes == 4) && is_some (type_numbered (unsigned_number bytes))
are_bytes_of t bytes = length bytes == byte_size t

-- the value of the type that has these bytes, where they are bytes of such a value
abbrev pub value_of : DataType → List ℕ → Value
value_of ty.Int32 bytes = Int32 (signed_number bytes)
value_of ty.Uint32 bytes = Uint32 (unsigned_number bytes)
value_of ty.Uint32Vec2 bytes = Uint32Vec2 (unsigned_numbers 2 bytes)
value_of ty.Uint32Vec3 bytes = Uint32Vec3 (unsigned_numbers 3 bytes)
value_of ty.Uint64 bytes = Uint64 (from_le_bytes w64 bytes)
value_of ty.Scalar bytes = Scalar (signed_number bytes)
value_of ty.ScalarVec2 bytes = ScalarVec2 (signed_numbers 2 bytes)
value_of ty.ScalarVec3 bytes = ScalarVec3 (signed_numbers 3 bytes)
value_of ty.ScalarMat34 bytes = ScalarMat34 (signed_numbers 12 bytes)
value_of ty.ScalarBox3 bytes = ScalarBox3 (signed_numbers 6 bytes)
value_of ty.Ufixed8Vec4 bytes = Ufixed8Vec4 bytes
value_of ty.Str bytes = Str bytes
value_of ty.TypeName bytes = TypeName (unwrap_or (type_numbered (unsigned_number bytes)) ty.Int32)
value_of t bytes = Object t (from_le_bytes w64 bytes)

-- the value of the type with these bytes, if there is one
abbrev pub decoded : DataType → List ℕ → Option Value
decoded t bytes = if are_bytes_of t bytes then Some (value_of t bytes) else None
