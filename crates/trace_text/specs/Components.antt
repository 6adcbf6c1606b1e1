-- Values that are written as numbers, one for each component.
use Rattle.std.specs.Prelude.{◌≡◌, ◌++◌, Bool, true, false, ℕ, ℤ, pos, negsuc, neg_ℤ, ◌-◌, ◌^◌, ◌==◌, ◌&&◌, List, Option, Some, None, option_and_then, option_map, nat_lt, int_le, length, if◌then◌else◌}
use Rattle.std.specs.Int.{Width, w8, w32, w64, to_le_bytes}
use Rattle.std.specs.List.{concat}
use Rattle.dev_types.specs.ValueBytes.{signed_bytes, decoded}
use Rattle.dev_types.specs.declared.data_types.DataType.{DataType}
use Rattle.dev_types.specs.declared.data_types.DataType.TheVariants.{Int32, Uint32, Uint32Vec2, Uint32Vec3, Uint64, Scalar, ScalarVec2, ScalarVec3, ScalarMat34, ScalarBox3, Ufixed8Vec4}
use Rattle.dev_types.specs.declared.values.Value.{Value}
use Rattle.trace_text.specs.Json.{each}

-- how many components each value of the type has; 0 where values of the type are not numbers
abbrev pub component_count : DataType → ℕ
component_count Int32 = 1
component_count Uint32 = 1
component_count Uint32Vec2 = 2
component_count Uint32Vec3 = 3
component_count Uint64 = 1
component_count Scalar = 1
component_count ScalarVec2 = 2
component_count ScalarVec3 = 3
component_count ScalarMat34 = 12
component_count ScalarBox3 = 6
component_count Ufixed8Vec4 = 4
component_count _ = 0

-- the bytes of a number with a sign in 32 bits, and of one without a sign in so many bits, where it has a place there
abbrev pub signed_component : ℤ → Option (List ℕ)
signed_component z = if int_le (neg_ℤ (pos (2 ^ 31))) z && int_le z (pos (2 ^ 31 - 1)) then Some (signed_bytes z) else None

abbrev pub unsigned_component : Width → ℕ → ℤ → Option (List ℕ)
unsigned_component w bits (pos n) = if nat_lt n (2 ^ bits) then Some (to_le_bytes w n) else None
unsigned_component w bits (negsuc n) = None

-- the bytes of a component of the type, where the number is in its range
abbrev pub component_bytes : DataType → ℤ → Option (List ℕ)
component_bytes Int32 z = signed_component z
component_bytes Uint32 z = unsigned_component w32 32 z
component_bytes Uint32Vec2 z = unsigned_component w32 32 z
component_bytes Uint32Vec3 z = unsigned_component w32 32 z
component_bytes Uint64 z = unsigned_component w64 64 z
component_bytes Scalar z = signed_component z
component_bytes ScalarVec2 z = signed_component z
component_bytes ScalarVec3 z = signed_component z
component_bytes ScalarMat34 z = signed_component z
component_bytes ScalarBox3 z = signed_component z
component_bytes Ufixed8Vec4 z = unsigned_component w8 8 z
component_bytes _ z = None

-- the bytes of components of the type, one after the other, where each number is in its range
abbrev pub bytes_of_numbers : DataType → List ℤ → Option (List ℕ)
bytes_of_numbers ty zs = option_map concat (each (component_bytes ty) zs)

-- the value of a type of numbers that has these components, where they are as many as it has and each is in its range
abbrev pub value_of_numbers : DataType → List ℤ → Option Value
value_of_numbers ty zs =
    if nat_lt 0 (component_count ty) && (length zs == component_count ty) then option_and_then (decoded ty) (bytes_of_numbers ty zs) else None

-- whether there are bytes to add, and then they were added behind others
abbrev pub IsPushed : Option (List ℕ) → List ℕ → List ℕ → Bool → Type 0
IsPushed None old new fits = fits ≡ false
IsPushed (Some bytes) old new fits = (fits ≡ true) × (new ≡ old ++ bytes)
