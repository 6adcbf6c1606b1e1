-- The table of data types: the number of each, its size in bytes, and what it may be used for.
use Rattle.std.specs.Prelude.{ℕ, zero, suc, Bool, true, false, nat_le, List, [], ◌∷◌, Option, None, slice_get}
use Rattle.dev_types.specs.declared.data_types.DataType.{DataType}
use Rattle.dev_types.specs.declared.data_types.DataType.TheVariants.{Int32, Uint32, Uint32Vec2, Uint32Vec3, Uint64, Scalar, ScalarVec2, ScalarVec3, ScalarMat34, ScalarBox3, Ufixed8Vec4, Str, TypeName, Array1D, Camera, Frame, Geometry, Group, Instance, Light, Material, Renderer, Surface, World}

-- the number of a type
abbrev pub type_number : DataType → ℕ
type_number Int32 = 1
type_number Uint32 = 2
type_number Uint32Vec2 = 3
type_number Uint32Vec3 = 4
type_number Uint64 = 5
type_number Scalar = 6
type_number ScalarVec2 = 7
type_number ScalarVec3 = 8
type_number ScalarMat34 = 9
type_number ScalarBox3 = 10
type_number Ufixed8Vec4 = 11
type_number Str = 12
type_number TypeName = 13
type_number Array1D = 14
type_number Camera = 15
type_number Frame = 16
type_number Geometry = 17
type_number Group = 18
type_number Instance = 19
type_number Light = 20
type_number Material = 21
type_number Renderer = 22
type_number Surface = 23
type_number World = 24

-- the types by rising number, from 1 on
abbrev pub types_in_order : List DataType
types_in_order =
    Int32 ∷ Uint32 ∷ Uint32Vec2 ∷ Uint32Vec3 ∷ Uint64 ∷ Scalar ∷ ScalarVec2 ∷ ScalarVec3 ∷
    ScalarMat34 ∷ ScalarBox3 ∷ Ufixed8Vec4 ∷ Str ∷ TypeName ∷ Array1D ∷ Camera ∷ Frame ∷ Geometry ∷
    Group ∷ Instance ∷ Light ∷ Material ∷ Renderer ∷ Surface ∷ World ∷ []

-- the type with this number, if there is one
abbrev pub type_numbered : ℕ → Option DataType
type_numbered zero = None
type_numbered (suc n) = slice_get types_in_order n

-- the types whose values name an object
abbrev pub is_object_type : DataType → Bool
is_object_type ty = nat_le 14 (type_number ty)

-- how many bytes each value of the type has; 0 for strings, whose length varies
abbrev pub byte_size : DataType → ℕ
byte_size Int32 = 4
byte_size Uint32 = 4
byte_size Uint32Vec2 = 8
byte_size Uint32Vec3 = 12
byte_size Uint64 = 8
byte_size Scalar = 4
byte_size ScalarVec2 = 8
byte_size ScalarVec3 = 12
byte_size ScalarMat34 = 48
byte_size ScalarBox3 = 24
byte_size Ufixed8Vec4 = 4
byte_size Str = 0
byte_size TypeName = 4
byte_size _ = 8

-- the types that the elements of an array may have: numbers, and objects that a scene holds in lists
abbrev pub is_element_type : DataType → Bool
is_element_type Str = false
is_element_type TypeName = false
is_element_type Array1D = false
is_element_type Camera = false
is_element_type Frame = false
is_element_type Geometry = false
is_element_type Group = false
is_element_type Material = false
is_element_type Renderer = false
is_element_type World = false
is_element_type _ = true
