-- The words that stand for types, channels and origins in texts: in traces, in journals, and as parameters.
use Rattle.std.specs.Prelude.{ℕ, List, [], ◌∷◌, Option, codes}
use Rattle.std.specs.Map.{lookup}
use Rattle.std.specs.Str.{bytes_eq}
use Rattle.dev_types.specs.declared.data_types.DataType.{DataType}
use Rattle.dev_types.specs.declared.data_types.DataType.TheVariants.{Int32, Uint32, Uint32Vec2, Uint32Vec3, Uint64, Scalar, ScalarVec2, ScalarVec3, ScalarMat34, ScalarBox3, Ufixed8Vec4, Str, TypeName, Array1D, Camera, Frame, Geometry, Group, Instance, Light, Material, Renderer, Surface, World}
use Rattle.dev_types.specs.declared.handles.Channel.{Channel}
use Rattle.dev_types.specs.declared.handles.Channel.TheVariants.{Color, PrimitiveId, ObjectId, InstanceId}
use Rattle.dev_types.specs.declared.handles.Origin.{Origin}
use Rattle.dev_types.specs.declared.handles.Origin.TheVariants.{Captured, Shared, Managed}

-- the name of a data type, as it is written where values are
abbrev pub name_of_type : DataType → List ℕ
name_of_type Int32 = codes "INT32"
name_of_type Uint32 = codes "UINT32"
name_of_type Uint32Vec2 = codes "UINT32_VEC2"
name_of_type Uint32Vec3 = codes "UINT32_VEC3"
name_of_type Uint64 = codes "UINT64"
name_of_type Scalar = codes "SCALAR"
name_of_type ScalarVec2 = codes "SCALAR_VEC2"
name_of_type ScalarVec3 = codes "SCALAR_VEC3"
name_of_type ScalarMat34 = codes "SCALAR_MAT34"
name_of_type ScalarBox3 = codes "SCALAR_BOX3"
name_of_type Ufixed8Vec4 = codes "UFIXED8_VEC4"
name_of_type Str = codes "STRING"
name_of_type TypeName = codes "DATA_TYPE"
name_of_type Array1D = codes "ARRAY1D"
name_of_type Camera = codes "CAMERA"
name_of_type Frame = codes "FRAME"
name_of_type Geometry = codes "GEOMETRY"
name_of_type Group = codes "GROUP"
name_of_type Instance = codes "INSTANCE"
name_of_type Light = codes "LIGHT"
name_of_type Material = codes "MATERIAL"
name_of_type Renderer = codes "RENDERER"
name_of_type Surface = codes "SURFACE"
name_of_type World = codes "WORLD"

-- the data types by their names
abbrev pub types_by_name : List (List ℕ × DataType)
types_by_name =
    (codes "INT32", Int32) ∷ (codes "UINT32", Uint32) ∷ (codes "UINT32_VEC2", Uint32Vec2) ∷ (codes "UINT32_VEC3", Uint32Vec3) ∷
    (codes "UINT64", Uint64) ∷ (codes "SCALAR", Scalar) ∷ (codes "SCALAR_VEC2", ScalarVec2) ∷ (codes "SCALAR_VEC3", ScalarVec3) ∷
    (codes "SCALAR_MAT34", ScalarMat34) ∷ (codes "SCALAR_BOX3", ScalarBox3) ∷ (codes "UFIXED8_VEC4", Ufixed8Vec4) ∷
    (codes "STRING", Str) ∷ (codes "DATA_TYPE", TypeName) ∷ (codes "ARRAY1D", Array1D) ∷ (codes "CAMERA", Camera) ∷
    (codes "FRAME", Frame) ∷ (codes "GEOMETRY", Geometry) ∷ (codes "GROUP", Group) ∷ (codes "INSTANCE", Instance) ∷
    (codes "LIGHT", Light) ∷ (codes "MATERIAL", Material) ∷ (codes "RENDERER", Renderer) ∷ (codes "SURFACE", Surface) ∷
    (codes "WORLD", World) ∷ []

-- the data type with this name, if there is one
abbrev pub type_named : List ℕ → Option DataType
type_named name = lookup (bytes_eq name) types_by_name

-- the word for a type where objects are made or asked for; a type that is no object type has its name there
abbrev pub word_of_type : DataType → List ℕ
word_of_type Array1D = codes "array1d"
word_of_type Camera = codes "camera"
word_of_type Frame = codes "frame"
word_of_type Geometry = codes "geometry"
word_of_type Group = codes "group"
word_of_type Instance = codes "instance"
word_of_type Light = codes "light"
word_of_type Material = codes "material"
word_of_type Renderer = codes "renderer"
word_of_type Surface = codes "surface"
word_of_type World = codes "world"
word_of_type ty = name_of_type ty

-- the object types by their words
abbrev pub types_by_word : List (List ℕ × DataType)
types_by_word =
    (codes "array1d", Array1D) ∷ (codes "camera", Camera) ∷ (codes "frame", Frame) ∷ (codes "geometry", Geometry) ∷
    (codes "group", Group) ∷ (codes "instance", Instance) ∷ (codes "light", Light) ∷ (codes "material", Material) ∷
    (codes "renderer", Renderer) ∷ (codes "surface", Surface) ∷ (codes "world", World) ∷ []

-- the object type with this word, if there is one
abbrev pub type_worded : List ℕ → Option DataType
type_worded word = lookup (bytes_eq word) types_by_word

-- the parameter of a frame that asks for a channel
abbrev pub name_of_channel : Channel → List ℕ
name_of_channel Color = codes "channel.color"
name_of_channel PrimitiveId = codes "channel.primitiveId"
name_of_channel ObjectId = codes "channel.objectId"
name_of_channel InstanceId = codes "channel.instanceId"

-- the channels by these names
abbrev pub channels_by_name : List (List ℕ × Channel)
channels_by_name =
    (codes "channel.color", Color) ∷ (codes "channel.primitiveId", PrimitiveId) ∷
    (codes "channel.objectId", ObjectId) ∷ (codes "channel.instanceId", InstanceId) ∷ []

-- the channel with this name, if there is one
abbrev pub channel_named : List ℕ → Option Channel
channel_named name = lookup (bytes_eq name) channels_by_name

-- the word for where an array's memory comes from
abbrev pub word_of_origin : Origin → List ℕ
word_of_origin (Captured _) = codes "captured"
word_of_origin (Shared _) = codes "shared"
word_of_origin Managed = codes "managed"
