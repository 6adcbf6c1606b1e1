-- What is read of an object: its values, by default where they were not committed, and its elements.
use Rattle.std.specs.Prelude.{ℕ, ◌≤◌, ◌^◌, List, Option, IfSome, map}
use Rattle.std.specs.List.{range_with_len}
use Rattle.std.specs.Option.{option_and_then, option_map, unwrap_or}
use Rattle.byte_view.specs.Elements.{Elements, element}
use Rattle.dev_types.specs.declared.values.Value.{Value}
use Rattle.kind_tables.specs.SceneObjects.{Block, SceneObject, SceneObjects, object_at, object_in, value_named}
use Rattle.kind_tables.specs.Scenes.{nothing_of}
use Rattle.scene_read.specs.declared.readers.Subject.{Subject}

-- the elements of a block as they are lent, and their values
abbrev pub lent : Block → Elements
lent b = record { ty = b.elem; stride = b.stride; count = b.count; bytes = b.bytes }

abbrev pub all_elements : Elements → List Value
all_elements e = map (element e) (range_with_len 0 e.count)

-- an array has at most 2^28 elements
abbrev pub IsCounted : Option Elements → Type 0
IsCounted content = IfSome content (λ e. e.count ≤ 2 ^ 28)

-- the elements of the object with a handle, if it is an array
abbrev pub content_of : SceneObjects → ℕ → Option Elements
content_of objects h = option_and_then (λ o. option_map lent o.block) (object_at objects h)

-- the object that is read; where there is none, one of a kind that was given nothing
abbrev pub object_of : SceneObjects → Subject → SceneObject
object_of objects subject = unwrap_or (option_and_then (object_at objects) subject.handle) (nothing_of subject.otherwise)

-- the handle that was committed under a name, and the elements of the array with it
abbrev pub named_in : SceneObjects → ℕ → List ℕ → Option ℕ
named_in objects h name = option_and_then object_in (option_and_then (λ o. value_named name o.committed) (object_at objects h))

abbrev pub array_in : SceneObjects → ℕ → List ℕ → Option Elements
array_in objects h name = option_and_then (content_of objects) (named_in objects h name)
