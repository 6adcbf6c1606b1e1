-- A walk by the handles and spots of its visits: the objects are seen again where they stand.
use Rattle.std.specs.Prelude.{ℕ, List, [], Option, Some, None, map}
use Rattle.std.specs.List.{filter_map, range_with_len}
use Rattle.std.specs.Option.{option_map, option_map_or, unwrap_or}
use Rattle.byte_view.specs.Elements.{Elements, element}
use Rattle.kind_tables.specs.SceneObjects.{SceneObject, SceneObjects, object_at, object_in}
use Rattle.kind_tables.specs.Scenes.{nothing_of}
use Rattle.kind_tables.specs.Walks.{Spot, Visit, at_element, below, visit}
use Rattle.kind_tables.specs.declared.kinds.Kind.{Kind}
use Rattle.kind_tables.specs.declared.kinds.Kind.TheVariants.{FrameDefault}
use Rattle.scene_read.specs.Reading.{named_in}

-- where a visit stands, and the handle of what is visited
abbrev pub start_of : Visit → Spot × ℕ
start_of v = (v.spot, v.handle)

abbrev pub starts_of : List Visit → List (Spot × ℕ)
starts_of visits = map start_of visits

-- the object that is visited, which is always there
abbrev pub visited_object : SceneObjects → ℕ → SceneObject
visited_object objects h = unwrap_or (object_at objects h) (nothing_of FrameDefault)

-- what is seen at a start, and at all of them
abbrev pub seen : SceneObjects → Spot × ℕ → Visit
seen objects start = visit start (visited_object objects start.1)

abbrev pub all_seen : SceneObjects → List (Spot × ℕ) → List Visit
all_seen objects starts = map (seen objects) starts

-- where a walk goes on from an object at a spot, if there is one
abbrev pub starts_below : SceneObjects → Spot × ℕ → List (Spot × ℕ)
starts_below objects start = option_map_or (below start.0) (object_at objects start.1) []

-- where it goes on from element i of an array, from the first n, and from the elements of an object, if it is an array
abbrev pub element_start : Kind → Spot → Elements → ℕ → Option (Spot × ℕ)
element_start kind spot e i = option_map (λ h. (at_element kind spot i, h)) (object_in (element e i))

abbrev pub element_starts : Kind → Spot → Elements → ℕ → List (Spot × ℕ)
element_starts kind spot e n = filter_map (element_start kind spot e) (range_with_len 0 n)

abbrev pub content_starts : Kind → Spot → Option Elements → List (Spot × ℕ)
content_starts kind spot (Some e) = element_starts kind spot e e.count
content_starts kind spot None = []

-- where it goes on from a parameter of the object with a handle, and from several
abbrev pub parameter_start : SceneObjects → ℕ → Spot → List ℕ → Option (Spot × ℕ)
parameter_start objects h spot name = option_map (λ g. (spot, g)) (named_in objects h name)

abbrev pub parameter_starts : SceneObjects → ℕ → Spot → List (List ℕ) → List (Spot × ℕ)
parameter_starts objects h spot names = filter_map (parameter_start objects h spot) names
