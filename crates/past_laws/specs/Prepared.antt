-- What a render of a frame takes from the state before it.
use Rattle.std.specs.Prelude.{◌≡◌, ℕ, Bool, false, List, Option, slice_index_or}
use Rattle.std.specs.Option.{is_some, option_and_then, option_map}
use Rattle.dev_types.specs.Channels.{number_of_channel}
use Rattle.dev_types.specs.Words.{name_of_channel}
use Rattle.dev_types.specs.declared.handles.Channel.{Channel}
use Rattle.kind_tables.specs.SceneObjects.{value_named}
use Rattle.kind_tables.specs.Walks.{visited, walk}
use Rattle.seq_model.specs.State.{State, object_at, scene_objects}
use Rattle.past_laws.specs.Worlds.{world_of}

-- all that the walk from an object visits
abbrev pub reach_of : State → ℕ → List ℕ
reach_of s h = visited (walk (scene_objects s) h)

-- whether a frame asks for a channel
abbrev pub asks_for : State → ℕ → Channel → Bool
asks_for s f c = is_some (option_and_then (λ o. value_named (name_of_channel c) o.committed) (object_at s f))

-- each channel is marked by whether the frame asks for it
abbrev pub AreAsked : State → ℕ → List Bool → Type 0
AreAsked s f marks = (c : Channel) → slice_index_or marks (number_of_channel c) false ≡ asks_for s f c

-- the world of a frame with all that the walk from it visits
abbrev pub world_reach : State → ℕ → Option (ℕ × List ℕ)
world_reach s f = option_map (λ w. (w, reach_of s w)) (world_of s f)
