-- The pictures of a history. A picture shows the scene that was committed where its render stands, whatever came after (ANARI 1.0
-- Specification, Frame).
use Rattle.std.specs.Prelude.{ℕ, Bool, List}
use Rattle.std.specs.Option.{is_some, option_and_then, unwrap_or}
use Rattle.dev_types.specs.Channels.{number_of_channel}
use Rattle.dev_types.specs.Words.{name_of_channel}
use Rattle.dev_types.specs.declared.handles.Channel.{Channel}
use Rattle.fx_math.specs.declared.scene.Scene.{Scene}
use Rattle.kind_tables.specs.SceneObjects.{value_named}
use Rattle.kind_tables.specs.Scenes.{scene}
use Rattle.kind_tables.specs.Walks.{visited, walk}
use Rattle.picture_model.specs.Pictures.{picture, plane}
use Rattle.picture_model.specs.Tiles.{tile_count}
use Rattle.picture_model.specs.declared.records.Plane.{Plane}
use Rattle.seq_model.specs.Histories.{History, before, frame_at}
use Rattle.seq_model.specs.State.{State, object_at, scene_objects}
use Rattle.seq_model.specs.Steps.{after}

-- the state before a place
unfoldable pub state_before : History → ℕ → State
state_before history place = (after (before history place)).state

-- the scene of the render at place t
unfoldable pub scene_at : History → ℕ → Scene
scene_at history t = scene (scene_objects (state_before history t)) (unwrap_or (frame_at history t) 0)

-- which picture a channel shows
abbrev pub plane_of : Channel → Plane
plane_of c = plane (number_of_channel c)

-- the picture of the render at place t in a channel
unfoldable pub picture_at : History → ℕ → Channel → List ℕ
picture_at history t c = picture (scene_at history t) (plane_of c)

-- the number of its tiles
unfoldable pub tiles_at : History → ℕ → ℕ
tiles_at history t = tile_count (scene_at history t).width (scene_at history t).height

-- whether its frame asked for a channel there
unfoldable pub has_channel : History → ℕ → Channel → Bool
has_channel history t c =
    is_some (option_and_then (λ o. value_named (name_of_channel c) o.committed) (option_and_then (object_at (state_before history t)) (frame_at history t)))

-- what the render at place t reached: all that the walk from its frame visited there
unfoldable pub reached_at : History → ℕ → List ℕ
reached_at history t = visited (walk (scene_objects (state_before history t)) (unwrap_or (frame_at history t) 0))
