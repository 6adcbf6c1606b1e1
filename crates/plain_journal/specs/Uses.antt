-- The world of a render, as it was found.
use Rattle.std.specs.Prelude.{◌≡◌, ℕ, List, Option, Some, None}
use Rattle.kind_tables.specs.Walks.{visited, walk}
use Rattle.seq_model.specs.State.{State, scene_objects}
use Rattle.seq_model.specs.declared.calls.Call.{Call}
use Rattle.seq_model.specs.declared.calls.Call.TheVariants.{RenderFrame}
use Rattle.seq_model.specs.declared.calls.Reply.{Reply}
use Rattle.seq_model.specs.declared.calls.Reply.TheVariants as reply
use Rattle.past_laws.specs.Worlds.{world_of}

-- these are all that a walk from the world visits, if there is a world
abbrev pub IsReach : State → Option ℕ → List ℕ → Type 0
IsReach s None reach = Unit {0}
IsReach s (Some w) reach = reach ≡ visited (walk (scene_objects s) w)

-- this is the world of frame f, with what it reaches
abbrev pub ReachesWorld : State → ℕ → Option ℕ → List ℕ → Type 0
ReachesWorld s f world reach = (world_of s f ≡ world) × IsReach s world reach

-- a render that was done comes with the world of its frame
abbrev pub FitsWorld : State → Call → Reply → Option ℕ → List ℕ → Type 0
FitsWorld s (RenderFrame f) reply.Done world reach = ReachesWorld s f world reach
FitsWorld s call r world reach = Unit {0}
