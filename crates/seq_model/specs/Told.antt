-- What the application is told: a status for each call that was refused, and the end of each array whose memory it gave (ANARI 1.0
-- Specification, array memory and status callbacks).
use Rattle.std.specs.Prelude.{ℕ, not, List, [], ◌∷◌, ◌++◌, Option, Some, None}
use Rattle.std.specs.List.{filter, filter_map}
use Rattle.std.specs.Map.{keys_of}
use Rattle.std.specs.Option.{option_and_then, option_map, option_to_list}
use Rattle.dev_types.specs.Refusals.{status_of}
use Rattle.dev_types.specs.declared.handles.Origin.{Origin}
use Rattle.dev_types.specs.declared.handles.Origin.TheVariants.{Captured, Shared, Managed}
use Rattle.dev_types.specs.declared.notices.Notice.{Notice}
use Rattle.dev_types.specs.declared.notices.Notice.TheVariants.{Deleted, LetGo, Told}
use Rattle.seq_model.specs.Histories.{History}
use Rattle.seq_model.specs.Life.{has}
use Rattle.seq_model.specs.State.{Object, State}
use Rattle.seq_model.specs.Steps.{Past, change, next_place, start, step}
use Rattle.seq_model.specs.declared.calls.Call.{Call}
use Rattle.seq_model.specs.declared.calls.Call.TheVariants.{NewObject, NewArray, Retain, Release, SetParameter, UnsetParameter, UnsetAll, Commit, MapArray, UnmapArray, MapParameterArray, UnmapParameterArray, RenderFrame, FrameReady, DiscardFrame, MapFrame, UnmapFrame, GetProperty, Subtypes, ObjectInfo, ParameterInfo}
use Rattle.seq_model.specs.declared.calls.Entry.{Entry}
use Rattle.seq_model.specs.declared.calls.Entry.TheVariants.{Called, Closed}
use Rattle.seq_model.specs.declared.calls.Reply.TheVariants as reply

-- the object that a call is made on, and 0 where there is none
abbrev pub source_of : Call → ℕ
source_of (NewObject _ _) = 0
source_of (NewArray _ _ _ _ _) = 0
source_of (Retain h) = h
source_of (Release h) = h
source_of (SetParameter h _ _) = h
source_of (UnsetParameter h _) = h
source_of (UnsetAll h) = h
source_of (Commit h) = h
source_of (MapArray h) = h
source_of (UnmapArray h _ _) = h
source_of (MapParameterArray h _ _ _) = h
source_of (UnmapParameterArray h _ _ _) = h
source_of (RenderFrame h) = h
source_of (FrameReady h _) = h
source_of (DiscardFrame h) = h
source_of (MapFrame h _) = h
source_of (UnmapFrame h _) = h
source_of (GetProperty h _) = h
source_of (Subtypes _) = 0
source_of (ObjectInfo _ _) = 0
source_of (ParameterInfo _ _ _) = 0

-- the status of a refused call
abbrev pub status_at : Entry → List Notice
status_at (Called _ call (reply.Denied refused)) = option_to_list (option_map Told (status_of refused (source_of call)))
status_at _ = []

-- the end of an array by where its memory came from: captured bytes go to their deleter, shared ones are let go, of managed ones nothing
-- is told
abbrev pub end_of_array : ℕ → List ℕ → Origin → Option Notice
end_of_array h bytes (Captured user) = Some (Deleted h user bytes)
end_of_array h bytes (Shared user) = Some (LetGo h user)
end_of_array h bytes Managed = None

-- the end of an object
abbrev pub end_of_object : ℕ × Object → Option Notice
end_of_object entry = option_and_then (λ a. end_of_array entry.0 a.block.bytes a.origin) entry.1.array

-- the objects of one state that another has no more
abbrev pub gone : State → State → List (ℕ × Object)
gone old new = filter (λ entry. not (has entry.0 (keys_of new.objects))) old.objects

-- what goes with an entry, by rising handle: it is there after the entry's change, and does not live any more. With the close all goes
abbrev pub removed : Past → Entry → List (ℕ × Object)
removed past Closed = past.state.objects
removed past e = gone (change (next_place past) e past.state) (step past e).state

-- what an entry tells: first its status, then the ends
unfoldable pub told_by : Past → Entry → List Notice
told_by past e = status_at e ++ filter_map end_of_object (removed past e)

-- what a history tells after a past
unfoldable pub told_from : Past → History → List Notice
told_from past [] = []
told_from past (e ∷ rest) = told_by past e ++ told_from (step past e) rest

-- what a history tells
unfoldable pub told : History → List Notice
told history = told_from start history
