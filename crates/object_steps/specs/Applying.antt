-- A call that is made on objects, and what it leaves.
use Rattle.std.specs.Prelude.{ℕ, Bool, true, false, [], ◌∷◌, ◌++◌}
use Rattle.seq_model.specs.Histories.{History}
use Rattle.seq_model.specs.declared.calls.Call.{Call}
use Rattle.seq_model.specs.declared.calls.Call.TheVariants.{RenderFrame, FrameReady, DiscardFrame, MapFrame, UnmapFrame, GetProperty, Subtypes, ObjectInfo, ParameterInfo}
use Rattle.seq_model.specs.declared.calls.Entry.TheVariants.{Called}
use Rattle.seq_model.specs.declared.calls.Reply.{Reply}

-- the call makes, holds, changes or lends objects: it is none on a frame's picture, and asks nothing
abbrev pub is_object_call : Call → Bool
is_object_call (RenderFrame h) = false
is_object_call (FrameReady h wait) = false
is_object_call (DiscardFrame h) = false
is_object_call (MapFrame h channel) = false
is_object_call (UnmapFrame h number) = false
is_object_call (GetProperty h name) = false
is_object_call (Subtypes t) = false
is_object_call (ObjectInfo t subtype) = false
is_object_call (ParameterInfo t subtype name) = false
is_object_call call = true

-- the reply to the call may tell of a flight
abbrev pub tells_of_flights : Call → Bool
tells_of_flights (RenderFrame h) = true
tells_of_flights (FrameReady h wait) = true
tells_of_flights (MapFrame h channel) = true
tells_of_flights call = false

-- a history with one call more
abbrev pub with_call : History → ℕ → Call → Reply → History
with_call history actor call r = history ++ Called actor call r ∷ []
