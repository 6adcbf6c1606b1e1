-- Which calls are answered by what.
use Rattle.std.specs.Prelude.{Bool, false, true}
use Rattle.seq_model.specs.declared.calls.Call.{Call}
use Rattle.seq_model.specs.declared.calls.Call.TheVariants.{Retain, Release, FrameReady, DiscardFrame, MapFrame, UnmapFrame, GetProperty, Subtypes, ObjectInfo, ParameterInfo}

-- the call shows no picture
abbrev pub ShowsNoPicture : Call → Type 0
ShowsNoPicture (MapFrame h c) = ⊥
ShowsNoPicture call = Unit {0}

-- the call shows no picture, and asks nothing of properties, types and parameters: its reply takes
-- no memory
abbrev pub IsPlain : Call → Type 0
IsPlain (MapFrame h c) = ⊥
IsPlain (GetProperty h name) = ⊥
IsPlain (Subtypes t) = ⊥
IsPlain (ObjectInfo t subtype) = ⊥
IsPlain (ParameterInfo t subtype name) = ⊥
IsPlain call = Unit {0}

-- the call is answered without memory: it gives up or takes a reference, asks whether a frame is
-- ready, discards what it shows, or gives a channel back
abbrev pub needs_no_memory : Call → Bool
needs_no_memory (Retain h) = true
needs_no_memory (Release h) = true
needs_no_memory (FrameReady h wait) = true
needs_no_memory (DiscardFrame h) = true
needs_no_memory (UnmapFrame h number) = true
needs_no_memory call = false
