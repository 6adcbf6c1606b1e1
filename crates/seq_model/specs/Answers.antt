-- Which replies a call may have after a past.
use Rattle.std.specs.Prelude.{◌≡◌, ℕ, zero, suc, ◌<◌, Bool, true, false, [], ◌∷◌, Option, Some, None}
use Rattle.std.specs.Option.{MatchOption, option_and_then, option_map, option_or}
use Rattle.dev_types.specs.declared.handles.Channel.{Channel}
use Rattle.dev_types.specs.declared.refusals.Refused.TheVariants.{InFlight}
use Rattle.dev_types.specs.declared.answers.ParamInfo.{ParamInfo}
use Rattle.dev_types.specs.declared.values.Value.{Value}
use Rattle.kind_tables.specs.Kinds.{kind_of, subtypes_of}
use Rattle.kind_tables.specs.Ranges.{type_of_channel}
use Rattle.kind_tables.specs.Rows.{parameters_of, row_of}
use Rattle.kind_tables.specs.declared.rows.Row.{Row}
use Rattle.seq_model.specs.Pictures.{picture_at, scene_at, tiles_at}
use Rattle.seq_model.specs.Properties.{property_by, version}
use Rattle.seq_model.specs.Refusals.{phase_at, refusal}
use Rattle.seq_model.specs.State.{Phase, Empty, Flight, Done, object_at, scene_objects}
use Rattle.seq_model.specs.Steps.{Past, next_place}
use Rattle.seq_model.specs.declared.calls.Call.{Call}
use Rattle.seq_model.specs.declared.calls.Call.TheVariants.{NewObject, NewArray, MapArray, MapParameterArray, UnmapParameterArray, FrameReady, MapFrame, GetProperty, Subtypes, ObjectInfo, ParameterInfo}
use Rattle.seq_model.specs.declared.calls.Reply.{Reply}
use Rattle.seq_model.specs.declared.calls.Reply.TheVariants as reply

-- the picture of a frame is done
abbrev pub is_done : Phase → Bool
is_done (Done _) = true
is_done _ = false

-- handle 0 stands for the device, which tells its version
abbrev pub property_of : Past → ℕ → Option Value
property_of past zero = Some version
property_of past (suc h) =
    option_map (λ o. property_by (scene_objects past.state) (suc h) (is_done (phase_at past (suc h))) o.kind) (object_at past.state (suc h))

-- what a row tells of its parameter
abbrev pub info_of : Row → ParamInfo
info_of row = record { types = row.ty ∷ []; required = row.required; default = row.default }

-- a frame in flight is not ready, and a call that waits for it is not entered before it is; a frame that is done is ready
abbrev pub readiness : Past → Bool → Phase → Option Reply
readiness past wait Empty = None
readiness past true (Flight t) = None
readiness past false (Flight t) = Some (reply.NotReady 0 (tiles_at past.seen t))
readiness past wait (Done t) = Some reply.Ready

-- a channel of a frame that is done shows the picture of its render
abbrev pub mapped_picture : Past → Channel → Phase → Option Reply
mapped_picture past c (Done t) =
    Some (reply.Mapped (scene_at past.seen t).width (scene_at past.seen t).height (type_of_channel c) (picture_at past.seen t c))
mapped_picture past c _ = None

-- the reply to a call that no refusal applies to
abbrev pub granted : Past → Call → Option Reply
granted past (NewObject _ _) = Some (reply.Made past.state.next)
granted past (NewArray _ _ _ _ _) = Some (reply.Made past.state.next)
granted past (MapArray h) = Some (reply.Lent (next_place past))
granted past (MapParameterArray _ _ _ _) = Some (reply.Lent (next_place past))
granted past (UnmapParameterArray _ _ _ _) = Some (reply.Made past.state.next)
granted past (FrameReady h wait) = readiness past wait (phase_at past h)
granted past (MapFrame h c) = mapped_picture past c (phase_at past h)
granted past (GetProperty h name) = option_map reply.Val (property_of past h)
granted past (Subtypes t) = Some (reply.Listed (subtypes_of t))
granted past (ObjectInfo t subtype) = option_map (λ kind. reply.Listed (parameters_of kind)) (kind_of t subtype)
granted past (ParameterInfo t subtype name) =
    option_map (λ row. reply.Info (info_of row)) (option_and_then (λ kind. row_of kind name) (kind_of t subtype))
granted past _ = Some reply.Done

-- the reply to a call, where no tile of a flight was seen finished yet; there is none where the call waits for a flight
unfoldable pub answer : Past → Call → Option Reply
answer past call = option_or (option_map reply.Denied (refusal past call)) (granted past call)

-- the same reply, but that of a flight any number of tiles may have been seen finished that is not all
abbrev pub IsLike : Reply → Reply → Type 0
IsLike (reply.NotReady _ of) r = (given : ℕ) × (given < of) × (r ≡ reply.NotReady given of)
IsLike (reply.Denied (InFlight _ of)) r = (given : ℕ) × (given < of) × (r ≡ reply.Denied (InFlight given of))
IsLike a r = r ≡ a

-- the replies that a call may have after a past
unfoldable pub IsAnswer : Past → Call → Reply → Type 0
IsAnswer past call r = MatchOption (answer past call) ⊥ (λ a. IsLike a r)
