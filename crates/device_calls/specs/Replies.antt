-- Calls with which no loan goes and comes, and how they are answered.
use Rattle.std.specs.Prelude.{◌≡◌, ◌⊎◌, Result, Ok, Err}
use Rattle.dev_types.specs.declared.answers.Ready.{Ready}
use Rattle.dev_types.specs.declared.answers.Ready.TheVariants as ready
use Rattle.dev_types.specs.declared.refusals.Refused.{Refused}
use Rattle.dev_types.specs.declared.refusals.Refused.TheVariants.{NoMemory}
use Rattle.device_parts.specs.declared.handed.Handed.{Handed}
use Rattle.device_parts.specs.declared.handed.Handed.TheVariants as handed
use Rattle.seq_model.specs.declared.calls.Call.{Call}
use Rattle.seq_model.specs.declared.calls.Call.TheVariants.{Commit, DiscardFrame, MapArray, MapFrame, MapParameterArray, Release, RenderFrame, Retain, SetParameter, UnmapArray, UnmapFrame, UnmapParameterArray, UnsetAll, UnsetParameter}
use Rattle.seq_model.specs.declared.calls.Reply.{Reply}
use Rattle.seq_model.specs.declared.calls.Reply.TheVariants as reply
use Rattle.turn_lock.specs.Passes.{mine}
use Rattle.device_calls.specs.Passes.{DevicePass, HasCalled, HasDeclined}

-- the call lends nothing and ends no loan
abbrev pub IsLoanless : Call → Type 0
IsLoanless (MapArray h) = ⊥
IsLoanless (UnmapArray h number bytes) = ⊥
IsLoanless (MapParameterArray h name elem count) = ⊥
IsLoanless (UnmapParameterArray h name number bytes) = ⊥
IsLoanless (MapFrame h channel) = ⊥
IsLoanless (UnmapFrame h number) = ⊥
IsLoanless call = Unit {0}

-- the call is done, where it is not refused
abbrev pub IsDone : Call → Type 0
IsDone (Retain h) = Unit {0}
IsDone (Release h) = Unit {0}
IsDone (SetParameter h name v) = Unit {0}
IsDone (UnsetParameter h name) = Unit {0}
IsDone (UnsetAll h) = Unit {0}
IsDone (Commit h) = Unit {0}
IsDone (RenderFrame h) = Unit {0}
IsDone (DiscardFrame h) = Unit {0}
IsDone call = ⊥

-- a reply that tells whether a frame is ready, or refuses to
abbrev pub IsReadiness : Reply → Type 0
IsReadiness reply.Ready = Unit {0}
IsReadiness (reply.NotReady given of) = Unit {0}
IsReadiness (reply.Denied refused) = Unit {0}
IsReadiness r = ⊥

-- what is told of a frame, as its reply
abbrev pub reply_of_ready : Ready → Reply
reply_of_ready ready.Yes = reply.Ready
reply_of_ready (ready.NotYet given of) = reply.NotReady given of

-- what a call whether a frame is ready hands out
abbrev pub told_ready : Reply → Result Ready Refused
told_ready reply.Ready = Ok ready.Yes
told_ready (reply.NotReady given of) = Ok (ready.NotYet given of)
told_ready (reply.Denied refused) = Err refused
told_ready r = Err NoMemory

abbrev pub ready_in : Result (Reply × Handed) (Refused × Call × Handed) → Result Ready Refused
ready_in (Ok r) = told_ready r.0
ready_in (Err e) = Err e.0

-- such a call was made with a pass, with this reply
abbrev pub HasMade : Call → Reply → DevicePass → DevicePass → Type 0
HasMade call r old new = HasCalled call handed.Nothing r handed.Nothing old new

-- it was refused, for this reason: it was not made, or it was made and this is its reply
abbrev pub IsRefused : Call → Refused → DevicePass → DevicePass → Type 0
IsRefused call e old new = HasDeclined call e old new ⊎ HasMade call (reply.Denied e) old new

-- it was refused so, or there was no memory for what it takes beside its entry (the work of others, the bytes of an array), and it was not made
abbrev pub WasRefused : Call → Refused → DevicePass → DevicePass → Type 0
WasRefused call e old new = IsRefused call e old new ⊎ ((e ≡ NoMemory) × (mine new ≡ mine old))
