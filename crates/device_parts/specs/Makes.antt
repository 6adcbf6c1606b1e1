-- What goes with a call of any kind and comes back of it, and what the call does.
use Rattle.std.specs.Prelude.{◌≡◌, ℕ, true, Option, Some, None, if◌then◌else◌}
use Rattle.answered_calls.specs.Tells.{with_given}
use Rattle.frame_future.specs.Future.{Future}
use Rattle.frame_future.specs.Mapped.{Mapped}
use Rattle.object_steps.specs.Applying.{tells_of_flights}
use Rattle.object_steps.specs.Carrying.{Brings}
use Rattle.object_steps.specs.declared.array_loans.ArrayLoan.{ArrayLoan}
use Rattle.object_steps.specs.declared.array_loans.ArrayLoan.TheVariants as loan
use Rattle.seq_model.specs.Told.{source_of}
use Rattle.seq_model.specs.declared.calls.Call.{Call}
use Rattle.seq_model.specs.declared.calls.Call.TheVariants.{MapFrame, RenderFrame, UnmapFrame}
use Rattle.seq_model.specs.declared.calls.Reply.{Reply}
use Rattle.seq_model.specs.declared.calls.Reply.TheVariants as reply
use Rattle.device_parts.specs.AllParts.{Inside}
use Rattle.device_parts.specs.Asks.{HasMappedOrStayed, HasRendered}
use Rattle.device_parts.specs.Calls.{AreMoved, move_of}
use Rattle.device_parts.specs.Looks.{given_of}
use Rattle.device_parts.specs.Maps.{is_refused, told_of}
use Rattle.device_parts.specs.declared.handed.Handed.{Handed}
use Rattle.device_parts.specs.declared.handed.Handed.TheVariants as handed

-- the loan of an array that goes along
abbrev pub array_of : Handed → ArrayLoan
array_of handed.Nothing = loan.Nothing
array_of (handed.Lent l) = loan.Lent l
array_of (handed.Param l) = loan.Param l
array_of (handed.Frame m) = loan.Nothing

-- the loan of a frame's channel that goes along
abbrev pub frame_of : Handed → Option Mapped
frame_of (handed.Frame m) = Some m
frame_of with = None

-- these loans together, of which there is one at most
abbrev pub joined : ArrayLoan → Option Mapped → Handed
joined loan.Nothing None = handed.Nothing
joined loan.Nothing (Some m) = handed.Frame m
joined (loan.Lent l) frame = handed.Lent l
joined (loan.Param l) frame = handed.Param l

-- the loan of a channel goes with its unmap alone, which may come without it
abbrev pub BringsFrame : Call → Option Mapped → Type 0
BringsFrame (UnmapFrame h number) (Some m) = (m.frame ≡ h) × (m.number ≡ number)
BringsFrame call (Some m) = ⊥
BringsFrame call None = Unit {0}

-- what may go with a call: the loan of an array with its unmap, that of a channel with its own, else nothing
abbrev pub Hands : Call → Handed → Type 0
Hands call with = Brings call (array_of with) × BringsFrame call (frame_of with)

-- the loan of a channel that comes back: that which a refused call brought
abbrev pub frame_left : Reply → Option Mapped → Option Mapped
frame_left (reply.Denied refused) brought = brought
frame_left r brought = None

-- a map may hand out the loan of a channel; of any other call only that comes back which it brought
abbrev pub LeavesFrame : Call → Reply → Option Mapped → Option Mapped → Type 0
LeavesFrame (MapFrame h channel) r brought out = Unit {0}
LeavesFrame call r brought out = out ≡ frame_left r brought

-- the reply to a call, with what the last look at its flight read where it may tell of one
abbrev pub told_as : Future → Call → Reply → Reply
told_as s call r = if tells_of_flights call then with_given (given_of s (source_of call)) r else r

-- what becomes of the flights and pictures by a call and its reply, with the loan of a channel that it hands out
abbrev pub IsMoved : Call → Reply → Option Mapped → Inside → Inside → Type 0
IsMoved (RenderFrame frame) r out old new = HasRendered frame r old new
IsMoved (MapFrame h channel) r out old new = HasMappedOrStayed h channel out old new
IsMoved call r out old new = AreMoved (move_of call r) old new

-- What a map of a channel hands out under a place: the loan of that frame and channel, of which the reply
-- tells; or nothing, where it is refused. No other call lends a channel
abbrev pub LendsChannel : ℕ → Call → Reply → Option Mapped → Type 0
LendsChannel place (MapFrame h channel) r (Some loan) =
    (r ≡ told_of loan) × (loan.frame ≡ h) × (loan.channel ≡ channel) × (loan.number ≡ place)
LendsChannel place (MapFrame h channel) r None = is_refused r ≡ true
LendsChannel place call r out = Unit {0}

-- how many flights a call begins by its reply
abbrev pub begun_by : Call → Reply → ℕ
begun_by (RenderFrame frame) reply.Done = 1
begun_by call r = 0
