-- What a call of the application does to a device.
use Rattle.std.specs.Prelude.{◌≡◌, ◌≤◌, ℕ, ◌+◌, false, true, Some, length, if◌then◌else◌}
use Rattle.std.specs.Option.{option_map}
use Rattle.dev_types.specs.declared.refusals.Refused.{Refused}
use Rattle.dev_types.specs.declared.refusals.Refused.TheVariants.{JournalFull, NoMemory}
use Rattle.call_answers.specs.Plain.{needs_no_memory}
use Rattle.object_steps.specs.Carrying.{handed}
use Rattle.seq_model.specs.Answers.{answer}
use Rattle.seq_model.specs.Contents.{entered}
use Rattle.seq_model.specs.Room.{is_full}
use Rattle.seq_model.specs.Steps.{Past, after}
use Rattle.seq_model.specs.declared.calls.Call.{Call}
use Rattle.seq_model.specs.declared.calls.Call.TheVariants.{FrameReady}
use Rattle.seq_model.specs.declared.calls.Reply.{Reply}
use Rattle.device_parts.specs.AllParts.{Inside}
use Rattle.device_parts.specs.Calls.{HasEntered, HasRoomMade}
use Rattle.device_parts.specs.Deaths.{all_told}
use Rattle.device_parts.specs.Looks.{AreShort}
use Rattle.device_parts.specs.Makes.{IsMoved, LeavesFrame, LendsChannel, array_of, frame_of, told_as}
use Rattle.device_parts.specs.Uses.{NothingGoneIsUsed}
use Rattle.device_parts.specs.Waits.{is_waited_for}
use Rattle.device_parts.specs.declared.handed.Handed.{Handed}
use Rattle.device_core.specs.States.{Device, spare_calls}
use Rattle.device_core.specs.Sweeping.{Sweeps, TellsOn}

-- the call does not wait for a frame that is in flight and that the application holds
abbrev pub IsAwake : Past → Call → Type 0
IsAwake past (FrameReady h true) = is_waited_for past h ≡ false
IsAwake past call = Unit {0}

-- A call was made. The journal had a place for it and for what it owes; it was entered alone, with the reply
-- of the definitions, which tells of a flight what the last look at it read; it did what its reply says to
-- the flights and pictures; the loan of a map is handed out, and that of an unmap which is refused comes back;
-- the client was told; and there is memory for one call less at most
pub record HasMade (actor : ℕ) (call : Call) (with : Handed) (r : Reply) (out : Handed) (old new : Device) : Type 0 where
  pub place : is_full old.limit (after old.parts.history) call ≡ false
  pub made : Inside
  pub enters : HasEntered actor (entered (after old.parts.history) call) r old.parts made
  pub answered : option_map (told_as old.parts.flights.future call)
      (answer (after old.parts.history) (entered (after old.parts.history) call)) ≡ Some r
  pub moved : IsMoved (entered (after old.parts.history) call) r (frame_of out) old.parts made
  pub array : array_of out
      ≡ handed (length old.parts.history + 1) (entered (after old.parts.history) call) r (after old.parts.history).state (array_of with)
  pub frame : LeavesFrame call r (frame_of with) (frame_of out)
  pub lends : LendsChannel (length old.parts.history + 1) (entered (after old.parts.history) call) r (frame_of out)
  pub parts : new.parts ≡ all_told made
  pub told : TellsOn old new
  pub spare : spare_calls old ≤ spare_calls new + 1
  pub limit : new.limit ≡ old.limit
  pub ending : new.ending ≡ old.ending

-- one call is a sweep, the call alone, and another sweep; nothing that is gone was used after any of the three
pub record HasStepped (actor : ℕ) (call : Call) (with : Handed) (r : Reply) (out : Handed) (old new : Device) : Type 0 where
  pub settled : Device
  pub called : Device
  pub first : Sweeps old settled
  pub makes : HasMade actor call with r out settled called
  pub second : Sweeps called new
  pub unused_first : NothingGoneIsUsed settled.parts
  pub unused_then : NothingGoneIsUsed called.parts
  pub unused_last : NothingGoneIsUsed new.parts
  pub short : AreShort new.parts.flights.future

-- a call was not made: the journal was full, or else there was no memory; nothing changed but for the room.
-- It was not for want of memory where the call needs none and there was memory for a call
pub record Declines (call : Call) (e : Refused) (old new : Device) : Type 0 where
  pub cause : e ≡ (if is_full old.limit (after old.parts.history) call then JournalFull old.limit else NoMemory)
  pub parts : HasRoomMade old.parts new.parts
  pub told : new.told ≡ old.told
  pub spare : old.spare ≤ new.spare
  pub needs : is_full old.limit (after old.parts.history) call ≡ false → needs_no_memory call ≡ true → spare_calls old ≡ 0
  pub limit : new.limit ≡ old.limit
  pub ending : new.ending ≡ old.ending

-- after one sweep
pub record HasDeclined (call : Call) (e : Refused) (old new : Device) : Type 0 where
  pub settled : Device
  pub first : Sweeps old settled
  pub declines : Declines call e settled new
