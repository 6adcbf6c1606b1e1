-- What one hold of the turn adds to the history.
use Rattle.std.specs.Prelude.{◌≡◌, ℕ, ◌+◌, [], ◌∷◌, ◌++◌, Some, length, if◌then◌else◌}
use Rattle.std.specs.Option.{option_map}
use Rattle.answered_calls.specs.Tells.{with_given}
use Rattle.dev_types.specs.declared.refusals.Refused.{Refused}
use Rattle.dev_types.specs.declared.refusals.Refused.TheVariants.{JournalFull, NoMemory}
use Rattle.device_parts.specs.Makes.{LeavesFrame, LendsChannel, array_of, frame_of}
use Rattle.device_parts.specs.declared.handed.Handed.{Handed}
use Rattle.object_steps.specs.Applying.{tells_of_flights}
use Rattle.object_steps.specs.Carrying.{handed}
use Rattle.seq_model.specs.Answers.{answer}
use Rattle.seq_model.specs.Contents.{entered}
use Rattle.seq_model.specs.Histories.{History, caller_of}
use Rattle.seq_model.specs.Room.{is_full}
use Rattle.seq_model.specs.Steps.{after}
use Rattle.seq_model.specs.declared.calls.Call.{Call}
use Rattle.seq_model.specs.declared.calls.Entry.TheVariants.{Called}
use Rattle.seq_model.specs.declared.calls.Reply.{Reply}
use Rattle.turn_lock.specs.Histories.{callers}

-- nobody called these entries
abbrev pub AreNotes : History → Type 0
AreNotes notes = callers caller_of notes ≡ []

-- the reply to a call that may tell of a flight tells of so many tiles given
abbrev pub told_with : ℕ → Call → Reply → Reply
told_with given call r = if tells_of_flights call then with_given given r else r

-- What a call is answered behind a history, and what goes out with it: the reply of the definitions, which may
-- tell of any number of tiles given; the loan of a map of an array or a parameter; the loan of a map of a channel,
-- of which the reply tells; and that of an unmap which is refused comes back
pub record IsReplied (call : Call) (with : Handed) (r : Reply) (out : Handed) (before : History) : Type 0 where
  pub given : ℕ
  pub answered : option_map (told_with given call) (answer (after before) (entered (after before) call)) ≡ Some r
  pub array : array_of out ≡ handed (length before + 1) (entered (after before) call) r (after before).state (array_of with)
  pub frame : LeavesFrame call r (frame_of with) (frame_of out)
  pub lends : LendsChannel (length before + 1) (entered (after before) call) r (frame_of out)

-- the call alone was added, between notes
pub record AddsCall (actor : ℕ) (call : Call) (with : Handed) (r : Reply) (out : Handed) (old new : History) : Type 0 where
  pub first : History
  pub last : History
  pub noted_first : AreNotes first
  pub noted_last : AreNotes last
  pub is : new ≡ old ++ (first ++ Called actor (entered (after (old ++ first)) call) r ∷ last)
  pub reply : IsReplied call with r out (old ++ first)

-- notes alone were added
abbrev pub AddsNotes : History → History → Type 0
AddsNotes old new = (notes : History) × (new ≡ old ++ notes) × AreNotes notes

-- why a call was not made behind a history: the journal of this length is full, or else there was no memory
abbrev pub IsCause : Refused → ℕ → History → Call → Type 0
IsCause e limit history call = e ≡ (if is_full limit (after history) call then JournalFull limit else NoMemory)
