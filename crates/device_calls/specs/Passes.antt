-- What a call does to the pass with which it is made.
use Rattle.std.specs.Prelude.{◌≡◌, ℕ, ◌+◌, List, [], ◌∷◌, ◌++◌, length}
use Rattle.std.specs.Option.{option_map_or}
use Rattle.dev_types.specs.declared.notices.Notice.{Notice}
use Rattle.dev_types.specs.declared.refusals.Refused.{Refused}
use Rattle.device_calls.specs.Holds.{AreNotes, IsCause, IsReplied}
use Rattle.device_calls.specs.Sharing.{Given}
use Rattle.device_parts.specs.declared.handed.Handed.{Handed}
use Rattle.seq_model.specs.Contents.{entered}
use Rattle.seq_model.specs.Histories.{History}
use Rattle.seq_model.specs.Legal.{Legal}
use Rattle.seq_model.specs.Steps.{after}
use Rattle.seq_model.specs.declared.calls.Call.{Call}
use Rattle.seq_model.specs.declared.calls.Entry.{Entry}
use Rattle.seq_model.specs.declared.calls.Entry.TheVariants.{Called}
use Rattle.seq_model.specs.declared.calls.Reply.{Reply}
use Rattle.turn_lock.specs.Histories.{Extends}
use Rattle.turn_lock.specs.Passes.{caller_number, fixed, mine, seen, share}
use Rattle.turn_lock.specs.declared.pass.Pass.{Pass}

-- a pass of a device
abbrev pub DevicePass : Type 0
DevicePass = Pass Entry Given

-- the length of the journal of the pass's device
abbrev pub limit_of : DevicePass → ℕ
limit_of p = option_map_or (λ f. f.limit) (fixed p) 0

-- what the client of the pass's device was told before it began
abbrev pub notices_of : DevicePass → List Notice
notices_of p = option_map_or (λ f. f.notices) (fixed p) []

-- The pass keeps its caller number, its share and what it knows of the device, and has seen more of the history,
-- which is legal
pub record Sees (old new : DevicePass) : Type 0 where
  pub caller : caller_number new ≡ caller_number old
  pub share : share new ≡ share old
  pub fixed : fixed new ≡ fixed old
  pub later : Extends (seen old) (seen new)
  pub legal : Legal (seen new)

-- A call was made with the pass: it stands in what the pass has seen, with its caller number and this reply, and notes
-- alone stand behind it; its place is the last of the pass's own
pub record HasCalled (call : Call) (with : Handed) (r : Reply) (out : Handed) (old new : DevicePass) : Type 0 where
  pub before : History
  pub notes : History
  pub later : Extends (seen old) before
  pub is : seen new ≡ before ++ Called (caller_number old) (entered (after before) call) r ∷ notes
  pub are_notes : AreNotes notes
  pub place : mine new ≡ mine old ++ (length before + 1) ∷ []
  pub reply : IsReplied call with r out before

-- no call was made with the pass
pub record HasDeclined (call : Call) (e : Refused) (old new : DevicePass) : Type 0 where
  pub same : mine new ≡ mine old
  pub cause : IsCause e (limit_of old) (seen new) call
