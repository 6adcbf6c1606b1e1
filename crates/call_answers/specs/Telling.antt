-- What a device tells of itself, as replies.
use Rattle.std.specs.Prelude.{◌≡◌, ◌⊎◌, ℕ, zero, suc, List, [], Option, Some, Result, IfErr, IfOk}
use Rattle.dev_types.specs.declared.refusals.Refused.{Refused}
use Rattle.dev_types.specs.declared.refusals.Refused.TheVariants.{NoMemory}
use Rattle.seq_model.specs.Answers.{answer}
use Rattle.seq_model.specs.Refusals.{own}
use Rattle.seq_model.specs.Steps.{Past}
use Rattle.seq_model.specs.declared.calls.Call.{Call}
use Rattle.seq_model.specs.declared.calls.Reply.{Reply}
use Rattle.seq_model.specs.declared.calls.Reply.TheVariants.{Denied}

-- why the object with a handle is not asked at all; handle 0 stands for the device
abbrev pub first_refusals : Past → ℕ → List (Option Refused)
first_refusals past zero = []
first_refusals past (suc h) = own past (suc h)

-- what was told is the reply
abbrev pub IsTold : Past → Call → Result Reply Refused → Type 0
IsTold past call told = IfOk told (λ r. answer past call ≡ Some r)

-- what was not told is refused in the reply, or memory was wanting
abbrev pub IsUntold : Past → Call → Result Reply Refused → Type 0
IsUntold past call told = IfErr told (λ refused. (refused ≡ NoMemory) ⊎ (answer past call ≡ Some (Denied refused)))

-- the reply of what was told, or of a refusal; want of memory is no reply
abbrev pub IsReplyOf : Result Reply Refused → Reply → Type 0
IsReplyOf (Result.Ok r) reply = reply ≡ r
IsReplyOf (Result.Err refused) reply = (reply ≡ Denied refused) × (refused ≡ NoMemory → ⊥)
