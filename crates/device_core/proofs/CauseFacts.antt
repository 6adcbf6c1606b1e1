-- Why a call is declined.
use Rattle.std.proofs.Common.{◌≡◌, ◌∙◌, ◌<◌, Bool, true, false, cond, ap, arith, refl}
use Rattle.dev_types.specs.declared.refusals.Refused.{Refused}
use Rattle.dev_types.specs.declared.refusals.Refused.TheVariants.{JournalFull, NoMemory}
use Rattle.call_answers.specs.Plain.{needs_no_memory}
use Rattle.seq_model.specs.Room.{is_full}
use Rattle.seq_model.specs.Steps.{after}
use Rattle.seq_model.specs.declared.calls.Call.{Call}
use Rattle.device_core.specs.States.{Device, spare_calls}
use Rattle.device_core.specs.Stepping.{HasDeclined}

-- a call that needs no memory is declined for a full journal alone, where memory was taken ahead for it
pub full_alone : (call : Call) (e : Refused) (old new : Device) → HasDeclined call e old new → needs_no_memory call ≡ true → 0 < spare_calls old → e ≡ JournalFull old.limit
full_alone call e old new d needs some = by (is_full d.settled.limit (after d.settled.parts.history) call) refl
  where
    by : (b : Bool) → is_full d.settled.limit (after d.settled.parts.history) call ≡ b → e ≡ JournalFull old.limit
    by true full = d.declines.cause ∙ ap (λ b. cond b (JournalFull d.settled.limit) NoMemory) full ∙ ap JournalFull d.first.limit
    by false free = absurd (let none = d.declines.needs free needs in let more = d.first.spare in omega (arith, some, none, more))
