-- Loans that calls hand out, and that come back of calls that would end them.
use Rattle.std.specs.Prelude.{◌≡◌, ◌⊎◌, Option, None, Some}
use Rattle.array_objects.specs.Loans.{Loan}
use Rattle.dev_types.specs.declared.refusals.Refused.{Refused}
use Rattle.dev_types.specs.declared.refusals.Refused.TheVariants.{NoMemory}
use Rattle.device_parts.specs.declared.handed.Handed.{Handed}
use Rattle.device_parts.specs.declared.handed.Handed.TheVariants as handed
use Rattle.object_steps.specs.ParameterLoans.{ParameterLoan}
use Rattle.seq_model.specs.declared.calls.Call.{Call}
use Rattle.seq_model.specs.declared.calls.Reply.{Reply}
use Rattle.seq_model.specs.declared.calls.Reply.TheVariants as reply
use Rattle.turn_lock.specs.Passes.{mine}
use Rattle.device_calls.specs.Passes.{DevicePass, HasCalled, HasDeclined}

-- the loan of an array, if this is one
abbrev pub lent_of : Handed → Option Loan
lent_of (handed.Lent l) = Some l
lent_of out = None

-- the loan of an array for a parameter, if this is one
abbrev pub param_of : Handed → Option ParameterLoan
param_of (handed.Param l) = Some l
param_of out = None

-- an array was made
abbrev pub IsMade : Reply → Type 0
IsMade (reply.Made k) = Unit {0}
IsMade r = ⊥

-- A call that ends a loan was refused, for this reason: it was not made; or it was made, this is its reply, and the
-- loan stands as it was; or there was no memory for the loan's bytes once more, and it was not made
abbrev pub IsBack : Call → Handed → Refused → DevicePass → DevicePass → Type 0
IsBack call with e old new =
    HasDeclined call e old new ⊎ (HasCalled call with (reply.Denied e) with old new ⊎ ((e ≡ NoMemory) × (mine new ≡ mine old)))
