-- Loans of arrays, as a replay holds them.
use Rattle.std.specs.Prelude.{◌≡◌, ◌*◌, ◌≤◌, IsTrue, Option}
use Rattle.std.specs.Option.{option_map_or}
use Rattle.array_objects.specs.Loans.{Loan}
use Rattle.dev_types.specs.DataTypes.{byte_size, is_element_type}
use Rattle.device_parts.specs.declared.handed.Handed.{Handed}
use Rattle.device_parts.specs.declared.handed.Handed.TheVariants as handed
use Rattle.kind_tables.specs.SceneObjects.{Block}
use Rattle.object_steps.specs.ParameterLoans.{zero_elements}
use Rattle.object_steps.specs.declared.array_loans.ArrayLoan.{ArrayLoan}
use Rattle.object_steps.specs.declared.array_loans.ArrayLoan.TheVariants as loan
use Rattle.replay_core.specs.Labels.{Meaning}
use Rattle.scene_read.specs.Reading.{lent}
use Rattle.seq_model.specs.Refusals.{most_bytes}
use Rattle.seq_model.specs.declared.calls.Reply.{Reply}
use Rattle.seq_model.specs.declared.calls.Reply.TheVariants as reply
use Rattle.trace_text.specs.declared.calls.TraceCall.{TraceCall}
use Rattle.trace_text.specs.declared.calls.TraceCall.TheVariants.{WithArray, WithParam}

-- a loan with this content
abbrev pub holding : Block → Loan → Loan
holding content l = record l { elements = lent content }

-- the loan of an array that is handed out with the reply to a call of a trace, by the content that was mapped
abbrev pub loan_by : Option Block → Meaning → TraceCall → Reply → ArrayLoan
loan_by content meaning (WithArray array write) (reply.Lent number) =
    option_map_or (λ b. loan.Lent (record { array = meaning array; number = number; elements = lent b })) content loan.Nothing
loan_by content meaning (WithParam object name elem count write) (reply.Lent number) =
    loan.Param (record { object = meaning object; name = name; number = number; elements = zero_elements elem count })
loan_by content meaning c r = loan.Nothing

-- a loan for a parameter is as it was granted: of elements that arrays may have, no more than they may have, and all zero
abbrev pub IsBlank : TraceCall → Handed → Type 0
IsBlank (WithParam object name elem count write) (handed.Param l) =
    IsTrue (is_element_type elem) × (count * byte_size elem ≤ most_bytes) × (l.elements ≡ zero_elements elem count)
IsBlank c out = Unit {0}
