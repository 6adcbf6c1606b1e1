-- How many places of a journal the calls of a trace take, on one thread or on many.
use Rattle.std.specs.Prelude.{ℕ, ◌≡◌, true, Option, IfSome, if◌then◌else◌}
use Rattle.std.specs.List.{sum_by}
use Rattle.replay_core.specs.Loans.{is_unmap}
use Rattle.seq_model.specs.declared.calls.Call.{Call}
use Rattle.trace_text.specs.Counts.{is_end}
use Rattle.trace_text.specs.declared.calls.Caller.{Caller}
use Rattle.trace_text.specs.declared.calls.Phase.{Phase}
use Rattle.trace_text.specs.declared.calls.Trace.{Trace}
use Rattle.trace_text.specs.declared.calls.TraceCall.{TraceCall}

-- the most places that a call of a trace takes: its own, and that of what it may owe; the end of a loan makes at most an unmap, which owes nothing
abbrev pub places_of_call : TraceCall → ℕ
places_of_call c = if is_end c then 1 else 2

-- the most places that the calls of a caller take, of a phase, of a trace
abbrev pub places_of_caller : Caller → ℕ
places_of_caller caller = sum_by places_of_call caller.calls

abbrev pub places_of_phase : Phase → ℕ
places_of_phase phase = sum_by places_of_caller phase.callers

abbrev pub places_of_trace : Trace → ℕ
places_of_trace trace = sum_by places_of_phase trace.phases

-- a loan that was granted is ended by an unmap
abbrev pub EndsLoan : Option Call → Type 0
EndsLoan loan = IfSome loan (λ unmap. is_unmap unmap ≡ true)
