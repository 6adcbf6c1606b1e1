-- How many calls a trace has, and how many loans.
use Rattle.std.specs.Prelude.{ℕ, Bool, true, false, not, count_by}
use Rattle.std.specs.List.{sum_by}
use Rattle.trace_text.specs.declared.calls.Trace.{Trace}
use Rattle.trace_text.specs.declared.calls.Phase.{Phase}
use Rattle.trace_text.specs.declared.calls.Caller.{Caller}
use Rattle.trace_text.specs.declared.calls.TraceCall.{TraceCall}
use Rattle.trace_text.specs.declared.calls.TraceCall.TheVariants.{EndLoan}

-- the end of a loan, which is no call of its own in the text
abbrev pub is_end : TraceCall → Bool
is_end EndLoan = true
is_end _ = false

-- how many calls of a caller are of a sort, how many of a phase, how many of a trace
abbrev pub count_of_caller : (TraceCall → Bool) → Caller → ℕ
count_of_caller sort caller = count_by sort caller.calls

abbrev pub count_of_phase : (TraceCall → Bool) → Phase → ℕ
count_of_phase sort phase = sum_by (count_of_caller sort) phase.callers

abbrev pub count_of_trace : (TraceCall → Bool) → Trace → ℕ
count_of_trace sort trace = sum_by (count_of_phase sort) trace.phases

-- how many calls a trace has, and how many loans of it end
abbrev pub calls_in : Trace → ℕ
calls_in trace = count_of_trace (λ c. not (is_end c)) trace

abbrev pub ends_in : Trace → ℕ
ends_in trace = count_of_trace is_end trace
