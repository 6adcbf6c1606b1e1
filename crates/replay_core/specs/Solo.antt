-- The history of a trace on one thread: phase after phase, the first caller that has a call left makes it, and a flight that is asked for is
-- finished first.
use Rattle.std.specs.Prelude.{ℕ, List, [], ◌∷◌, ◌++◌, Option, Some, None, fold, if◌then◌else◌}
use Rattle.std.specs.List.{enumerate_from}
use Rattle.std.specs.Option.{option_map_or}
use Rattle.seq_model.specs.Endings.{ended, reply_to}
use Rattle.replay_core.specs.Labels.{Meaning, binding_of, call_of, handle_of}
use Rattle.replay_core.specs.Loans.{opens, unmap_of}
use Rattle.replay_core.specs.declared.bindings.Binding.{Binding}
use Rattle.seq_model.specs.Contents.{entered}
use Rattle.seq_model.specs.Histories.{History}
use Rattle.seq_model.specs.Steps.{Past, start}
use Rattle.seq_model.specs.declared.calls.Call.{Call}
use Rattle.seq_model.specs.declared.calls.Reply.{Reply}
use Rattle.solo_device.specs.OneThread.{ready_for, with_call}
use Rattle.trace_text.specs.declared.calls.Caller.{Caller}
use Rattle.trace_text.specs.declared.calls.Phase.{Phase}
use Rattle.trace_text.specs.declared.calls.Trace.{Trace}
use Rattle.trace_text.specs.declared.calls.TraceCall.{TraceCall}
use Rattle.trace_text.specs.declared.calls.TraceCall.TheVariants.{EndLoan}

-- where a replay stands: what happened, what the labels of creations were bound to, and the loans that are open, the innermost first, each
-- with the unmap that ends it where it was granted
pub record Replay : Type 0 where
  pub past : Past
  pub bound : List Binding
  pub loans : List (Option Call)

-- a replay with what the reply to a call of the trace gives: a binding, and the unmap of a loan
abbrev pub with_reply : ℕ → ℕ → TraceCall → Option Call → Reply → Replay → Replay
with_reply phase caller c unmap answered r = record {
  past = r.past;
  bound = r.bound ++ binding_of phase caller c answered;
  loans = if opens c then unmap ∷ r.loans else r.loans;
}

-- the innermost loan is ended by its unmap, where it was granted
abbrev pub unmapped : ℕ → Replay → List (Option Call) → Replay
unmapped caller r [] = r
unmapped caller r (None ∷ loans) = record r { loans = loans }
unmapped caller r (Some unmap ∷ loans) = record { past = with_call caller (entered r.past unmap) r.past; bound = r.bound; loans = loans }

-- a call is made after the flight that it asks for is finished
abbrev pub made : ℕ → ℕ → TraceCall → Meaning → Call → Replay → Replay
made phase caller c meaning call r =
    let past = ready_for r.past call in
    with_reply phase caller c (unmap_of past meaning c (reply_to past call)) (reply_to past call) (record r { past = with_call caller call past })

-- one call of a trace
unfoldable pub replayed : ℕ → ℕ → Replay → TraceCall → Replay
replayed phase caller r EndLoan = unmapped caller r r.loans
replayed phase caller r c =
    let meaning = handle_of r.bound phase caller in
    option_map_or (λ call. made phase caller c meaning call r) (call_of meaning c) r

-- all calls of a caller, of all callers of a phase, of all phases
abbrev pub caller_replayed : ℕ → Replay → ℕ × Caller → Replay
caller_replayed phase r caller = fold (replayed phase caller.0) (record r { loans = [] }) caller.1.calls

abbrev pub phase_replayed : Replay → ℕ × Phase → Replay
phase_replayed r phase = fold (caller_replayed phase.0) r (enumerate_from 0 phase.1.callers)

abbrev pub trace_replayed : Trace → Replay
trace_replayed trace = fold phase_replayed (record { past = start; bound = []; loans = [] }) (enumerate_from 0 trace.phases)

-- the history of a trace on one thread
unfoldable pub solo : Trace → History
solo trace = (ended (trace_replayed trace).past).seen
