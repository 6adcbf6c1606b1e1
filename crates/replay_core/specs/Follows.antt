-- Which histories follow a trace. A history falls into parts, one for each phase of the trace: in a part each caller of the phase makes its
-- calls, each of them once and in their order, with the labels replaced. Entries that are no calls may stand anywhere, and the close is last.
use Rattle.std.specs.Prelude.{◌≡◌, ℕ, ◌+◌, ◌<◌, List, [], ◌∷◌, ◌++◌, All, Option, Some, None, fold, length}
use Rattle.std.specs.List.{last_or}
use Rattle.std.specs.Option.{IfSome}
use Rattle.replay_core.specs.Labels.{Meaning, binding_of, call_of, handle_of}
use Rattle.replay_core.specs.Loans.{loans_after}
use Rattle.replay_core.specs.declared.bindings.Binding.{Binding}
use Rattle.seq_model.specs.Contents.{entered}
use Rattle.seq_model.specs.Histories.{History, caller_of, entries_of}
use Rattle.seq_model.specs.Steps.{Past, start, step}
use Rattle.seq_model.specs.declared.calls.Call.{Call}
use Rattle.seq_model.specs.declared.calls.Entry.TheVariants.{Called, Closed}
use Rattle.seq_model.specs.declared.calls.Reply.{Reply}
use Rattle.trace_text.specs.declared.calls.Caller.{Caller}
use Rattle.trace_text.specs.declared.calls.Phase.{Phase}
use Rattle.trace_text.specs.declared.calls.Trace.{Trace}
use Rattle.trace_text.specs.declared.calls.TraceCall.{TraceCall}
use Rattle.trace_text.specs.declared.calls.TraceCall.TheVariants.{EndLoan}

-- what more entries make of a past
abbrev pub gone_on : Past → History → Past
gone_on past history = fold step past history

-- the next call of a caller in a history that goes on after a past: it stands behind entries of which none is a call of this caller, and is the one
-- that is asked for there
pub record CallsNext (caller : ℕ) (past : Past) (asked : Past → Option Call) (history : History) : Type 0 where
  pub others : History
  pub call : Call
  pub reply : Reply
  pub rest : History
  pub stands : history ≡ others ++ Called caller call reply ∷ rest
  pub alone : entries_of caller others ≡ []
  pub fits : asked (gone_on past others) ≡ Some call

-- the past before the call, and the one after it
abbrev pub before_call : {caller : ℕ} {past : Past} {asked : Past → Option Call} {history : History} → CallsNext caller past asked history → Past
before_call {past} next = gone_on past next.others

abbrev pub after_call : {caller : ℕ} {past : Past} {asked : Past → Option Call} {history : History} → CallsNext caller past asked history → Past
after_call {caller} {past} next = step (gone_on past next.others) (Called caller next.call next.reply)

-- a caller of a phase, and what was bound in the phases before it
pub record PhaseCaller : Type 0 where
  pub phase : ℕ
  pub number : ℕ
  pub known : List Binding

-- what labels mean to it: it knows what was bound in earlier phases, and what it bound itself
abbrev pub meaning_to : PhaseCaller → List Binding → Meaning
meaning_to caller own = handle_of (caller.known ++ own) caller.phase caller.number

-- A caller makes these calls, and no others, in a history that goes on after a past. Its loans are open, the innermost first, each with its unmap
-- where it was granted; one that was refused has no end to be called. It bound `own` before, and with these calls `bound`
unfoldable pub Makes : PhaseCaller → Past → List TraceCall → List (Option Call) → List Binding → History → List Binding → Type 0
Makes caller past [] loans own history bound = (entries_of caller.number history ≡ []) × (bound ≡ own)
Makes caller past (EndLoan ∷ calls) [] own history bound = Makes caller past calls [] own history bound
Makes caller past (EndLoan ∷ calls) (None ∷ loans) own history bound = Makes caller past calls loans own history bound
Makes caller past (EndLoan ∷ calls) (Some unmap ∷ loans) own history bound =
    (next : CallsNext caller.number past (λ now. Some (entered now unmap)) history) ×
    Makes caller (after_call next) calls loans own next.rest bound
Makes caller past (c ∷ calls) loans own history bound =
    (next : CallsNext caller.number past (λ now. call_of (meaning_to caller own) c) history) ×
    Makes caller (after_call next) calls (loans_after (before_call next) (meaning_to caller own) c next.reply loans)
    (own ++ binding_of caller.phase caller.number c next.reply) next.rest bound

-- the callers of a phase, of which the first has this number, make their calls in one history, and bind these labels, in the callers' order
unfoldable pub EachMakes : ℕ → List Binding → Past → History → ℕ → List Caller → List Binding → Type 0
EachMakes phase known past history number [] bound = bound ≡ []
EachMakes phase known past history number (caller ∷ callers) bound =
    (own : List Binding) × (others : List Binding) × (bound ≡ own ++ others) ×
    Makes (record { phase = phase; number = number; known = known }) past caller.calls [] [] history own ×
    EachMakes phase known past history (number + 1) callers others

-- each call of a history is one of the first callers
abbrev pub AreOfFirst : ℕ → History → Type 0
AreOfFirst count history = All (λ e. IfSome (caller_of e) (λ caller. caller < count)) history

-- a history begins with the part of a phase, in which its callers make their calls, and nobody else makes any
pub record BeginsWith (phase : ℕ) (known : List Binding) (past : Past) (callers : List Caller) (history : History) : Type 0 where
  pub part : History
  pub rest : History
  pub bound : List Binding
  pub is : history ≡ part ++ rest
  pub makes : EachMakes phase known past part 0 callers bound
  pub alone : AreOfFirst (length callers) part

-- a history goes through the phases, of which the first has this number; what a phase bound is known after it, and after the last one nobody calls
unfoldable pub GoesThrough : ℕ → List Binding → Past → List Phase → History → Type 0
GoesThrough number known past [] history = AreOfFirst 0 history
GoesThrough number known past (phase ∷ phases) history =
    (begins : BeginsWith number known past phase.callers history) ×
    GoesThrough (number + 1) (known ++ begins.bound) (gone_on past begins.part) phases begins.rest

-- a history follows a trace, to its end
unfoldable pub Follows : Trace → History → Type 0
Follows trace history = GoesThrough 0 [] start trace.phases history × (last_or None history ≡ Some Closed)
