-- What the threads of a phase did: at which places of what was seen a caller's calls stand, and that these are the calls of the trace.
use Rattle.std.specs.Prelude.{◌≡◌, ◌⊎◌, ℕ, ◌+◌, ◌<◌, ◌≤◌, List, [], ◌∷◌, ◌++◌, Any, Option, Some, None, length}
use Rattle.dev_types.specs.Counting.{times}
use Rattle.replay_core.specs.Follows.{GoesThrough, PhaseCaller, meaning_to}
use Rattle.replay_core.specs.Labels.{binding_of, call_of}
use Rattle.replay_core.specs.Loans.{loans_after}
use Rattle.replay_core.specs.declared.bindings.Binding.{Binding}
use Rattle.seq_model.specs.Contents.{entered}
use Rattle.seq_model.specs.Histories.{History, caller_of}
use Rattle.seq_model.specs.Steps.{Past, after, start}
use Rattle.seq_model.specs.declared.calls.Call.{Call}
use Rattle.seq_model.specs.declared.calls.Entry.TheVariants.{Called}
use Rattle.seq_model.specs.declared.calls.Reply.{Reply}
use Rattle.trace_text.specs.declared.calls.Caller.{Caller}
use Rattle.trace_text.specs.declared.calls.Phase.{Phase}
use Rattle.trace_text.specs.declared.calls.TraceCall.{TraceCall}
use Rattle.trace_text.specs.declared.calls.TraceCall.TheVariants.{EndLoan}
use Rattle.turn_lock.specs.Histories.{AreRising, Extends, places}
use Rattle.turn_lock.specs.Views.{parts_at}
use Rattle.turn_lock.specs.declared.view.Share.{Share}

-- the place stands in the list
abbrev pub Has : ℕ → List ℕ → Type 0
Has p xs = 0 < times p xs

-- at the first of these places of a history stands a call of a caller, which is the one that is asked for there
pub record CallsAt (caller : ℕ) (history : History) (asked : Past → Option Call) (at : List ℕ) : Type 0 where
  pub before : History
  pub call : Call
  pub reply : Reply
  pub later : History
  pub rest : List ℕ
  pub stands : history ≡ before ++ Called caller call reply ∷ later
  pub place : at ≡ (length before + 1) ∷ rest
  pub fits : asked (after before) ≡ Some call

-- a caller makes these calls at these places of a history, as in `Makes`
unfoldable pub MakesAt : PhaseCaller → History → List TraceCall → List (Option Call) → List Binding → List ℕ → List Binding → Type 0
MakesAt caller history [] loans own at bound = (at ≡ []) × (bound ≡ own)
MakesAt caller history (EndLoan ∷ calls) [] own at bound = MakesAt caller history calls [] own at bound
MakesAt caller history (EndLoan ∷ calls) (None ∷ loans) own at bound = MakesAt caller history calls loans own at bound
MakesAt caller history (EndLoan ∷ calls) (Some unmap ∷ loans) own at bound =
    (next : CallsAt caller.number history (λ now. Some (entered now unmap)) at) ×
    MakesAt caller history calls loans own next.rest bound
MakesAt caller history (c ∷ calls) loans own at bound =
    (next : CallsAt caller.number history (λ now. call_of (meaning_to caller own) c) at) ×
    MakesAt caller history calls (loans_after (after next.before) (meaning_to caller own) c next.reply loans)
    (own ++ binding_of caller.phase caller.number c next.reply) next.rest bound

-- A caller made its calls, from one view of its pass to another, and bound these labels: in whatever is seen later, they stand at the same places
pub record RanCaller (caller : PhaseCaller) (calls : List TraceCall) (seen : History) (mine : List ℕ) (seen' : History) (mine' : List ℕ) (bound : List Binding) : Type 0 where
  pub at : List ℕ
  pub mine_is : mine' ≡ mine ++ at
  pub rising : AreRising (length seen) (length seen') at
  pub makes : (history : History) → Extends seen' history → MakesAt caller history calls [] [] at bound

-- a caller made the first of its calls: where it makes those that are left, with these loans and labels, it makes all
pub record RunsCaller (caller : PhaseCaller) (calls left : List TraceCall) (seen : History) (mine : List ℕ) (seen' : History) (mine' : List ℕ) (loans : List (Option Call)) (own : List Binding) : Type 0 where
  pub at : List ℕ
  pub mine_is : mine' ≡ mine ++ at
  pub rising : AreRising (length seen) (length seen') at
  pub leads : (history : History) → Extends seen' history → (more : List ℕ) (bound : List Binding)
      → MakesAt caller history left loans own more bound → MakesAt caller history calls [] [] (at ++ more) bound

-- the callers of a phase, of which the first has this number, make their calls in a history, each at places of its own, which rise from `low` to
-- `high`; together they bind these labels
unfoldable pub EachMakesAt : ℕ → List Binding → History → ℕ → ℕ → ℕ → List Caller → List (List ℕ) → List Binding → Type 0
EachMakesAt phase known history low high number [] each bound = (each ≡ []) × (bound ≡ [])
EachMakesAt phase known history low high number (caller ∷ callers) each bound =
    (at : List ℕ) × (rest : List (List ℕ)) × (own : List Binding) × (others : List Binding) × (each ≡ at ∷ rest) × (bound ≡ own ++ others) ×
    AreRising low high at ×
    MakesAt (record { phase = phase; number = number; known = known }) history caller.calls [] [] at own ×
    EachMakesAt phase known history low high (number + 1) callers rest others

-- callers ran, from one view of a pass to another, in which all their places are
pub record RanCallers (phase : ℕ) (known : List Binding) (number : ℕ) (callers : List Caller) (seen : History) (mine : List ℕ) (seen' : History) (mine' : List ℕ) (bound : List Binding) : Type 0 where
  pub each : List (List ℕ)
  pub makes : (history : History) → Extends seen' history → EachMakesAt phase known history (length seen) (length seen') number callers each bound
  pub covers : (p : ℕ) → Has p mine' → Has p mine ⊎ Any (Has p) each

-- The first phases of a trace were replayed, up to the one with this number: whatever goes through those that are left, the whole goes through all
-- of them, where the pass has all calls
pub record Replays (phases left : List Phase) (number : ℕ) (seen : History) (mine : List ℕ) (known : List Binding) : Type 0 where
  pub leads : ((p : ℕ) → Has p (places caller_of seen) → Has p mine) → (rest : History)
      → GoesThrough number known (after seen) left rest → GoesThrough 0 [] start phases (seen ++ rest)

-- two shares are as much of a turn
abbrev pub IsAsMuch : Share → Share → Type 0
IsAsMuch s t = (scale : ℕ) → s.halvings ≤ scale → t.halvings ≤ scale → parts_at scale t ≡ parts_at scale s
