-- What a text is: a trace, or the first of its rules that it breaks.
use Rattle.std.specs.Prelude.{◌≡◌, ◌<◌, ⊤, IsTrue, ℕ, suc, ◌==◌, ◌&&◌, List, [], ◌∷◌, Bool, true, false, not, Option, Some, None, is_none, option_map, option_and_then, unwrap_or, Result, Ok, Err, nat_lt, nat_le, length, map, codes, if◌then◌else◌}
use Rattle.std.specs.BTreeMap.{is_at}
use Rattle.std.specs.BTreeSet.{insert_key}
use Rattle.std.specs.Cmp.Lexicographic.{slice_cmp}
use Rattle.std.specs.List.{filter_map, list_all, list_any}
use Rattle.std.specs.Ordering.{nat_cmp}
use Rattle.std.specs.Str.{is_utf8}
use Rattle.serde_json.specs.Data.{Data}
use Rattle.serde_json.specs.Read.{read}
use Rattle.trace_text.specs.Json.{count_of, list_of, items_of, is_list, from2, field, has_only}
use Rattle.trace_text.specs.Ops.{is_loan, most_calls}
use Rattle.trace_text.specs.Forms.{only, call_form}
use Rattle.trace_text.specs.Places.{Mark, a_phase, a_caller, a_call, end_of_loan, more_phases, Place, op_of, items_at, marks, most_loans, places}
use Rattle.trace_text.specs.declared.ops.Version.{Version}
use Rattle.trace_text.specs.declared.ops.Version.TheVariants.{One, Two}
use Rattle.trace_text.specs.declared.ops.Op.{Op}
use Rattle.trace_text.specs.declared.fault.Rule.{Rule}
use Rattle.trace_text.specs.declared.fault.Rule.TheVariants.{TooLong, NotJson, NotATrace, TooManyPhases, NotAPhase, TooManyCalls, TooDeep, UnknownOp, NotOfItsForm, BoundBefore}
use Rattle.trace_text.specs.declared.fault.TraceError.{TraceError}
use Rattle.trace_text.specs.declared.fault.TraceError.TheVariants.{Broken, NoMemory}
use Rattle.trace_text.specs.declared.fault.TraceFault.{TraceFault}
use Rattle.trace_text.specs.declared.calls.Trace.{Trace}
use Rattle.trace_text.specs.declared.calls.Phase.{Phase}
use Rattle.trace_text.specs.declared.calls.Caller.{Caller}
use Rattle.trace_text.specs.declared.calls.TraceCall.{TraceCall}
use Rattle.trace_text.specs.declared.calls.TraceCall.TheVariants as call

-- the number of each rule
abbrev pub rule_number : Rule → ℕ
rule_number TooLong = 1
rule_number NotJson = 2
rule_number NotATrace = 3
rule_number TooManyPhases = 4
rule_number NotAPhase = 5
rule_number TooManyCalls = 6
rule_number TooDeep = 7
rule_number UnknownOp = 8
rule_number NotOfItsForm = 9
rule_number BoundBefore = 10

-- a call that has its form
abbrev pub call_of : Version → Data → Option TraceCall
call_of v d = option_and_then (λ op. call_form op d) (op_of v d)

-- the label that a call binds
abbrev pub bound_by : TraceCall → Option (List ℕ)
bound_by (call.New label t subtype) = Some label
bound_by (call.NewArray label t count stride origin elements) = Some label
bound_by _ = None

-- what stands before a place: how many calls of the trace, how many of this caller, and the labels that they bind, in order
pub record Before : Type 0 where
  pub calls : ℕ
  pub of_caller : ℕ
  pub labels : List (List ℕ)

abbrev pub nothing_before : Before
nothing_before = record { calls = 0; of_caller = 0; labels = [] }

abbrev pub is_bound : List ℕ → Before → Bool
is_bound label before = list_any (is_at (slice_cmp nat_cmp label)) before.labels

abbrev pub with_label : Option (List ℕ) → List (List ℕ) → List (List ℕ)
with_label None labels = labels
with_label (Some label) labels = insert_key (slice_cmp nat_cmp) labels label

-- what stands before the next place
abbrev pub after : Version → Mark → Before → Before
after v a_caller before = record { calls = before.calls; of_caller = 0; labels = before.labels }
after v (a_call n d) before = record {
  calls = suc before.calls;
  of_caller = suc before.of_caller;
  labels = with_label (option_and_then bound_by (call_of v d)) before.labels;
}
after v _ before = before

-- an object with exactly `callers`, a list of 1 to 8 lists
abbrev pub is_phase : Data → Bool
is_phase d =
    has_only (codes "callers" ∷ []) d && nat_le 1 (length (items_at (codes "callers") d))
    && nat_le (length (items_at (codes "callers") d)) 8 && list_all is_list (items_at (codes "callers") d)

-- a loan where no more may be opened
abbrev pub is_too_deep : Version → ℕ → Data → Bool
is_too_deep v n d = n == 0 && unwrap_or (option_map is_loan (op_of v d)) false

abbrev pub binds_again : Before → Option (List ℕ) → Bool
binds_again before label = unwrap_or (option_map (λ l. is_bound l before) label) false

-- the first rule of a list that is broken
abbrev pub first_broken : List (Rule × Bool) → Option Rule
first_broken [] = None
first_broken (rule ∷ rules) = if rule.1 then Some rule.0 else first_broken rules

-- the rules of a call, in the order in which they are asked
abbrev pub call_rules : Version → Before → ℕ → Data → List (Rule × Bool)
call_rules v before n d =
    (TooManyCalls, nat_le (most_calls v) before.calls) ∷
    (UnknownOp, is_none (op_of v d)) ∷
    (TooDeep, is_too_deep v n d) ∷
    (NotOfItsForm, is_none (call_of v d)) ∷
    (BoundBefore, binds_again before (option_and_then bound_by (call_of v d))) ∷ []

-- the rules at a place
abbrev pub rules_at : Version → Before → Mark → List (Rule × Bool)
rules_at v before (a_phase d) = (NotAPhase, not (is_phase d)) ∷ []
rules_at v before a_caller = []
rules_at v before (a_call n d) = call_rules v before n d
rules_at v before end_of_loan = []
rules_at v before more_phases = (TooManyPhases, true) ∷ []

-- the number within its caller of a call at a place
abbrev pub call_number : Before → Mark → ℕ
call_number before (a_call n d) = before.of_caller
call_number before _ = 0

abbrev pub fault_at : Before → Place → Rule → TraceFault
fault_at before place rule = record { rule = rule_number rule; phase = place.phase; caller = place.caller; call = call_number before place.mark }

-- the fault, if a rule is broken, and else the other answer
abbrev pub unless_broken : {A : Type 0} → (Rule → A) → A → Option Rule → A
unless_broken fault otherwise None = otherwise
unless_broken fault otherwise (Some rule) = fault rule

-- the first rule that is broken at the places of a list, in their order; or what stands before what comes behind them
unfoldable pub checked : Version → Before → List Place → Result Before TraceFault
checked v before [] = Ok before
checked v before (place ∷ rest) =
    unless_broken (λ rule. Err (fault_at before place rule)) (checked v (after v place.mark before) rest)
    (first_broken (rules_at v before place.mark))

-- ---- the trace

abbrev pub call_at : Version → Mark → Option TraceCall
call_at v (a_call n d) = call_of v d
call_at v end_of_loan = Some call.EndLoan
call_at v _ = None

abbrev pub calls_of : Version → List Mark → List TraceCall
calls_of v ms = filter_map (call_at v) ms

abbrev pub caller_of : Version → Data → Caller
caller_of v d = record { calls = calls_of v (marks v most_loans (items_of d)) }

abbrev pub phase_of : Version → Data → Phase
phase_of v d = record { callers = map (caller_of v) (items_at (codes "callers") d) }

abbrev pub phases_of : Version → List Data → Trace
phases_of v ds = record { phases = map (phase_of v) ds }

-- ---- the whole text

-- how many bytes a text may have: 64 MiB
abbrev pub most_bytes : ℕ
most_bytes = 67108864

-- the value of the text, if it is JSON
abbrev pub json_of : List ℕ → Option Data
json_of bytes = if is_utf8 bytes then read bytes else None

abbrev pub version_numbered : ℕ → Option Version
version_numbered n = if n == 1 then Some One else if n == 2 then Some Two else None

abbrev pub version_of : Data → Option Version
version_of d = option_and_then version_numbered (count_of d)

-- an object with exactly `trace`, a version, and `phases`, a list
abbrev pub root_of : Data → Option (Version × List Data)
root_of d = only (codes "trace" ∷ codes "phases" ∷ []) d (from2 (λ v phases. (v, phases)) (field version_of (codes "trace") d) (field list_of (codes "phases") d))

-- the fault of a text that breaks the rule as a whole
abbrev pub at_start : Rule → TraceFault
at_start rule = record { rule = rule_number rule; phase = 0; caller = 0; call = 0 }

abbrev pub if_unbroken : Trace → Result Before TraceFault → Result Trace TraceFault
if_unbroken trace (Ok before) = Ok trace
if_unbroken trace (Err fault) = Err fault

abbrev pub trace_of_root : Option (Version × List Data) → Result Trace TraceFault
trace_of_root None = Err (at_start NotATrace)
trace_of_root (Some root) = if_unbroken (phases_of root.0 root.1) (checked root.0 nothing_before (places root.0 root.1))

abbrev pub trace_of_json : Option Data → Result Trace TraceFault
trace_of_json None = Err (at_start NotJson)
trace_of_json (Some d) = trace_of_root (root_of d)

-- the trace that the text is, or the first rule that it breaks
abbrev pub trace_of : List ℕ → Result Trace TraceFault
trace_of bytes = if nat_lt most_bytes (length bytes) then Err (at_start TooLong) else trace_of_json (json_of bytes)

-- the same, as what a reader answers: with no memory it may answer so, whatever the text is
abbrev pub IsAnswerTo : Result Trace TraceFault → Result Trace TraceError → Type 0
IsAnswerTo outcome (Ok trace) = outcome ≡ Ok trace
IsAnswerTo outcome (Err (Broken fault)) = outcome ≡ Err fault
IsAnswerTo outcome (Err NoMemory) = ⊤

abbrev pub IsAnswer : List ℕ → Result Trace TraceError → Type 0
IsAnswer bytes result = IsAnswerTo (trace_of bytes) result

-- the error tells the first rule that is broken, or that there was no memory
abbrev pub Tells : Result Before TraceFault → TraceError → Type 0
Tells outcome (Broken fault) = outcome ≡ Err fault
Tells outcome NoMemory = ⊤

-- a reader of a part of the text: it goes on with what now stands before the next place, or tells the first rule that is broken
abbrev pub Reads : {A : Type 0} → Result Before TraceFault → Before → Result A TraceError → Type 0
Reads outcome new (Ok part) = outcome ≡ Ok new
Reads outcome new (Err error) = Tells outcome error

-- a call that was read without those inside it: its op, and what it says
pub record IsRead (v : Version) (n : ℕ) (d : Data) (op : Op) (call : TraceCall) : Type 0 where
  pub op_is : op_of v d ≡ Some op
  pub call_is : call_of v d ≡ Some call
  pub may_open : IsTrue (is_loan op) → 0 < n

-- the op of a call that keeps the first three of its rules
pub record Begins (v : Version) (calls n : ℕ) (d : Data) (op : Op) : Type 0 where
  pub few : calls < most_calls v
  pub op_is : op_of v d ≡ Some op
  pub is_open : is_too_deep v n d ≡ false

abbrev pub IsOpAt : Version → ℕ → ℕ → Data → Result Op Rule → Type 0
IsOpAt v calls n d (Ok op) = Begins v calls n d op
IsOpAt v calls n d (Err rule) = (before : Before) → before.calls ≡ calls → first_broken (call_rules v before n d) ≡ Some rule
