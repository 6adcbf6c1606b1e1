-- The loan that is handed out with the reply to a call of a trace.
use Rattle.std.proofs.Common.{ℕ, ◌*◌, ◌≡◌, ◌≤◌, ◌∙◌, ◌||◌, Bool, true, false, not, List, Option, Some, None, IsTrue, refl, sym, ap, subst}
use Rattle.std.specs.Option.{option_and_then, option_map, option_map_or, option_or, unwrap_or}
use Rattle.answered_calls.proofs.Strides.{not_less}
use Rattle.dev_types.specs.DataTypes.{byte_size, is_element_type}
use Rattle.dev_types.specs.declared.data_types.DataType.{DataType}
use Rattle.dev_types.specs.declared.refusals.Refused.{Refused}
use Rattle.device_parts.specs.Makes.{Hands, array_of}
use Rattle.device_parts.specs.declared.handed.Handed.{Handed}
use Rattle.device_parts.specs.declared.handed.Handed.TheVariants as handed_out
use Rattle.object_steps.specs.Carrying.{handed}
use Rattle.object_steps.specs.ParameterLoans.{ParameterLoan, zero_elements}
use Rattle.object_steps.specs.declared.array_loans.ArrayLoan.TheVariants as loan
use Rattle.replay_core.specs.Held.{IsBlank, loan_by}
use Rattle.replay_core.specs.Labels.{Meaning, call_of, call_of_query}
use Rattle.replay_core.specs.Loans.{content_of, is_unmap, mapped_content}
use Rattle.scene_read.specs.Reading.{lent}
use Rattle.seq_model.proofs.Granted.{AllNone, all_none, does_not_apply}
use Rattle.seq_model.specs.Answers.{answer, granted}
use Rattle.seq_model.specs.Contents.{entered}
use Rattle.seq_model.specs.Endings.{reply_to}
use Rattle.seq_model.specs.Refusals.{most_bytes, refusal, refusals_of}
use Rattle.seq_model.specs.State.{ArrayState, State, object_at}
use Rattle.seq_model.specs.Steps.{Past, next_place}
use Rattle.seq_model.specs.declared.calls.Call.{Call}
use Rattle.seq_model.specs.declared.calls.Call.TheVariants.{MapArray, MapParameterArray, UnmapArray, UnmapFrame, UnmapParameterArray}
use Rattle.seq_model.specs.declared.calls.Reply.{Reply}
use Rattle.seq_model.specs.declared.calls.Reply.TheVariants as reply
use Rattle.solo_device.specs.OneThread.{asked_flight}
use Rattle.trace_text.specs.declared.calls.Query.{Query}
use Rattle.trace_text.specs.declared.calls.Query.TheVariants as query
use Rattle.trace_text.specs.declared.calls.TraceCall.{TraceCall}
use Rattle.trace_text.specs.declared.calls.TraceCall.TheVariants.{EndLoan, WithArray, WithFrame, WithParam}
use Rattle.trace_text.specs.declared.calls.TraceCall.TheVariants as op
use Rattle.trace_text.specs.declared.calls.Write.{Write}

-- a loan that was granted for a parameter has room
not_first : (a b : Bool) → (not a || b) ≡ false → a ≡ true
not_first true b is = refl
not_first false b is = absurd cc

parameter_roomy : (past : Past) (h : ℕ) (name : List ℕ) (elem : DataType) (count : ℕ) → AllNone (refusals_of past (MapParameterArray h name elem count)) →
    IsTrue (is_element_type elem) × (count * byte_size elem ≤ most_bytes)
unfolding refusals_of
parameter_roomy past h name elem count none =
    (not_first (is_element_type elem) _ (does_not_apply _ _ none.1.1.0), not_less most_bytes (count * byte_size elem) (does_not_apply _ _ none.1.1.1.1.0))

-- a call that maps no array hands out no loan of one
abbrev pub maps_array : Call → Bool
maps_array (MapArray h) = true
maps_array (MapParameterArray h name elem count) = true
maps_array call = false

pub nothing_for : (place : ℕ) (call : Call) (r : Reply) (s : State) → maps_array call ≡ false → handed place call r s loan.Nothing ≡ loan.Nothing
nothing_for place (MapArray h) r s not_ = absurd cc
nothing_for place (MapParameterArray h name elem count) r s not_ = absurd cc
nothing_for place call (reply.Denied refused) s not_ = refl
nothing_for place call r s not_ = refl

no_map_of : (x y : Call) → Some x ≡ Some y → maps_array x ≡ false → maps_array y ≡ false
no_map_of x y same not_ = let value : x ≡ y = cc in subst (λ call. maps_array call ≡ false) value not_

query_maps_nothing : (meaning : Meaning) (q : Query) → maps_array (call_of_query meaning q) ≡ false
query_maps_nothing meaning (query.Property object name) = refl
query_maps_nothing meaning (query.Subtypes t) = refl
query_maps_nothing meaning (query.ObjectInfo t subtype) = refl
query_maps_nothing meaning (query.ParameterInfo t subtype name) = refl

-- the loan that goes out with a reply is that of the reply, and one for a parameter is blank
replied_lent : (past : Past) (call : Call) (P : Reply → Type 0) → ((refused : Refused) → P (reply.Denied refused)) → (refusal past call ≡ None → P (unwrap_or (granted past call) reply.Done)) → P (reply_to past call)
unfolding answer
replied_lent past call P denied granted_ = by (refusal past call) refl
  where
    by : (x : Option Refused) → refusal past call ≡ x → P (unwrap_or (option_or (option_map reply.Denied x) (granted past call)) reply.Done)
    by None is = granted_ is
    by (Some refused) is = denied refused

array_loan_is : (past : Past) (h : ℕ) → handed (next_place past) (MapArray h) (reply.Lent (next_place past)) past.state loan.Nothing
    ≡ option_map_or (λ b. loan.Lent (record { array = h; number = next_place past; elements = lent b })) (content_of past h) loan.Nothing
array_loan_is past h = by (option_and_then (λ o. o.array) (object_at past.state h))
  where
    by : (x : Option ArrayState) → option_map_or (λ a. loan.Lent (record { array = h; number = next_place past; elements = lent a.block })) x loan.Nothing
        ≡ option_map_or (λ b. loan.Lent (record { array = h; number = next_place past; elements = lent b })) (option_map (λ a. a.block) x) loan.Nothing
    by None = refl
    by (Some a) = refl

loan_is_by : (past : Past) (meaning : Meaning) (c : TraceCall) (call : Call) → call_of meaning c ≡ Some call →
    handed (next_place past) call (reply_to past call) past.state loan.Nothing ≡ loan_by (mapped_content past meaning c) meaning c (reply_to past call)
loan_is_by past meaning (WithArray array write) call is =
    let same : MapArray (meaning array) ≡ call = cc in
    subst (λ call. handed (next_place past) call (reply_to past call) past.state loan.Nothing ≡ loan_by (content_of past (meaning array)) meaning (WithArray array write) (reply_to past call)) same
    (replied_lent past (MapArray (meaning array))
    (λ r. handed (next_place past) (MapArray (meaning array)) r past.state loan.Nothing ≡ loan_by (content_of past (meaning array)) meaning (WithArray array write) r)
    (λ refused. refl) (λ none. array_loan_is past (meaning array)))
loan_is_by past meaning (WithParam object name elem count write) call is =
    let same : MapParameterArray (meaning object) name elem count ≡ call = cc in
    subst (λ call. handed (next_place past) call (reply_to past call) past.state loan.Nothing ≡ loan_by None meaning (WithParam object name elem count write) (reply_to past call)) same
    (replied_lent past (MapParameterArray (meaning object) name elem count)
    (λ r. handed (next_place past) (MapParameterArray (meaning object) name elem count) r past.state loan.Nothing ≡ loan_by None meaning (WithParam object name elem count write) r)
    (λ refused. refl) (λ none. refl))
loan_is_by past meaning EndLoan call is = absurd cc
loan_is_by past meaning (op.Query q) call is =
    nothing_for (next_place past) call (reply_to past call) past.state (no_map_of (call_of_query meaning q) call is (query_maps_nothing meaning q))
loan_is_by past meaning c call is = nothing_for (next_place past) call (reply_to past call) past.state (no_map_of _ call is refl)

-- so the loan that stands in an answer is told by the trace's call
pub loan_told : (past : Past) (meaning : Meaning) (c : TraceCall) (call : Call) (r : Reply) (out : Handed) → call_of meaning c ≡ Some call → r ≡ reply_to past call
    → array_of out ≡ handed (next_place past) call r past.state loan.Nothing → array_of out ≡ loan_by (mapped_content past meaning c) meaning c r
loan_told past meaning c call r out is same lent_ =
    lent_ ∙ ap (λ r. handed (next_place past) call r past.state loan.Nothing) same ∙ loan_is_by past meaning c call is
    ∙ ap (loan_by (mapped_content past meaning c) meaning c) (sym same)

-- and one for a parameter is blank
blank_param : (past : Past) (meaning : Meaning) (object name : List ℕ) (elem : DataType) (count : ℕ) (writes : List Write) (l : ParameterLoan) (r : Reply)
    → loan.Param l ≡ handed (next_place past) (MapParameterArray (meaning object) name elem count) r past.state loan.Nothing
    → r ≡ reply_to past (MapParameterArray (meaning object) name elem count)
    → IsTrue (is_element_type elem) × (count * byte_size elem ≤ most_bytes) × (l.elements ≡ zero_elements elem count)
unfolding refusals_of refusal
blank_param past meaning object name elem count writes l r lent_ same =
    replied_lent past (MapParameterArray (meaning object) name elem count)
    (λ r. loan.Param l ≡ handed (next_place past) (MapParameterArray (meaning object) name elem count) r past.state loan.Nothing
    → IsTrue (is_element_type elem) × (count * byte_size elem ≤ most_bytes) × (l.elements ≡ zero_elements elem count))
    (λ refused lent_. absurd cc)
    (λ none lent_.
    let room = parameter_roomy past (meaning object) name elem count (all_none (refusals_of past (MapParameterArray (meaning object) name elem count)) none) in
    let value : l ≡ record { object = meaning object; name = name; number = next_place past; elements = zero_elements elem count } = cc in
    (room.0, room.1, ap (λ (l : ParameterLoan). l.elements) value))
    (lent_ ∙ ap (λ r. handed (next_place past) (MapParameterArray (meaning object) name elem count) r past.state loan.Nothing) same)

pub blank_told : (past : Past) (meaning : Meaning) (c : TraceCall) (call : Call) (r : Reply) (out : Handed) → call_of meaning c ≡ Some call → r ≡ reply_to past call
    → array_of out ≡ handed (next_place past) call r past.state loan.Nothing → IsBlank c out
blank_told past meaning (WithParam object name elem count writes) call r (handed_out.Param l) is same lent_ =
    let value : MapParameterArray (meaning object) name elem count ≡ call = cc in
    blank_param past meaning object name elem count writes l r
    (lent_ ∙ ap (λ call. handed (next_place past) call r past.state loan.Nothing) (sym value)) (same ∙ ap (reply_to past) (sym value))
blank_told past meaning (WithParam object name elem count writes) call r out is same lent_ = tt
blank_told past meaning c call r out is same lent_ = tt

-- a call that is no unmap goes without a loan, and is entered as it is made
pub goes_alone : (call : Call) → is_unmap call ≡ false → Hands call handed_out.Nothing
goes_alone (UnmapArray h number bytes) not_ = absurd cc
goes_alone (UnmapParameterArray h name number bytes) not_ = absurd cc
goes_alone (UnmapFrame h number) not_ = absurd cc
goes_alone call not_ = (refl, tt)

pub entered_as_made : (past : Past) (call : Call) → is_unmap call ≡ false → entered past call ≡ call
unfolding entered
entered_as_made past (UnmapArray h number bytes) not_ = absurd cc
entered_as_made past (UnmapParameterArray h name number bytes) not_ = absurd cc
entered_as_made past call not_ = refl

-- an unmap asks for no flight
pub unmap_asks_none : (past : Past) (call : Call) → is_unmap call ≡ true → asked_flight past call ≡ None
unmap_asks_none past (UnmapArray h number bytes) is = refl
unmap_asks_none past (UnmapParameterArray h name number bytes) is = refl
unmap_asks_none past (UnmapFrame h number) is = refl
unmap_asks_none past call is = absurd cc

-- calls of a trace are no unmaps
no_unmap_of : (x y : Call) → Some x ≡ Some y → is_unmap x ≡ false → is_unmap y ≡ false
no_unmap_of x y same not_ = let value : x ≡ y = cc in subst (λ call. is_unmap call ≡ false) value not_

query_is_no_unmap : (meaning : Meaning) (q : Query) → is_unmap (call_of_query meaning q) ≡ false
query_is_no_unmap meaning (query.Property object name) = refl
query_is_no_unmap meaning (query.Subtypes t) = refl
query_is_no_unmap meaning (query.ObjectInfo t subtype) = refl
query_is_no_unmap meaning (query.ParameterInfo t subtype name) = refl

pub calls_are_no_unmaps : (meaning : Meaning) (c : TraceCall) (call : Call) → call_of meaning c ≡ Some call → is_unmap call ≡ false
calls_are_no_unmaps meaning EndLoan call is = absurd cc
calls_are_no_unmaps meaning (op.Query q) call is = no_unmap_of (call_of_query meaning q) call is (query_is_no_unmap meaning q)
calls_are_no_unmaps meaning c call is = no_unmap_of _ call is refl
