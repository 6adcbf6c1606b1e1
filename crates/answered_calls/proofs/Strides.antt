-- The elements of arrays never overlap.
use Rattle.std.proofs.Common.{ℕ, ◌==◌, ◌≡◌, ◌<◌, ◌≤◌, ◌∙◌, ◌⊎◌, inl, inr, ◌||◌, Bool, true, false, not, List, [], ◌∷◌, ◌++◌, Option, Some, None, nat_lt, refl, sym, ap, length, arith, true≢false}
use Rattle.std.specs.Prelude.{cond}
use Rattle.std.specs.List.{filter}
use Rattle.std.specs.Option.{MatchOption, option_and_then, option_map, option_map_or, unwrap_or}
use Rattle.std.proofs.lemmas.Bool.{cases_lt, lt-ltb}
use Rattle.dev_types.specs.Blocks.{needed_length}
use Rattle.dev_types.specs.DataTypes.{byte_size, is_element_type}
use Rattle.dev_types.specs.declared.data_types.DataType.{DataType}
use Rattle.dev_types.specs.declared.data_types.DataType.TheVariants as ty
use Rattle.dev_types.specs.declared.handles.Origin.{Origin}
use Rattle.dev_types.specs.declared.handles.Origin.TheVariants.{Managed}
use Rattle.dev_types.specs.declared.refusals.Refused.TheVariants.{BadShape, BadType}
use Rattle.dev_types.specs.declared.values.Value.TheVariants as value
use Rattle.kind_tables.specs.Kinds.{kind_of}
use Rattle.kind_tables.specs.SceneObjects.{with_value, without_value}
use Rattle.kind_tables.specs.declared.kinds.Kind.{Kind}
use Rattle.kind_tables.specs.declared.kinds.Kind.TheVariants.{Array}
use Rattle.seq_model.proofs.Came.{swept_was}
use Rattle.seq_model.proofs.Granted.{given}
use Rattle.seq_model.proofs.Handles.{changed, changed_rises, rises, step_state}
use Rattle.seq_model.proofs.Loans.{Each, each_changed, each_discarded, each_ended, each_new}
use Rattle.seq_model.proofs.Prefixes.{legal_by}
use Rattle.seq_model.specs.Histories.{History}
use Rattle.seq_model.specs.Legal.{IsInPlace, Legal}
use Rattle.seq_model.specs.Refusals.{bad_elements, first_of, given_handles, is_bad_layout, is_bad_shape, is_wrong_length, most_bytes, refusal, refusals_of}
use Rattle.seq_model.specs.State.{ArrayState, Object, ParameterLoan, Empty, Flight, Done, State, changed_at, content_of_loan, object_at, parameter_loan, with_object}
use Rattle.seq_model.specs.Steps.{Past, after, change, change_array, commit, effect, end_parameter_loan, fresh, fresh_array, holding, lend_parameter, lent, map_channel, next_place, set_phase, set_staged, step, take_in, unmap_channel, unmap_parameter}
use Rattle.seq_model.specs.declared.calls.Call.{Call}
use Rattle.seq_model.specs.declared.calls.Call.TheVariants.{NewObject, NewArray, SetParameter, UnsetParameter, UnsetAll, Commit, MapArray, UnmapArray, MapParameterArray, UnmapParameterArray, RenderFrame, DiscardFrame, MapFrame, UnmapFrame}
use Rattle.seq_model.specs.declared.calls.Entry.{Entry}
use Rattle.seq_model.specs.declared.calls.Entry.TheVariants.{Called, Finished, Left, Closed}
use Rattle.seq_model.specs.declared.calls.Reply.{Reply}
use Rattle.seq_model.specs.declared.calls.Reply.TheVariants as reply

-- no element of the array lies over the one before
abbrev pub AreApart : Option ArrayState → Type 0
AreApart array = MatchOption array (Unit {0}) (λ a. byte_size a.block.elem ≤ a.block.stride)

abbrev pub HasApart : ℕ → Object → Type 0
HasApart h o = AreApart o.array

same : (h : ℕ) (o : Object) → HasApart h o → HasApart h o
same h o now = now

-- a layout that is not bad keeps them apart
left_false : (a b : Bool) → (a || b) ≡ false → a ≡ false
left_false false b none = refl
left_false true b none = absurd cc

pub not_less : (m n : ℕ) → nat_lt m n ≡ false → n ≤ m
not_less m n fails = by (cases_lt m n)
  where
    by : (m < n) ⊎ (n ≤ m) → n ≤ m
    by (inl less) = let yes : nat_lt m n ≡ true = lt-ltb m n less in absurd (true≢false (sym yes ∙ fails))
    by (inr more) = more

apart_by_shape : (elem : DataType) (count stride : ℕ) (origin : Origin) (bytes : List ℕ) → is_bad_shape elem count stride origin bytes ≡ false → byte_size elem ≤ stride
apart_by_shape elem count stride origin bytes good =
    let layout : is_bad_layout elem count stride ≡ false =
    left_false (is_bad_layout elem count stride) (nat_lt most_bytes (length bytes))
    (left_false (is_bad_layout elem count stride || nat_lt most_bytes (length bytes)) (is_wrong_length origin (needed_length elem stride count) (length bytes)) good) in
    not_less stride (byte_size elem)
    (left_false (nat_lt stride (byte_size elem)) (nat_lt most_bytes stride)
    (left_false (nat_lt stride (byte_size elem) || nat_lt most_bytes stride) (nat_lt most_bytes (needed_length elem stride count)) layout))

made_apart : (past : Past) (elem : DataType) (count stride : ℕ) (origin : Origin) (bytes : List ℕ) → refusal past (NewArray elem count stride origin bytes) ≡ None → byte_size elem ≤ stride
unfolding refusal refusals_of
made_apart past elem count stride origin bytes none = by (is_element_type elem) (is_bad_shape elem count stride origin bytes) refl none
  where
    by : (may bad : Bool) → is_bad_shape elem count stride origin bytes ≡ bad →
        first_of (cond (not may) (Some BadType ∷ []) (cond bad (Some BadShape ∷ []) (bad_elements past elem (given_handles elem count stride bytes)))) ≡ None → byte_size elem ≤ stride
    by false bad is none = absurd cc
    by true true is none = absurd cc
    by true false is none = apart_by_shape elem count stride origin bytes is

lent_apart : (place : ℕ) (x : Option ArrayState) → AreApart x → AreApart (option_map (lent place) x)
lent_apart place None now = now
lent_apart place (Some a) now = now

held_apart : (bytes : List ℕ) (x : Option ArrayState) → AreApart x → AreApart (option_map (holding bytes) x)
held_apart bytes None now = now
held_apart bytes (Some a) now = now

taken_apart : (h : ℕ) (name bytes : List ℕ) (s : State) (x : Option ParameterLoan) → Each HasApart s → Each HasApart (option_map_or (λ loan. take_in h name bytes loan s) x s)
unfolding take_in
taken_apart h name bytes s None all = all
taken_apart h name bytes s (Some loan) all =
    each_new HasApart HasApart same
    (fresh (Array loan.elem) (Some (record { block = content_of_loan loan bytes; origin = Managed; loan = None })))
    (changed_at h (set_staged (with_value name (value.Object ty.Array1D s.next))) (changed_at h (end_parameter_loan loan.number) s))
    (λ k. omega arith)
    (each_changed HasApart HasApart same h (set_staged (with_value name (value.Object ty.Array1D s.next))) (changed_at h (end_parameter_loan loan.number) s) (λ o now. now)
    (each_changed HasApart HasApart same h (end_parameter_loan loan.number) s (λ o now. now) all))

new_apart : (s : State) (x : Option Kind) → Each HasApart s → Each HasApart (unwrap_or (option_map (λ kind. with_object (fresh kind None) s) x) s)
new_apart s None all = all
new_apart s (Some kind) all = each_new HasApart HasApart same (fresh kind None) s (λ k. tt) all

call_apart : (past : Past) (place actor : ℕ) (call : Call) (r : Reply) → IsInPlace past [] (Called actor call r) → Each HasApart past.state → Each HasApart (effect place call r past.state)
unfolding effect unmap_parameter
call_apart past place actor (NewObject t subtype) (reply.Made made) placed all = new_apart past.state (kind_of t subtype) all
call_apart past place actor (NewArray elem count stride origin bytes) (reply.Made made) placed all =
    each_new HasApart HasApart same (fresh_array elem count stride origin bytes) past.state
    (λ k. made_apart past elem count stride origin bytes (given past (NewArray elem count stride origin bytes) (reply.Made made) placed.0 (λ refused is. cc)).0) all
call_apart past place actor (SetParameter h name v) reply.Done placed all = each_changed HasApart HasApart same h (set_staged (with_value name v)) past.state (λ o now. now) all
call_apart past place actor (UnsetParameter h name) reply.Done placed all = each_changed HasApart HasApart same h (set_staged (without_value name)) past.state (λ o now. now) all
call_apart past place actor (UnsetAll h) reply.Done placed all = each_changed HasApart HasApart same h (set_staged (λ _. [])) past.state (λ o now. now) all
call_apart past place actor (Commit h) reply.Done placed all = each_changed HasApart HasApart same h commit past.state (λ o now. now) all
call_apart past place actor (MapArray h) (reply.Lent number) placed all =
    each_changed HasApart HasApart same h (change_array (lent place)) past.state (λ o now. lent_apart place o.array now) all
call_apart past place actor (UnmapArray h number bytes) reply.Done placed all =
    each_changed HasApart HasApart same h (change_array (holding bytes)) past.state (λ o now. held_apart bytes o.array now) all
call_apart past place actor (MapParameterArray h name elem count) (reply.Lent number) placed all =
    each_changed HasApart HasApart same h (lend_parameter (record { number = place; name = name; elem = elem; count = count })) past.state (λ o now. now) all
call_apart past place actor (UnmapParameterArray h name number bytes) (reply.Made made) placed all =
    taken_apart h name bytes past.state (option_and_then (λ o. parameter_loan number o.parameter_loans) (object_at past.state h)) all
call_apart past place actor (RenderFrame h) reply.Done placed all = each_changed HasApart HasApart same h (set_phase (Flight place)) past.state (λ o now. now) all
call_apart past place actor (DiscardFrame h) reply.Done placed all = each_discarded HasApart HasApart same h past.state (λ o now. now) all
call_apart past place actor (MapFrame h channel) (reply.Mapped width height kind rows) placed all = each_changed HasApart HasApart same h (map_channel channel place) past.state (λ o now. now) all
call_apart past place actor (UnmapFrame h number) reply.Done placed all = each_changed HasApart HasApart same h (unmap_channel number) past.state (λ o now. now) all
call_apart past place actor _ _ placed all = all

entry_apart : (past : Past) (place : ℕ) (e : Entry) → IsInPlace past [] e → Each HasApart past.state → Each HasApart (change place e past.state)
unfolding change
entry_apart past place (Called actor call r) placed all = call_apart past place actor call r placed all
entry_apart past place (Finished u) placed all = each_ended HasApart HasApart same u (Done u) past.state.stopped past.state (λ k o now. now) all
entry_apart past place (Left u) placed all = each_ended HasApart HasApart same u Empty (filter (λ v. not (v == u)) past.state.stopped) past.state (λ k o now. now) all
entry_apart past place Closed placed all = λ k p found. absurd (let none : None ≡ Some p = found in cc)

apart_first : Each HasApart (after []).state
unfolding after
apart_first k o found = absurd cc

-- in every legal history
pub are_apart : (history : History) → Legal history → Each HasApart (after history).state
are_apart history legal = legal_by (λ past. Each HasApart past.state) apart_first more history legal
  where
    more : (history : History) (e : Entry) → Legal (history ++ e ∷ []) → IsInPlace (after history) [] e → Each HasApart (after history).state → Each HasApart (step (after history) e).state
    more history e legal placed all k o found =
        entry_apart (after history) (next_place (after history)) e placed all k o
        (swept_was (step (after history) e) (changed (after history) e) k o (changed_rises (after history) e (rises history)).0
        (ap (λ s. object_at s k) (sym (step_state (after history) e)) ∙ found)).0
