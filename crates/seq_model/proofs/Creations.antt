-- A creation makes the next handle, so no handle is made twice.
use Rattle.std.proofs.Common.{ℕ, ◌+◌, ◌≡◌, ◌<◌, ◌≤◌, ◌∙◌, true, false, List, [], ◌∷◌, ◌++◌, Option, Some, None, length, refl, sym, ap, arith}
use Rattle.std.specs.List.{list_any}
use Rattle.std.specs.Option.{is_none, option_and_then, option_map, option_map_or, unwrap_or}
use Rattle.std.proofs.lemmas.Bool.{not-false}
use Rattle.dev_types.specs.declared.refusals.Refused.TheVariants.{BadSubtype, NotMapped}
use Rattle.kind_tables.specs.Kinds.{kind_of}
use Rattle.kind_tables.specs.declared.kinds.Kind.{Kind}
use Rattle.seq_model.proofs.Afters.{after_more}
use Rattle.seq_model.proofs.Granted.{IsGiven, does_not_apply, first_is_none, given, loan_is_found, made_is_next, other_reply}
use Rattle.seq_model.proofs.Handles.{changed, next_grows, step_state, swept_next}
use Rattle.seq_model.proofs.Prefixes.{in_place, prefix_is_legal}
use Rattle.seq_model.specs.Histories.{History}
use Rattle.seq_model.specs.Legal.{Legal}
use Rattle.seq_model.specs.Refusals.{is_parameter_out, is_parameter_loan_out, refusal, refusals_of}
use Rattle.seq_model.specs.State.{Object, ParameterLoan, State, object_at, parameter_loan, with_object}
use Rattle.seq_model.specs.Steps.{Past, after, change, effect, fresh, next_place, step, take_in, unmap_parameter}
use Rattle.seq_model.specs.declared.calls.Call.{Call}
use Rattle.seq_model.specs.declared.calls.Call.TheVariants.{NewObject, NewArray, Retain, UnmapParameterArray}
use Rattle.seq_model.specs.declared.calls.Entry.TheVariants.{Called}
use Rattle.seq_model.specs.declared.calls.Reply.TheVariants as reply

-- an object of this type and subtype can be made
pub kind_is_there : (past : Past) (t : _) (subtype : List ℕ) → refusal past (NewObject t subtype) ≡ None → (kind : Kind) × (kind_of t subtype ≡ Some kind)
unfolding refusal refusals_of
kind_is_there past t subtype none = by (kind_of t subtype) refl
  where
    by : (x : Option Kind) → kind_of t subtype ≡ x → (kind : Kind) × (kind_of t subtype ≡ Some kind)
    by (Some kind) is = (kind, is)
    by None is =
        let asked : is_none (kind_of t subtype) ≡ false = does_not_apply (is_none (kind_of t subtype)) BadSubtype (first_is_none _ [] none).0 in
        let test : true ≡ false = sym (ap is_none is) ∙ asked in absurd cc

-- a parameter array that comes back was lent
pub loan_of_parameter : (past : Past) (h number : ℕ) (name bytes : List ℕ) → refusal past (UnmapParameterArray h name number bytes) ≡ None →
    (o : Object) × (object_at past.state h ≡ Some o) × (list_any (is_parameter_out name number (length bytes)) o.parameter_loans ≡ true)
unfolding refusal refusals_of
loan_of_parameter past h number name bytes none =
    by (object_at past.state h) refl (not-false (is_parameter_loan_out past.state h name number (length bytes)) (does_not_apply _ NotMapped (first_is_none _ [] none).0))
  where
    by : (x : Option Object) → object_at past.state h ≡ x → is_parameter_loan_out past.state h name number (length bytes) ≡ true →
        (o : Object) × (object_at past.state h ≡ Some o) × (list_any (is_parameter_out name number (length bytes)) o.parameter_loans ≡ true)
    by None is out = let none : false ≡ true = sym (ap (λ x. option_map_or (λ o. list_any (is_parameter_out name number (length bytes)) o.parameter_loans) x false) is) ∙ out in absurd cc
    by (Some o) is out = (o, is, sym (ap (λ x. option_map_or (λ o. list_any (is_parameter_out name number (length bytes)) o.parameter_loans) x false) is) ∙ out)

-- one more handle is used
counts_one : (place made : ℕ) (past : Past) (call : Call) → refusal past call ≡ None → IsGiven past call (reply.Made made) → (effect place call (reply.Made made) past.state).next ≡ past.state.next + 1
unfolding effect unmap_parameter take_in
counts_one place made past (NewObject t subtype) none given =
    let kind : (kind : Kind) × (kind_of t subtype ≡ Some kind) = kind_is_there past t subtype none in
    ap (λ x. (unwrap_or (option_map (λ kind. with_object (fresh kind None) past.state) x) past.state).next) kind.1
counts_one place made past (NewArray elem count stride origin bytes) none given = refl
counts_one place made past (UnmapParameterArray h name number bytes) none given =
    let there : (o : Object) × (object_at past.state h ≡ Some o) × (list_any (is_parameter_out name number (length bytes)) o.parameter_loans ≡ true) =
    loan_of_parameter past h number name bytes none in
    let loan : (loan : ParameterLoan) × (parameter_loan number there.0.parameter_loans ≡ Some loan) = loan_is_found name number (length bytes) there.0.parameter_loans there.2 in
    let found : option_and_then (λ (o : Object). parameter_loan number o.parameter_loans) (object_at past.state h) ≡ Some loan.0 =
    ap (option_and_then (λ (o : Object). parameter_loan number o.parameter_loans)) there.1 ∙ loan.1 in
    ap (λ x. (option_map_or (λ loan. take_in h name bytes loan past.state) x past.state).next) found
counts_one place made past (Retain h) none given = absurd (other_reply past (Retain h) made refl given)
counts_one place made past call none given = absurd (other_reply past call made refl given)

pub made_handle : (history : History) (actor h : ℕ) (call : Call) → Legal (history ++ Called actor call (reply.Made h) ∷ []) →
    (h ≡ (after history).state.next) × ((after (history ++ Called actor call (reply.Made h) ∷ [])).state.next ≡ h + 1)
unfolding change
made_handle history actor h call legal =
    let reply_is : (refusal (after history) call ≡ None) × IsGiven (after history) call (reply.Made h) =
    given (after history) call (reply.Made h) (in_place history (Called actor call (reply.Made h)) [] legal).0 (λ refused is. cc) in
    let next : h ≡ (after history).state.next = made_is_next (after history) call h reply_is.1 in
    let one : (changed (after history) (Called actor call (reply.Made h))).next ≡ (after history).state.next + 1 = counts_one (next_place (after history)) h (after history) call reply_is.0 reply_is.1 in (
      next,
      ap (λ (past : Past). past.state.next) (after_more history (Called actor call (reply.Made h)))
          ∙ ap (λ (s : State). s.next) (step_state (after history) (Called actor call (reply.Made h)))
          ∙ (swept_next (step (after history) (Called actor call (reply.Made h))) (changed (after history) (Called actor call (reply.Made h)))).0
          ∙ one ∙ ap (λ n. n + 1) (sym next),
    )

pub made_handles_rise : (first second : History) (actor other h k : ℕ) (call further : Call) →
    Legal (((first ++ Called actor call (reply.Made h) ∷ []) ++ second) ++ Called other further (reply.Made k) ∷ []) → h < k
made_handles_rise first second actor other h k call further legal =
    let early : Legal ((first ++ Called actor call (reply.Made h) ∷ []) ++ second) = prefix_is_legal _ (Called other further (reply.Made k) ∷ []) legal in
    let one : (h ≡ (after first).state.next) × ((after (first ++ Called actor call (reply.Made h) ∷ [])).state.next ≡ h + 1) =
    made_handle first actor h call (prefix_is_legal (first ++ Called actor call (reply.Made h) ∷ []) second early) in
    let two : (k ≡ (after ((first ++ Called actor call (reply.Made h) ∷ []) ++ second)).state.next) × _ =
    made_handle ((first ++ Called actor call (reply.Made h) ∷ []) ++ second) other k further legal in
    let more : (after (first ++ Called actor call (reply.Made h) ∷ [])).state.next ≤ (after ((first ++ Called actor call (reply.Made h) ∷ []) ++ second)).state.next =
    next_grows (first ++ Called actor call (reply.Made h) ∷ []) second in
    omega (arith, one.1, two.0, more)
