-- A property as objects tell it is the one of the past that they stand for.
use Rattle.std.proofs.Common.{◌≡◌, ◌∙◌, ◌⊎◌, inl, inr, ℕ, zero, suc, List, [], ◌∷◌, ◌++◌, Option, Some, None, Result, Ok, Err, refl, sym, ap, subst}
use Rattle.std.specs.Prelude.{IfOk, IsSome}
use Rattle.std.specs.Option.{option_and_then, option_map, option_or}
use Rattle.dev_types.specs.declared.refusals.Refused.{Refused}
use Rattle.dev_types.specs.declared.refusals.Refused.TheVariants.{NoMemory}
use Rattle.dev_types.specs.declared.values.Value.{Value}
use Rattle.kind_tables.specs.SceneObjects.{SceneObjects, object_at as scene_at}
use Rattle.kind_tables.specs.Typed.{AreFit}
use Rattle.past_laws.proofs.GrantedScenes.{legal_is_fit}
use Rattle.seq_model.proofs.SoundSteps.{is_alive}
use Rattle.seq_model.specs.Answers.{answer, is_done, property_of}
use Rattle.seq_model.specs.Legal.{Legal}
use Rattle.seq_model.specs.Properties.{property_by, refusal_of_property}
use Rattle.seq_model.specs.Refusals.{dead, first_of, not_held, own, phase_at, refusal, refusals_of, refusals_of_query}
use Rattle.seq_model.specs.State.{Object, object_at, scene_object, scene_objects}
use Rattle.seq_model.specs.Steps.{Past, after}
use Rattle.seq_model.specs.declared.calls.Call.TheVariants.{GetProperty}
use Rattle.seq_model.specs.declared.calls.Reply.TheVariants.{Denied, Val}
use Rattle.device_queries.specs.Properties.{property_at, refusal_at}
use Rattle.device_queries.specs.Refusing.{IsReason}
use Rattle.call_answers.proofs.Seen.{seen_at}
use Rattle.call_answers.specs.Telling.{first_refusals}

-- one more refusal, behind some
behind_none : (xs : List (Option Refused)) (x : Option Refused) → first_of xs ≡ None → first_of (xs ++ x ∷ []) ≡ x
behind_none [] None none = refl
behind_none [] (Some r) none = refl
behind_none (None ∷ xs) x none = behind_none xs x none
behind_none (Some r ∷ xs) x none = absurd cc

behind_some : (xs : List (Option Refused)) (x : Option Refused) (r : Refused) → first_of xs ≡ Some r → first_of (xs ++ x ∷ []) ≡ Some r
behind_some [] x r some = absurd cc
behind_some (None ∷ xs) x r some = behind_some xs x r some
behind_some (Some s ∷ xs) x r some = some

module _ (past : Past) (objects : SceneObjects) (are : objects ≡ scene_objects past.state) (h : ℕ) (name : List ℕ) where
  -- an object that is asked is there
  pub asked_is_there : first_of (first_refusals past h) ≡ None → (h ≡ 0) ⊎ IsSome (scene_at objects h)
  asked_is_there = by h
    where
      by : (h : ℕ) → first_of (first_refusals past h) ≡ None → (h ≡ 0) ⊎ IsSome (scene_at objects h)
      by zero none = inl refl
      by (suc k) none = inr (there (dead past (suc k)) refl none)
        where
          there : (x : Option Refused) → dead past (suc k) ≡ x → first_of (own past (suc k)) ≡ None → IsSome (scene_at objects (suc k))
          there None is none =
              let one : (o : Object) × (object_at past.state (suc k) ≡ Some o) = is_alive past (suc k) is in
              subst IsSome (sym (seen_at objects past.state (suc k) are ∙ ap (option_map scene_object) one.1)) refl
          there (Some r) is none = absurd (let wrong : Some r ≡ None = ap (λ x. option_or x (first_of (not_held past (suc k) ∷ []))) (sym is) ∙ none in cc)

  -- why it is not told
  pub refused_as_objects : first_of (first_refusals past h) ≡ None → first_of (refusals_of_query past h name) ≡ refusal_at objects h name
  refused_as_objects none = by h none ∙ ap (λ os. refusal_at os h name) (sym are)
    where
      seen_again : (k : ℕ) (found : Option Object) →
          option_and_then (λ o. refusal_of_property (scene_objects past.state) (suc k) o.kind name) (option_map scene_object found)
          ≡ option_and_then (λ o. refusal_of_property (scene_objects past.state) (suc k) o.kind name) found
      seen_again k None = refl
      seen_again k (Some o) = refl

      by : (h : ℕ) → first_of (first_refusals past h) ≡ None → first_of (refusals_of_query past h name) ≡ refusal_at (scene_objects past.state) h name
      by zero none = behind_none [] _ refl
      by (suc k) none =
          behind_none (own past (suc k)) _ none
          ∙ sym (ap (option_and_then (λ o. refusal_of_property (scene_objects past.state) (suc k) o.kind name)) (seen_at (scene_objects past.state) past.state (suc k) refl)
          ∙ seen_again k (object_at past.state (suc k)))

  pub refused_unasked : (r : Refused) → first_of (first_refusals past h) ≡ Some r → first_of (refusals_of_query past h name) ≡ Some r
  refused_unasked r some = by h some
    where
      by : (h : ℕ) → first_of (first_refusals past h) ≡ Some r → first_of (refusals_of_query past h name) ≡ Some r
      by zero some = absurd cc
      by (suc k) some = behind_some (own past (suc k)) _ r some

  -- what is told
  told_as_objects : property_at objects h (is_done (phase_at past h)) ≡ property_of past h
  told_as_objects = ap (λ os. property_at os h (is_done (phase_at past h))) are ∙ by h
    where
      seen_again : (k : ℕ) (found : Option Object) →
          option_map (λ o. property_by (scene_objects past.state) (suc k) (is_done (phase_at past (suc k))) o.kind) (option_map scene_object found)
          ≡ option_map (λ o. property_by (scene_objects past.state) (suc k) (is_done (phase_at past (suc k))) o.kind) found
      seen_again k None = refl
      seen_again k (Some o) = refl

      by : (h : ℕ) → property_at (scene_objects past.state) h (is_done (phase_at past h)) ≡ property_of past h
      by zero = refl
      by (suc k) =
          ap (option_map (λ o. property_by (scene_objects past.state) (suc k) (is_done (phase_at past (suc k))) o.kind)) (seen_at (scene_objects past.state) past.state (suc k) refl)
          ∙ seen_again k (object_at past.state (suc k))

  -- the replies
  pub value_replied : (v : Value) → first_of (first_refusals past h) ≡ None → refusal_at objects h name ≡ None →
      property_at objects h (is_done (phase_at past h)) ≡ Some v → answer past (GetProperty h name) ≡ Some (Val v)
  unfolding answer refusal refusals_of
  value_replied v asked none is =
      ap (λ x. option_or (option_map Denied x) (option_map Val (property_of past h))) (refused_as_objects asked ∙ none)
      ∙ ap (option_map Val) (sym told_as_objects ∙ is)

  pub refusal_replied : (r : Refused) → first_of (first_refusals past h) ≡ None → IsReason (refusal_at objects h name) r →
      (r ≡ NoMemory) ⊎ (answer past (GetProperty h name) ≡ Some (Denied r))
  unfolding answer refusal refusals_of
  refusal_replied r asked (inl want) = inl want
  refusal_replied r asked (inr is) = inr (ap (λ x. option_or (option_map Denied x) (option_map Val (property_of past h))) (refused_as_objects asked ∙ is))

  pub unasked_replied : (r : Refused) → first_of (first_refusals past h) ≡ Some r → answer past (GetProperty h name) ≡ Some (Denied r)
  unfolding answer refusal refusals_of
  unasked_replied r some = ap (λ x. option_or (option_map Denied x) (option_map Val (property_of past h))) (refused_unasked r some)

-- the refusal of a query, where the object is asked
pub query_refused : (past : Past) (objects : SceneObjects) (h : ℕ) (name : List ℕ) (E : Type 0) (found : Result (Option Refused) E) → objects ≡ scene_objects past.state →
    first_of (first_refusals past h) ≡ None → IfOk found (λ refusal. refusal ≡ refusal_at objects h name) → IfOk found (λ refusal. refusal ≡ first_of (refusals_of_query past h name))
query_refused past objects h name E (Ok refusal) are none is = is ∙ sym (refused_as_objects past objects are h name none)
query_refused past objects h name E (Err e) are none is = tt

-- the objects of a legal past are fit to be read
pub past_is_fit : (past : Past) (objects : SceneObjects) → objects ≡ scene_objects past.state → past ≡ after past.seen → Legal past.seen → AreFit objects
past_is_fit past objects are led legal =
    subst AreFit (sym (are ∙ ap (λ (p : Past). scene_objects p.state) led)) (legal_is_fit past.seen legal)
