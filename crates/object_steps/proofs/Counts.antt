-- The references and holds of a store after a call was carried out.
use Rattle.std.proofs.Common.{ℕ, ◌+◌, ◌-◌, ◌==◌, ◌≡◌, ◌≤◌, ◌∙◌, ◌⊎◌, inl, inr, Bool, true, false, List, [], ◌∷◌, ◌++◌, Option, Some, None, refl, sym, ap, subst, arith}
use Rattle.std.specs.Prelude.{cond}
use Rattle.std.specs.BTreeMap.{is_at}
use Rattle.std.specs.Map.{keys_of, set_value}
use Rattle.std.specs.Option.{is_some, unwrap_or}
use Rattle.std.specs.Ordering.{nat_cmp}
use Rattle.std.proofs.lemmas.Bool.{cases_eq, eq-eqb, eqb-true}
use Rattle.object_store.specs.Kept.{CountsItsObjects, Stored, number_at}
use Rattle.object_store.proofs.Counted.{none_by}
use Rattle.object_store.proofs.DeadSteps.{has_key}
use Rattle.object_store.proofs.Totals.{at_last, at_more}
use Rattle.seq_model.specs.Histories.{History, public}
use Rattle.seq_model.specs.Legal.{Legal}
use Rattle.seq_model.specs.Life.{has}
use Rattle.seq_model.specs.State.{State, object_at}
use Rattle.seq_model.specs.Steps.{after}
use Rattle.seq_model.specs.declared.calls.Call.{Call}
use Rattle.seq_model.specs.declared.calls.Call.TheVariants.{NewObject, NewArray, Retain, Release, UnmapParameterArray}
use Rattle.seq_model.specs.declared.calls.Entry.{Entry}
use Rattle.seq_model.specs.declared.calls.Entry.TheVariants.{Called}
use Rattle.seq_model.specs.declared.calls.Reply.{Reply}
use Rattle.seq_model.specs.declared.calls.Reply.TheVariants as reply
use Rattle.seq_model.proofs.Creations.{made_handle}
use Rattle.seq_model.proofs.Handles.{rises}
use Rattle.seq_model.proofs.Held.{what_is_gone_is_not_held}
use Rattle.seq_model.proofs.Keys.{at, at_changed, at_unchanged, nothing_outside}
use Rattle.seq_model.proofs.Publics.{public_moves}
use Rattle.object_steps.specs.Carrying.{CanCarry, counted}
use Rattle.object_steps.specs.Resting.{IsAtRest}

-- keys that are alike are there alike
pub alike : {X Y : Type 0} (h : ℕ) (es : List (ℕ × X)) (fs : List (ℕ × Y)) → keys_of fs ≡ keys_of es → at h es ≡ None → at h fs ≡ None
alike h es fs same none = none_by (at h fs) (sym (has_key h fs) ∙ ap (has h) same ∙ has_key h es ∙ ap is_some none)

pub no_number : (numbers : List (ℕ × ℕ)) (h : ℕ) → at h numbers ≡ None → number_at numbers h ≡ 0
no_number numbers h none = ap (λ x. unwrap_or x 0) none

-- there is one where it is not 0
numbered : (numbers : List (ℕ × ℕ)) (h : ℕ) → 1 ≤ number_at numbers h → (n : ℕ) × (at h numbers ≡ Some n)
numbered numbers h some = by (at h numbers) refl
  where
    by : (x : Option ℕ) → at h numbers ≡ x → (n : ℕ) × (at h numbers ≡ Some n)
    by (Some n) is = (n, is)
    by None is = absurd (omega (arith, some, no_number numbers h is))

-- numbers with one more
more_number : (numbers : List (ℕ × ℕ)) (next n h : ℕ) → at next numbers ≡ None → number_at (numbers ++ (next, n) ∷ []) h ≡ number_at numbers h + cond (next == h) n 0
more_number numbers next n h none = by (cases_eq h next)
  where
    by : (h ≡ next) ⊎ (h ≡ next → ⊥) → number_at (numbers ++ (next, n) ∷ []) h ≡ number_at numbers h + cond (next == h) n 0
    by (inl same) =
        let last : number_at (numbers ++ (next, n) ∷ []) h ≡ n = ap (number_at (numbers ++ (next, n) ∷ [])) same ∙ ap (λ x. unwrap_or x 0) (at_last next numbers n none) in
        let first : number_at numbers h ≡ 0 = ap (number_at numbers) same ∙ no_number numbers next none in
        let test : cond (next == h) n 0 ≡ n = ap (λ t. cond t n 0) (eq-eqb next h (sym same)) in
        omega (arith, last, first, test)
    by (inr apart) =
        let kept : number_at (numbers ++ (next, n) ∷ []) h ≡ number_at numbers h = ap (λ x. unwrap_or x 0) (at_more h next numbers n apart) in
        let test : cond (next == h) n 0 ≡ 0 = of (next == h) refl in
        omega (arith, kept, test)
      where
        of : (t : Bool) → (next == h) ≡ t → cond t n 0 ≡ 0
        of true is = absurd (apart (sym (eqb-true next h is)))
        of false is = refl

-- numbers with one of them changed
set_number : (numbers : List (ℕ × ℕ)) (k m h : ℕ) → 1 ≤ number_at numbers k → number_at (set_value (is_at (nat_cmp k)) numbers m) h ≡ cond (k == h) m (number_at numbers h)
set_number numbers k m h some = by (k == h) refl
  where
    one : (n : ℕ) × (at k numbers ≡ Some n)
    one = numbered numbers k some

    by : (t : Bool) → (k == h) ≡ t → number_at (set_value (is_at (nat_cmp k)) numbers m) h ≡ cond t m (number_at numbers h)
    by true is = ap (number_at (set_value (is_at (nat_cmp k)) numbers m)) (sym (eqb-true k h is)) ∙ ap (λ x. unwrap_or x 0) (at_changed k numbers one.0 m one.1)
    by false is =
        ap (λ x. unwrap_or x 0) (at_unchanged k h numbers m (λ same. let wrong : true ≡ false = sym (eq-eqb k h (sym same)) ∙ is in cc))

pub none_more : (a b : ℕ) → a + cond false 1 0 ≡ b + cond false 1 0 + cond false 1 0 → b ≡ a
none_more a b moves = omega (arith, moves)

no_more : (t : Bool) (n : ℕ) → n + cond t 0 0 ≡ n
no_more true n = omega arith
no_more false n = omega arith

module _ (s : Stored) (history : History) (rest : IsAtRest s history) (counts : CountsItsObjects s) where
  kept : (P : State → Type 0) → P (after history).state → P s.state
  kept P p = subst P (sym rest.state) p

  -- the next handle is that of nothing
  unborn : at s.state.next s.state.objects ≡ None
  unborn = kept (λ st. at st.next st.objects ≡ None) (nothing_outside (after history).state.next 1 (after history).state.next (after history).state.objects (rises history) (λ low high. omega (arith, high)))

  pub holds_moved : (call : Call) (r : Reply) (h : ℕ) → number_at (counted call r s).holds h ≡ number_at s.holds h
  holds_moved (NewObject t subtype) (reply.Made made) h = more_number s.holds s.state.next 0 h (alike s.state.next s.state.objects s.holds counts.holds unborn) ∙ no_more (s.state.next == h) (number_at s.holds h)
  holds_moved (NewArray elem count stride origin bytes) (reply.Made made) h =
      more_number s.holds s.state.next 0 h (alike s.state.next s.state.objects s.holds counts.holds unborn) ∙ no_more (s.state.next == h) (number_at s.holds h)
  holds_moved (UnmapParameterArray k name number bytes) (reply.Made made) h =
      more_number s.holds s.state.next 0 h (alike s.state.next s.state.objects s.holds counts.holds unborn) ∙ no_more (s.state.next == h) (number_at s.holds h)
  holds_moved (Retain k) reply.Done h = refl
  holds_moved (Release k) reply.Done h = refl
  holds_moved _ _ h = refl

  module _ (e : Entry) (legal : Legal (history ++ e ∷ [])) where
    -- also of what is gone
    all_held : (h : ℕ) → number_at s.public h ≡ public history h
    all_held h = by (is_some (object_at s.state h)) refl
      where
        by : (t : Bool) → is_some (object_at s.state h) ≡ t → number_at s.public h ≡ public history h
        by true is = rest.public h is
        by false is =
            let gone : object_at s.state h ≡ None = none_by (object_at s.state h) is in
            no_number s.public h (alike h s.state.objects s.public counts.public gone)
            ∙ sym (what_is_gone_is_not_held history e h legal (subst (λ st. object_at st h ≡ None) rest.state gone))

  born_next : (n h : ℕ) → number_at (s.public ++ (s.state.next, n) ∷ []) h ≡ number_at s.public h + cond (s.state.next == h) n 0
  born_next n h = more_number s.public s.state.next n h (alike s.state.next s.state.objects s.public counts.public unborn)

  made_moved : (actor k h : ℕ) (call : Call) → Legal (history ++ Called actor call (reply.Made k) ∷ []) → (a : ℕ) → a + cond false 1 0 ≡ public history h + cond (k == h) 1 0 + cond false 1 0 →
      number_at (s.public ++ (s.state.next, 1) ∷ []) h ≡ a
  made_moved actor k h call legal a moves =
      let next : k ≡ s.state.next = (made_handle history actor k call legal).0 ∙ ap (λ (st : State). st.next) (sym rest.state) in
      let held : number_at s.public h ≡ public history h = all_held (Called actor call (reply.Made k)) legal h in
      let born : number_at (s.public ++ (s.state.next, 1) ∷ []) h ≡ number_at s.public h + cond (k == h) 1 0 = born_next 1 h ∙ ap (λ k. number_at s.public h + cond (k == h) 1 0) (sym next) in
      omega (arith, moves, held, born)

  pub public_moved : (actor : ℕ) (call : Call) (r : Reply) → Legal (history ++ Called actor call r ∷ []) → CanCarry s call r → (h : ℕ) →
      number_at (counted call r s).public h ≡ public (history ++ Called actor call r ∷ []) h
  public_moved actor (NewObject t subtype) (reply.Made k) legal can h =
      made_moved actor k h (NewObject t subtype) legal (public (history ++ Called actor (NewObject t subtype) (reply.Made k) ∷ []) h) (public_moves history (Called actor (NewObject t subtype) (reply.Made k)) h legal)
  public_moved actor (NewArray elem count stride origin bytes) (reply.Made k) legal can h =
      made_moved actor k h (NewArray elem count stride origin bytes) legal (public (history ++ Called actor (NewArray elem count stride origin bytes) (reply.Made k) ∷ []) h)
      (public_moves history (Called actor (NewArray elem count stride origin bytes) (reply.Made k)) h legal)
  public_moved actor (UnmapParameterArray k name number bytes) (reply.Made made) legal can h =
      born_next 0 h ∙ no_more (s.state.next == h) (number_at s.public h) ∙ all_held (Called actor (UnmapParameterArray k name number bytes) (reply.Made made)) legal h
      ∙ none_more (public (history ++ Called actor (UnmapParameterArray k name number bytes) (reply.Made made) ∷ []) h) (public history h)
      (public_moves history (Called actor (UnmapParameterArray k name number bytes) (reply.Made made)) h legal)
  public_moved actor (Retain k) reply.Done legal can h =
      set_number s.public k (number_at s.public k + 1) h can.0
      ∙ by (k == h) refl (public_moves history (Called actor (Retain k) reply.Done) h legal)
    where
      by : (t : Bool) → (k == h) ≡ t → public (history ++ Called actor (Retain k) reply.Done ∷ []) h + cond false 1 0 ≡ public history h + cond false 1 0 + cond t 1 0 →
          cond t (number_at s.public k + 1) (number_at s.public h) ≡ public (history ++ Called actor (Retain k) reply.Done ∷ []) h
      by true is moves =
          let same : number_at s.public k ≡ number_at s.public h = ap (number_at s.public) (eqb-true k h is) in
          omega (arith, moves, same, all_held (Called actor (Retain k) reply.Done) legal h)
      by false is moves = omega (arith, moves, all_held (Called actor (Retain k) reply.Done) legal h)
  public_moved actor (Release k) reply.Done legal can h =
      set_number s.public k (number_at s.public k - 1) h can
      ∙ by (k == h) refl (public_moves history (Called actor (Release k) reply.Done) h legal)
    where
      by : (t : Bool) → (k == h) ≡ t → public (history ++ Called actor (Release k) reply.Done ∷ []) h + cond t 1 0 ≡ public history h + cond false 1 0 + cond false 1 0 →
          cond t (number_at s.public k - 1) (number_at s.public h) ≡ public (history ++ Called actor (Release k) reply.Done ∷ []) h
      by true is moves =
          let same : number_at s.public k ≡ number_at s.public h = ap (number_at s.public) (eqb-true k h is) in
          omega (arith, moves, same, can, all_held (Called actor (Release k) reply.Done) legal h)
      by false is moves = omega (arith, moves, all_held (Called actor (Release k) reply.Done) legal h)
  public_moved actor call r legal can h =
      all_held (Called actor call r) legal h ∙ none_more (public (history ++ Called actor call r ∷ []) h) (public history h) (public_moves history (Called actor call r) h legal)
