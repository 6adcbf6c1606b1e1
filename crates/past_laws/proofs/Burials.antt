-- Where no kept object could be missed, and every kept one is held up, exactly the kept ones live: so deaths by counts are
-- those of the definition.
use Rattle.std.proofs.Common.{ℕ, zero, suc, ◌≡◌, ◌∙◌, ◌⊎◌, inl, inr, Bool, true, false, List, [], ◌∷◌, All, Some, refl, sym, ap, subst}
use Rattle.std.specs.Prelude.{cond}
use Rattle.std.specs.List.{filter}
use Rattle.std.specs.Map.{keys_of}
use Rattle.std.proofs.lemmas.List.Elements.{All-head, All-tail}
use Rattle.seq_model.proofs.Growths.{Objects, is_in, lives_at, put_in, why_in}
use Rattle.seq_model.proofs.Handles.{lives, live_keeps}
use Rattle.seq_model.proofs.Keys.{RisesWithin, all_from_at, at}
use Rattle.seq_model.proofs.Ranked.{Supports, supported_lives}
use Rattle.seq_model.specs.Soundness.{IsRanked}
use Rattle.seq_model.specs.Life.{grown, has, live, names_of}
use Rattle.seq_model.specs.State.{Object}
use Rattle.past_laws.specs.HeldUp.{IsHeldUp}

-- two tests that agree keep the same
same_kept : {X : Type 0} (p q : X → Bool) (xs : List X) → All (λ x. p x ≡ q x) xs → filter p xs ≡ filter q xs
same_kept p q [] same = refl
same_kept {X} p q (x ∷ xs) same =
    ap (λ t. cond t (x ∷ filter p xs) (filter p xs)) (All-head (λ (y : X). p y ≡ q y) x xs same)
    ∙ ap (λ rest. cond (q x) (x ∷ rest) rest) (same_kept p q xs (All-tail (λ (y : X). p y ≡ q y) x xs same))

module _ (root keep : ℕ × Object → Bool) (low high : ℕ) (objects : Objects) (rising : RisesWithin low high (keys_of objects)) (ranked : IsRanked objects)
    (up : IsHeldUp root keep objects) where
  -- whatever lives is kept
  lives_within : (n h : ℕ) (o : Object) → at h (grown root objects n) ≡ Some o → keep (h, o) ≡ true
  lives_within zero h o found =
      let now : (at h objects ≡ Some o) × (root (h, o) ≡ true) = is_in root low high objects rising zero h o found in up.roots h o now.0 now.1
  lives_within (suc n) h o found = by (λ k p. lives_within n k p) (why_in root low high objects rising n h o found)
    where
      there : at h objects ≡ Some o
      there = (is_in root low high objects rising (suc n) h o found).0

      by : ((k : ℕ) (p : Object) → at k (grown root objects n) ≡ Some p → keep (k, p) ≡ true) →
          (root (h, o) ≡ true) ⊎ ((k : ℕ) × (p : Object) × (at k (grown root objects n) ≡ Some p) × (has h (names_of p) ≡ true)) → keep (h, o) ≡ true
      by lower (inl is) = up.roots h o there is
      by lower (inr (k, p, holder, names)) = up.named k h p o (is_in root low high objects rising n k p holder).0 (lower k p holder) names there

  -- and whatever is kept lives
  abbrev IsKept : ℕ → Type 0
  IsKept h = (o : Object) × (at h objects ≡ Some o) × (keep (h, o) ≡ true)

  supports : (h : ℕ) → IsKept h → Supports root low high objects rising ranked IsKept h
  supports h (o, there, is) = by (up.held h o there is)
    where
      by : (root (h, o) ≡ true) ⊎ ((k : ℕ) × (p : Object) × (at k objects ≡ Some p) × (keep (k, p) ≡ true) × (has h (names_of p) ≡ true)) →
          Supports root low high objects rising ranked IsKept h
      by (inl is) = (o, there, inl is)
      by (inr (k, p, holder, kept, names)) = (o, there, inr (k, p, (p, holder, kept), holder, names))

  kept_lives : (h : ℕ) (o : Object) → at h objects ≡ Some o → keep (h, o) ≡ true → lives root objects (h, o) ≡ true
  kept_lives h o there is =
      let one : (q : Object) × (at h (live root objects) ≡ Some q) = supported_lives root low high objects rising ranked IsKept supports h (o, there, is) in
      let now : (at h objects ≡ Some one.0) × (lives root objects (h, one.0) ≡ true) = is_in root low high objects rising 10 h one.0 (lives_at root low high objects rising h one.0 one.1) in
      let found : Some one.0 ≡ Some o = sym now.0 ∙ there in
      let same : one.0 ≡ o = cc in
      subst (λ q. lives root objects (h, q) ≡ true) same now.1

  pub kept_are_live : filter keep objects ≡ live root objects
  kept_are_live = same_kept keep (lives root objects) objects (all_from_at (λ (e : ℕ × Object). keep e ≡ lives root objects e) low high objects rising each) ∙ sym (live_keeps root objects)
    where
      each : (h : ℕ) (o : Object) → at h objects ≡ Some o → keep (h, o) ≡ lives root objects (h, o)
      each h o there = by (keep (h, o)) refl (lives root objects (h, o)) refl
        where
          by : (b : Bool) → keep (h, o) ≡ b → (c : Bool) → lives root objects (h, o) ≡ c → b ≡ c
          by true is true lives_ = refl
          by false is false lives_ = refl
          by true is false lives_ = sym (kept_lives h o there is) ∙ lives_
          by false is true lives_ = sym is ∙ kept_if lives_
            where
              kept_if : lives root objects (h, o) ≡ true → keep (h, o) ≡ true
              kept_if lives_ = lives_within 10 h o (put_in root low high objects rising 10 h o there lives_)
