-- What dies joins the dead, one object after another.
use Rattle.std.proofs.Common.{ℕ, ◌+◌, ◌==◌, ◌≡◌, ◌<◌, ◌∙◌, not, Bool, true, false, List, [], ◌∷◌, ◌++◌, Option, Some, None, length, refl, sym, ap, subst, arith}
use Rattle.std.specs.Prelude.{cond, ◌||◌}
use Rattle.std.specs.BTreeMap.{is_at}
use Rattle.std.specs.List.{cons_option, filter, filter_map}
use Rattle.std.specs.List.Sorted.{IsNonDecreasingBy, IsPermutation}
use Rattle.std.specs.Map.{keys_of, remove_entry}
use Rattle.std.specs.Option.{IsSome, is_some, option_and_then, option_map, option_to_list}
use Rattle.std.specs.Ordering.{nat_cmp}
use Rattle.std.proofs.lemmas.Bool.Decides.{nat_tests}
use Rattle.std.proofs.lemmas.List.{append-nil, append_assoc}
use Rattle.std.proofs.lemmas.List.Sorted.{IsPermutation-cons, IsPermutation-refl, IsPermutation-swap, IsPermutation-trans}
use Rattle.dev_types.specs.declared.handles.Origin.{Origin}
use Rattle.seq_model.proofs.Keys.{RisesWithin, key_is, rises_from_lower, rises_filtered}
use Rattle.seq_model.specs.Life.{has}
use Rattle.seq_model.specs.State.{ArrayState, Object, State}
use Rattle.seq_model.specs.Told.{end_of_array, end_of_object, gone}
use Rattle.object_store.specs.Ends.{Ended, ended, ended_of, notice_of}
use Rattle.object_store.specs.Parts.{at, memory_in}
use Rattle.object_store.proofs.DeadOrder.{sorted_is}
use Rattle.object_store.proofs.Removed.{at_removed, gone as gone_at}

pub longer : {X : Type 0} (a : Option X) (xs : List X) → length (cons_option a xs) ≡ length (option_to_list a) + length xs
longer None xs = let e : 0 + length xs ≡ length xs = omega arith in sym e
longer (Some x) xs = omega arith

abbrev passing : {X : Type 0} → (ℕ → Bool) → List (ℕ × X) → List (ℕ × X)
passing p es = filter (λ e. p e.0) es

module _ {X Z : Type 0} (f : ℕ × X → Option Z) where
  swapped : (a b : Option Z) (zs : List Z) → IsPermutation (cons_option a (cons_option b zs)) (cons_option b (cons_option a zs))
  swapped None b zs = IsPermutation-refl (cons_option b zs)
  swapped (Some x) None zs = IsPermutation-refl (x ∷ zs)
  swapped (Some x) (Some y) zs = IsPermutation-swap (x ∷ y ∷ zs) (y ∷ x ∷ zs) 0 1 (omega arith) (omega arith) refl

  pub with_front : (a : Option Z) (xs ys : List Z) → IsPermutation xs ys → IsPermutation (cons_option a xs) (cons_option a ys)
  with_front None xs ys same = same
  with_front (Some x) xs ys same = IsPermutation-cons x xs ys same

  -- above a key two tests that differ only there let the same through
  same_above : (p q : ℕ → Bool) (h low high : ℕ) (es : List (ℕ × X)) → ((k : ℕ) → (k ≡ h → ⊥) → p k ≡ q k) → RisesWithin low high (keys_of es) → h < low →
      filter (λ e. p e.0) es ≡ filter (λ e. q e.0) es
  same_above p q h low high [] others up below = refl
  same_above p q h low high (e ∷ es) others up below =
      ap (λ t. cond t (e ∷ filter (λ (e : ℕ × X). p e.0) es) (filter (λ (e : ℕ × X). p e.0) es)) (others e.0 (λ same. omega (arith, same, below, up.0)))
      ∙ ap (λ rest. cond (q e.0) (e ∷ rest) rest) (same_above p q h (e.0 + 1) high es others up.1 (omega (arith, below, up.0)))

  -- the entry at a key that only the second test lets through joins the others
  pub one_more : (p q : ℕ → Bool) (h low high : ℕ) (es : List (ℕ × X)) (v : X) → ((k : ℕ) → (k ≡ h → ⊥) → p k ≡ q k) → p h ≡ false → q h ≡ true → RisesWithin low high (keys_of es) → at h es ≡ Some v →
      IsPermutation (cons_option (f (h, v)) (filter_map f (filter (λ e. p e.0) es))) (filter_map f (filter (λ e. q e.0) es))
  one_more p q h low high [] v others out in_ up there = absurd cc
  one_more p q h low high (e ∷ es) v others out in_ up there =
      by (is_at (nat_cmp h) e.0) refl (λ later. one_more p q h (e.0 + 1) high es v others out in_ up.1 later)
    where
      passed : (s t : Bool) → s ≡ t → IsPermutation (cons_option (f (h, v)) (filter_map f (passing p es))) (filter_map f (passing q es)) →
          IsPermutation (cons_option (f (h, v)) (filter_map f (cond s (e ∷ (passing p es)) (passing p es)))) (filter_map f (cond t (e ∷ (passing q es)) (passing q es)))
      passed true true same rest =
          IsPermutation-trans (cons_option (f (h, v)) (cons_option (f e) (filter_map f (passing p es)))) (cons_option (f e) (cons_option (f (h, v)) (filter_map f (passing p es)))) (cons_option (f e) (filter_map f (passing q es)))
          (swapped (f (h, v)) (f e) (filter_map f (passing p es))) (with_front (f e) (cons_option (f (h, v)) (filter_map f (passing p es))) (filter_map f (passing q es)) rest)
      passed false false same rest = rest
      passed true false same rest = absurd cc
      passed false true same rest = absurd cc

      by : (t : Bool) → is_at (nat_cmp h) e.0 ≡ t → (at h es ≡ Some v → IsPermutation (cons_option (f (h, v)) (filter_map f (passing p es))) (filter_map f (passing q es))) →
          IsPermutation (cons_option (f (h, v)) (filter_map f (filter (λ e. p e.0) (e ∷ es)))) (filter_map f (filter (λ e. q e.0) (e ∷ es)))
      by true is rest =
          let key : h ≡ e.0 = key_is h e.0 is in
          let found : Some e.1 ≡ Some v = sym (ap (λ t. cond t (Some e.1) (at h es)) is) ∙ there in
          let value : e.1 ≡ v = cc in
          let entry : (h, v) ≡ e = ap (λ k. (k, v)) key ∙ ap (λ (w : X). (e.0, w)) (sym value) in
          let left : filter (λ (e : ℕ × X). p e.0) (e ∷ es) ≡ (passing p es) = ap (λ t. cond t (e ∷ (passing p es)) (passing p es)) (sym (ap p key) ∙ out) in
          let right : filter (λ (e : ℕ × X). q e.0) (e ∷ es) ≡ e ∷ (passing q es) = ap (λ t. cond t (e ∷ (passing q es)) (passing q es)) (sym (ap q key) ∙ in_) in
          let same : (passing p es) ≡ (passing q es) = same_above p q h (e.0 + 1) high es others up.1 (omega (arith, key)) in
          let both : cons_option (f (h, v)) (filter_map f (filter (λ (e : ℕ × X). p e.0) (e ∷ es))) ≡ filter_map f (filter (λ (e : ℕ × X). q e.0) (e ∷ es)) =
          ap (λ x. cons_option (f x) (filter_map f (filter (λ (e : ℕ × X). p e.0) (e ∷ es)))) entry ∙ ap (λ xs. cons_option (f e) (filter_map f xs)) (left ∙ same) ∙ sym (ap (filter_map f) right) in
          subst (λ xs. IsPermutation (cons_option (f (h, v)) (filter_map f (filter (λ (e : ℕ × X). p e.0) (e ∷ es)))) xs) both
          (IsPermutation-refl (cons_option (f (h, v)) (filter_map f (filter (λ (e : ℕ × X). p e.0) (e ∷ es)))))
      by false is rest = passed (p e.0) (q e.0) (others e.0 (λ same. wrong same)) (rest (sym (ap (λ t. cond t (Some e.1) (at h es)) is) ∙ there))
        where
          wrong : e.0 ≡ h → ⊥
          wrong same = let here : is_at (nat_cmp h) e.0 ≡ true = grind (arith, nat_tests, same) in let no : true ≡ false = sym here ∙ is in cc

  -- what is taken away counts once
  pub one_fewer : (h : ℕ) (es : List (ℕ × X)) (v : X) → at h es ≡ Some v → length (filter_map f es) ≡ length (option_to_list (f (h, v))) + length (filter_map f (remove_entry (is_at (nat_cmp h)) es))
  one_fewer h [] v there = absurd cc
  one_fewer h (e ∷ es) v there = by (is_at (nat_cmp h) e.0) refl (λ later. one_fewer h es v later)
    where
      by : (t : Bool) → is_at (nat_cmp h) e.0 ≡ t → (at h es ≡ Some v → length (filter_map f es) ≡ length (option_to_list (f (h, v))) + length (filter_map f (remove_entry (is_at (nat_cmp h)) es))) →
          length (filter_map f (e ∷ es)) ≡ length (option_to_list (f (h, v))) + length (filter_map f (cond t es (e ∷ remove_entry (is_at (nat_cmp h)) es)))
      by true is rest =
          let found : Some e.1 ≡ Some v = sym (ap (λ t. cond t (Some e.1) (at h es)) is) ∙ there in
          let value : e.1 ≡ v = cc in
          let entry : e ≡ (h, v) = ap (λ k. (k, e.1)) (sym (key_is h e.0 is)) ∙ ap (λ (w : X). (h, w)) value in
          longer (f e) (filter_map f es) ∙ ap (λ x. length (option_to_list (f x)) + length (filter_map f es)) entry
      by false is rest =
          let later : length (filter_map f es) ≡ length (option_to_list (f (h, v))) + length (filter_map f (remove_entry (is_at (nat_cmp h)) es)) =
          rest (sym (ap (λ t. cond t (Some e.1) (at h es)) is) ∙ there) in
          omega (arith, later, longer (f e) (filter_map f es), longer (f e) (filter_map f (remove_entry (is_at (nat_cmp h)) es)))

pub has_key : {X : Type 0} (h : ℕ) (es : List (ℕ × X)) → has h (keys_of es) ≡ is_some (at h es)
has_key h [] = refl
has_key h (e ∷ es) = by (is_at (nat_cmp h) e.0) refl (has_key h es)
  where
    by : (t : Bool) → is_at (nat_cmp h) e.0 ≡ t → has h (keys_of es) ≡ is_some (at h es) → ((e.0 == h) || has h (keys_of es)) ≡ is_some (cond t (Some e.1) (at h es))
    by true is rest = let here : (e.0 == h) ≡ true = grind (arith, nat_tests, key_is h e.0 is) in ap (λ t. t || has h (keys_of es)) here
    by false is rest = let other : (e.0 == h) ≡ false = grind (arith, nat_tests, is) in ap (λ t. t || has h (keys_of es)) other ∙ rest

-- what ends, by rising handles
rises_ended : (low high : ℕ) (es : List (ℕ × Object)) → RisesWithin low high (keys_of es) → RisesWithin low high (keys_of (ended es))
rises_ended low high [] up = up
rises_ended low high (e ∷ es) up = by (memory_in e.1.array) (rises_ended (e.0 + 1) high es up.1)
  where
    by : (m : Option (List ℕ × Origin)) → RisesWithin (e.0 + 1) high (keys_of (ended es)) → RisesWithin low high (keys_of (cons_option (option_map (λ memory. (e.0, memory)) m) (ended es)))
    by None rest = rises_from_lower (e.0 + 1) low high (keys_of (ended es)) (omega (arith, up.0)) rest
    by (Some m) rest = (up.0, rest)

-- what is told of arrays that died is what is told of the objects
pub told_of_ended : (es : List (ℕ × Object)) → filter_map notice_of (ended es) ≡ filter_map end_of_object es
told_of_ended [] = refl
told_of_ended (e ∷ es) = by e.1.array (told_of_ended es)
  where
    by : (a : Option ArrayState) → filter_map notice_of (ended es) ≡ filter_map end_of_object es →
        filter_map notice_of (cons_option (option_map (λ memory. (e.0, memory)) (memory_in a)) (ended es)) ≡ cons_option (option_and_then (λ (a : ArrayState). end_of_array e.0 a.block.bytes a.origin) a) (filter_map end_of_object es)
    by None rest = rest
    by (Some a) rest = ap (cons_option (end_of_array e.0 a.block.bytes a.origin)) rest

module _ (old now : State) (high : ℕ) (up : RisesWithin 1 high (keys_of old.objects)) where
  -- one more object goes
  pub gone_more : (h : ℕ) (o : Object) (left : List (ℕ × Object)) → RisesWithin 1 high (keys_of now.objects) → left ≡ remove_entry (is_at (nat_cmp h)) now.objects → at h old.objects ≡ Some o → IsSome (at h now.objects) →
      IsPermutation (cons_option (ended_of (h, o)) (ended (gone old now))) (ended (gone old (record now { objects = left })))
  gone_more h o left now_up is there there_too =
      one_more ended_of (λ k. not (has k (keys_of now.objects))) (λ k. not (has k (keys_of left))) h 1 high old.objects o
      (λ k apart. ap not (has_key k now.objects ∙ sym (has_key k left ∙ ap (λ es. is_some (at k es)) is ∙ ap is_some (at_removed h k now.objects apart))))
      (ap not (has_key h now.objects ∙ there_too)) (ap not (has_key h left ∙ ap (λ es. is_some (at h es)) is ∙ ap is_some (gone_at h 1 high now.objects now_up))) up there

  -- in their order they are exactly what is gone
  pub ordered_dead : (list : List Ended) → IsPermutation (ended (gone old now)) list → IsNonDecreasingBy (λ (e : Ended). e.0) list → list ≡ ended (gone old now)
  ordered_dead list moved sorted =
      sorted_is 1 high (ended (gone old now)) list (rises_ended 1 high (gone old now) (rises_filtered (λ (e : ℕ × Object). not (has e.0 (keys_of now.objects))) 1 high old.objects up)) moved sorted

-- one more is told
pub told_one : {X : Type 0} (old now : List X) (one : Option X) (rest : List X) → now ≡ old ++ option_to_list one → now ++ rest ≡ old ++ cons_option one rest
told_one old now None rest is = ap (λ xs. xs ++ rest) (is ∙ append-nil old)
told_one old now (Some x) rest is = ap (λ xs. xs ++ rest) is ∙ append_assoc old (x ∷ []) rest
