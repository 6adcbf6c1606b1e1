-- Sums over the objects of a state, where one of them changes or one more is made.
use Rattle.std.proofs.Common.{◌≡◌, ◌∙◌, ◌+◌, ◌≤◌, ◌∷◌, ℕ, Bool, true, false, cond, List, [], Option, Some, None, refl, sym, ap, arith}
use Rattle.std.specs.BTreeMap.{is_at}
use Rattle.std.specs.List.{filter, sum_by}
use Rattle.std.specs.Map.{set_value, values_of}
use Rattle.std.specs.Option.{option_map, unwrap_or}
use Rattle.std.specs.Ordering.{nat_cmp}
use Rattle.std.proofs.lemmas.List.Sums.{sum_by-cons, sum_by_push}
use Rattle.std.proofs.lemmas.Map.Entries.{sum_by-set_value}
use Rattle.seq_model.specs.State.{Object, State, changed_at, object_at, with_object}

module _ (weight : Object → ℕ) where
  abbrev weigh : ℕ × Object → ℕ
  weigh e = weight e.1

  abbrev pub total : State → ℕ
  total s = sum_by weigh s.objects

  by_values : (es : List (ℕ × Object)) → sum_by weigh es ≡ sum_by weight (values_of es)
  by_values [] = refl
  by_values (e ∷ es) = sum_by-cons weigh e es ∙ ap (λ n. weight e.1 + n) (by_values es) ∙ sym (sum_by-cons weight e.1 (values_of es))

  -- an object that is there changes
  pub changed_total : (h : ℕ) (f : Object → Object) (s : State) (o : Object) → object_at s h ≡ Some o → total (changed_at h f s) + weight o ≡ total s + weight (f o)
  changed_total h f s o there =
      ap (λ x. sum_by weigh (unwrap_or (option_map (λ o. set_value (is_at (nat_cmp h)) s.objects (f o)) x) s.objects) + weight o) there
      ∙ ap (λ n. n + weight o) (by_values (set_value (is_at (nat_cmp h)) s.objects (f o)))
      ∙ sum_by-set_value weight (is_at (nat_cmp h)) s.objects o (f o) there
      ∙ ap (λ n. n + weight (f o)) (sym (by_values s.objects))

  -- an object changes, and counts as much, or not much more
  pub more_total : (h most : ℕ) (f : Object → Object) (s : State) → ((o : Object) → weight (f o) ≤ weight o + most) → total (changed_at h f s) ≤ total s + most
  more_total h most f s more = by (object_at s h) refl
    where
      by : (x : Option Object) → object_at s h ≡ x → total (changed_at h f s) ≤ total s + most
      by None none = let same = ap (λ x. sum_by weigh (unwrap_or (option_map (λ o. set_value (is_at (nat_cmp h)) s.objects (f o)) x) s.objects)) none in omega (arith, same)
      by (Some o) there = let moved = changed_total h f s o there in let least = more o in omega (arith, moved, least)

  pub same_total : (h : ℕ) (f : Object → Object) (s : State) → ((o : Object) → weight (f o) ≡ weight o) → total (changed_at h f s) ≡ total s
  same_total h f s same = by (object_at s h) refl
    where
      by : (x : Option Object) → object_at s h ≡ x → total (changed_at h f s) ≡ total s
      by None none = ap (λ x. sum_by weigh (unwrap_or (option_map (λ o. set_value (is_at (nat_cmp h)) s.objects (f o)) x) s.objects)) none
      by (Some o) there = let moved = changed_total h f s o there in let still = same o in omega (arith, moved, still)

  -- one more object counts nothing
  pub new_total : (o : Object) (s : State) → weight o ≡ 0 → total (with_object o s) ≡ total s
  new_total o s none = sum_by_push weigh s.objects (s.next, o) ∙ (let zero_more = none in omega (arith, zero_more))

  -- some of the objects count no more than all
  pub fewer_total : (keep : ℕ × Object → Bool) (es : List (ℕ × Object)) → sum_by weigh (filter keep es) ≤ sum_by weigh es
  fewer_total keep [] = omega arith
  fewer_total keep (e ∷ es) = by (keep e) (fewer_total keep es)
    where
      all : sum_by weigh (e ∷ es) ≡ weight e.1 + sum_by weigh es
      all = sum_by-cons weigh e es

      by : (b : Bool) → sum_by weigh (filter keep es) ≤ sum_by weigh es → sum_by weigh (cond b (e ∷ filter keep es) (filter keep es)) ≤ sum_by weigh (e ∷ es)
      by true rest = let some = sum_by-cons weigh e (filter keep es) in omega (arith, all, some, rest)
      by false rest = omega (arith, all, rest)
