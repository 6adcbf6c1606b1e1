-- The arrays from a handle on, as they end one after another from the last to the first.
use Rattle.std.proofs.Common.{ℕ, ◌+◌, ◌-◌, ◌≡◌, ◌<◌, ◌≤◌, ◌∙◌, ◌⊎◌, inl, inr, nat_lt, not, Bool, true, false, List, [], ◌∷◌, Option, Some, None, length, refl, sym, ap, subst, arith}
use Rattle.std.specs.Prelude.{cond}
use Rattle.std.specs.BTreeMap.{is_at}
use Rattle.std.specs.List.{cons_option, filter}
use Rattle.std.specs.Map.{keys_of}
use Rattle.std.specs.Option.{is_some, option_and_then, option_map, option_to_list}
use Rattle.std.specs.Ordering.{nat_cmp}
use Rattle.std.proofs.lemmas.Bool.{cases_eq, cases_lt}
use Rattle.std.proofs.lemmas.Bool.Decides.{nat_tests}
use Rattle.array_objects.specs.Stores.{Arrays, array_at, block_at}
use Rattle.array_objects.specs.declared.arrays.Array.{Array}
use Rattle.array_objects.specs.declared.arrays.Block.{Block}
use Rattle.handle_table.specs.HandleMaps.{HandleMap, RiseWithin, value_at}
use Rattle.seq_model.proofs.Keys.{RisesWithin, key_here, key_is_other, nothing_outside, rises_up}
use Rattle.seq_model.specs.State.{Object}
use Rattle.object_store.specs.Ends.{Ended, Ends, death_of, ended, ended_of}
use Rattle.object_store.specs.Parts.{Part, at, joined, object_of}
use Rattle.object_store.proofs.Counted.{none_by}
use Rattle.object_store.proofs.DeadSteps.{longer}
use Rattle.object_store.proofs.Keyed.{at_keyed, keys_keyed, rises}

-- the objects from a handle on
abbrev pub from_on : ℕ → List (ℕ × Object) → List (ℕ × Object)
from_on i es = filter (λ e. not (nat_lt e.0 i)) es

below : (k i : ℕ) → k < i → not (nat_lt k i) ≡ false
below k i less = grind (arith, nat_tests, less)

not_below : (k i : ℕ) → i ≤ k → not (nat_lt k i) ≡ true
not_below k i more = grind (arith, nat_tests, more)

pub all_from : (i low high : ℕ) (es : List (ℕ × Object)) → RisesWithin low high (keys_of es) → i ≤ low → from_on i es ≡ es
all_from i low high [] up less = refl
all_from i low high (e ∷ es) up less =
    ap (λ t. cond t (e ∷ from_on i es) (from_on i es)) (not_below e.0 i (omega (arith, up.0, less)))
    ∙ ap (λ rest. e ∷ rest) (all_from i (e.0 + 1) high es up.1 (omega (arith, up.0, less)))

pub none_from : (i low high : ℕ) (es : List (ℕ × Object)) → RisesWithin low high (keys_of es) → high ≤ i → from_on i es ≡ []
none_from i low high [] up more = refl
none_from i low high (e ∷ es) up more =
    ap (λ t. cond t (e ∷ from_on i es) (from_on i es)) (below e.0 i (omega (arith, rises_up (e.0 + 1) high (keys_of es) up.1, more)))
    ∙ none_from i (e.0 + 1) high es up.1 more

-- one more ends, if it is there
pub step_down : (i low high : ℕ) (es : List (ℕ × Object)) → RisesWithin low high (keys_of es) →
    cons_option (option_and_then (λ o. ended_of (i, o)) (at i es)) (ended (from_on (i + 1) es)) ≡ ended (from_on i es)
step_down i low high [] up = refl
step_down i low high (e ∷ es) up = by (cases_lt e.0 i) (cases_eq e.0 i) (step_down i (e.0 + 1) high es up.1)
  where
    by : (e.0 < i) ⊎ (i ≤ e.0) → (e.0 ≡ i) ⊎ (e.0 ≡ i → ⊥) → cons_option (option_and_then (λ o. ended_of (i, o)) (at i es)) (ended (from_on (i + 1) es)) ≡ ended (from_on i es) →
        cons_option (option_and_then (λ o. ended_of (i, o)) (at i (e ∷ es))) (ended (from_on (i + 1) (e ∷ es))) ≡ ended (from_on i (e ∷ es))
    by (inl less) same rest =
        ap (λ t. cons_option (option_and_then (λ o. ended_of (i, o)) (cond t (Some e.1) (at i es))) (ended (from_on (i + 1) (e ∷ es)))) (key_is_other i e.0 (λ is. omega (arith, is, less)))
        ∙ ap (λ t. cons_option (option_and_then (λ o. ended_of (i, o)) (at i es)) (ended (cond t (e ∷ from_on (i + 1) es) (from_on (i + 1) es)))) (below e.0 (i + 1) (omega (arith, less)))
        ∙ rest
        ∙ sym (ap (λ t. ended (cond t (e ∷ from_on i es) (from_on i es))) (below e.0 i less))
    by (inr more) (inl is) rest =
        ap (λ t. cons_option (option_and_then (λ o. ended_of (i, o)) (cond t (Some e.1) (at i es))) (ended (from_on (i + 1) (e ∷ es)))) (ap (λ k. is_at (nat_cmp i) k) is ∙ key_here i)
        ∙ ap (λ t. cons_option (ended_of (i, e.1)) (ended (cond t (e ∷ from_on (i + 1) es) (from_on (i + 1) es)))) (below e.0 (i + 1) (omega (arith, is)))
        ∙ ap (λ rest. cons_option (ended_of (i, e.1)) (ended rest)) (all_from (i + 1) (e.0 + 1) high es up.1 (omega (arith, is)))
        ∙ ap (λ k. cons_option (ended_of (k, e.1)) (ended es)) (sym is)
        ∙ sym (ap ended (all_from i e.0 high (e ∷ es) (omega arith, up.1) more))
    by (inr more) (inr apart) rest =
        ap (λ t. cons_option (option_and_then (λ o. ended_of (i, o)) (cond t (Some e.1) (at i es))) (ended (from_on (i + 1) (e ∷ es)))) (key_is_other i e.0 (λ is. apart (sym is)))
        ∙ ap (λ x. cons_option (option_and_then (λ o. ended_of (i, o)) x) (ended (from_on (i + 1) (e ∷ es)))) (nothing_outside i (e.0 + 1) high es up.1 (λ low _. omega (arith, low, more)))
        ∙ ap ended (all_from (i + 1) e.0 high (e ∷ es) (omega arith, up.1) (above more apart))
        ∙ sym (ap ended (all_from i e.0 high (e ∷ es) (omega arith, up.1) more))
      where
        above : i ≤ e.0 → (e.0 ≡ i → ⊥) → i + 1 ≤ e.0
        above more apart = of (cases_lt i e.0)
          where
            of : (i < e.0) ⊎ (e.0 ≤ i) → i + 1 ≤ e.0
            of (inl less) = omega (arith, less)
            of (inr no_more) = absurd (apart (omega (arith, more, no_more)))

-- not more end than there are
pub fewer_end : (i : ℕ) (es : List (ℕ × Object)) → length (ended (from_on i es)) ≤ length (ended es)
fewer_end i [] = omega arith
fewer_end i (e ∷ es) = by (not (nat_lt e.0 i)) (ended_of e) refl (fewer_end i es)
  where
    by : (t : Bool) (y : Option Ended) → ended_of e ≡ y → length (ended (from_on i es)) ≤ length (ended es) → length (ended (cond t (e ∷ from_on i es) (from_on i es))) ≤ length (cons_option y (ended es))
    by true None is rest = subst (λ y. length (cons_option y (ended (from_on i es))) ≤ length (ended es)) (sym is) rest
    by true (Some y) is rest = subst (λ z. length (cons_option z (ended (from_on i es))) ≤ length (y ∷ ended es)) (sym is) (omega (arith, rest))
    by false None is rest = rest
    by false (Some y) is rest = omega (arith, rest)

module _ (slots : HandleMap Part) (arrays now : Arrays) (rising : RiseWithin 1 slots.next slots.entries) (h : ℕ) (kept : (k : ℕ) → k < h → array_at now k ≡ array_at arrays k) (later : 1 < h) (dead : Ends)
    (is : dead.list ≡ ended (from_on h (joined arrays slots.entries))) where
  up : RisesWithin 1 slots.next (keys_of (joined arrays slots.entries))
  up = subst (λ ks. RisesWithin 1 slots.next ks) (sym (keys_keyed (λ h part. object_of part (array_at arrays h)) slots.entries)) (rises 1 slots.next slots.entries rising)

  next_down : cons_option (option_and_then (λ o. ended_of (h - 1, o)) (at (h - 1) (joined arrays slots.entries))) dead.list ≡ ended (from_on (h - 1) (joined arrays slots.entries))
  next_down =
      let same : h - 1 + 1 ≡ h = omega (arith, later) in
      ap (cons_option (option_and_then (λ o. ended_of (h - 1, o)) (at (h - 1) (joined arrays slots.entries)))) (is ∙ ap (λ i. ended (from_on i (joined arrays slots.entries))) (sym same))
      ∙ step_down (h - 1) 1 slots.next (joined arrays slots.entries) up

  death_is : (block : Option Block) → block ≡ block_at now (h - 1) → is_some (value_at slots (h - 1)) ≡ true →
      death_of (h - 1, block) ≡ option_and_then (λ o. ended_of (h - 1, o)) (at (h - 1) (joined arrays slots.entries))
  death_is block seen there =
      ap (λ b. death_of (h - 1, b)) (seen ∙ ap (option_map (λ (a : Array). a.block)) (kept (h - 1) (omega (arith, later))))
      ∙ by (value_at slots (h - 1)) there (array_at arrays (h - 1))
      ∙ sym (ap (option_and_then (λ o. ended_of (h - 1, o))) (at_keyed (λ h part. object_of part (array_at arrays h)) (h - 1) slots.entries))
    where
      by : (x : Option Part) → is_some x ≡ true → (a : Option Array) →
          death_of (h - 1, option_map (λ (a : Array). a.block) a) ≡ option_and_then (λ o. ended_of (h - 1, o)) (option_map (λ part. object_of part a) x)
      by None there a = absurd cc
      by (Some part) there None = refl
      by (Some part) there (Some a) = refl

  -- an array that is there ends
  pub one_ends : (block : Option Block) → block ≡ block_at now (h - 1) → is_some (value_at slots (h - 1)) ≡ true →
      cons_option (death_of (h - 1, block)) dead.list ≡ ended (from_on (h - 1) (joined arrays slots.entries))
  one_ends block seen there = ap (λ x. cons_option x dead.list) (death_is block seen there) ∙ next_down

  -- and nothing where no object is
  pub none_ends : is_some (value_at slots (h - 1)) ≡ false → dead.list ≡ ended (from_on (h - 1) (joined arrays slots.entries))
  none_ends gone =
      let none : at (h - 1) (joined arrays slots.entries) ≡ None =
      at_keyed (λ h part. object_of part (array_at arrays h)) (h - 1) slots.entries ∙ ap (option_map (λ part. object_of part (array_at arrays (h - 1)))) (none_by (value_at slots (h - 1)) gone) in
      sym (ap (λ x. cons_option (option_and_then (λ o. ended_of (h - 1, o)) x) dead.list) none) ∙ next_down

  pub end_fits : (block : Option Block) → block ≡ block_at now (h - 1) → is_some (value_at slots (h - 1)) ≡ true → (room : ℕ) → length (ended (joined arrays slots.entries)) ≤ room →
      length (option_to_list (death_of (h - 1, block))) + length dead.list ≤ room
  end_fits block seen there room fits =
      omega (arith, longer (death_of (h - 1, block)) dead.list, ap length (one_ends block seen there), fewer_end (h - 1) (joined arrays slots.entries), fits)

-- no array ended yet, and all have
pub none_ended : (slots : HandleMap Part) (arrays : Arrays) (h : ℕ) → RiseWithin 1 slots.next slots.entries → h ≡ slots.next → ended (from_on h (joined arrays slots.entries)) ≡ []
none_ended slots arrays h rising is =
    ap ended
    (none_from h 1 slots.next (joined arrays slots.entries)
    (subst (λ ks. RisesWithin 1 slots.next ks) (sym (keys_keyed (λ h part. object_of part (array_at arrays h)) slots.entries)) (rises 1 slots.next slots.entries rising)) (omega (arith, is)))

pub all_ended : (slots : HandleMap Part) (arrays : Arrays) (h : ℕ) → RiseWithin 1 slots.next slots.entries → h ≤ 1 → ended (from_on h (joined arrays slots.entries)) ≡ ended (joined arrays slots.entries)
all_ended slots arrays h rising less =
    ap ended
    (all_from h 1 slots.next (joined arrays slots.entries)
    (subst (λ ks. RisesWithin 1 slots.next ks) (sym (keys_keyed (λ h part. object_of part (array_at arrays h)) slots.entries)) (rises 1 slots.next slots.entries rising)) less)

pub at_least_one : (slots : HandleMap Part) → RiseWithin 1 slots.next slots.entries → 1 ≤ slots.next
at_least_one slots rising = rises_up 1 slots.next (keys_of slots.entries) (rises 1 slots.next slots.entries rising)
