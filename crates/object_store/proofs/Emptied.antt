-- A table whose handles are emptied from the first to the last, and a store that is left without objects.
use Rattle.std.proofs.Common.{ℕ, ◌+◌, ◌≡◌, ◌<◌, ◌≤◌, ◌^◌, Bool, true, false, List, [], ◌∷◌, refl, sym, subst, arith}
use Rattle.std.specs.Prelude.{cond}
use Rattle.std.specs.BTreeMap.{is_at}
use Rattle.std.specs.Map.{keys_of, remove_entry}
use Rattle.std.specs.Ordering.{nat_cmp}
use Rattle.std.proofs.lemmas.Bool.Decides.{nat_tests}
use Rattle.handle_table.specs.HandleMaps.{HandleMap, RiseWithin}
use Rattle.seq_model.proofs.Keys.{key_is, rises_up}
use Rattle.object_store.specs.Kept.{AreParts}
use Rattle.object_store.specs.Parts.{Part}
use Rattle.object_store.proofs.Keyed.{rise, rises}
use Rattle.object_store.proofs.Removed.{rises_removed}

-- without the least handle that may be there, the handles rise from the next one on
pub first_removed : {X : Type 0} (h high : ℕ) (es : List (ℕ × X)) → RiseWithin h high es → h < high → RiseWithin (h + 1) high (remove_entry (is_at (nat_cmp h)) es)
first_removed h high [] up less = omega (arith, less)
first_removed h high (e ∷ es) up less = by (is_at (nat_cmp h) e.0) refl
  where
    by : (t : Bool) → is_at (nat_cmp h) e.0 ≡ t → RiseWithin (h + 1) high (cond t es (e ∷ remove_entry (is_at (nat_cmp h)) es))
    by true is = subst (λ k. RiseWithin (k + 1) high es) (sym (key_is h e.0 is)) up.1
    by false is = (above is, rise (e.0 + 1) high (remove_entry (is_at (nat_cmp h)) es) (rises_removed (is_at (nat_cmp h)) (e.0 + 1) high es (rises (e.0 + 1) high es up.1)))
      where
        above : is_at (nat_cmp h) e.0 ≡ false → h + 1 ≤ e.0
        above is = grind (arith, nat_tests, is, up.0)

-- and where they rise from the end on, none is left
pub none_left : {X : Type 0} (low high : ℕ) (es : List (ℕ × X)) → RiseWithin low high es → high ≤ low → es ≡ []
none_left low high [] up more = refl
none_left low high (e ∷ es) up more = absurd (no (rises_up (e.0 + 1) high (keys_of es) (rises (e.0 + 1) high es up.1)))
  where
    no : e.0 + 1 ≤ high → ⊥
    no less = omega (arith, less, up.0, more)

-- no objects, with no counts, are the parts of a store
pub no_parts : (slots : HandleMap Part) (bound : ℕ) → slots.entries ≡ [] → 1 ≤ slots.next → bound ≤ 2 ^ 62 → AreParts slots [] [] bound
no_parts slots bound none next small =
    subst (λ es. AreParts (record { entries = es; next = slots.next; spare = slots.spare }) [] [] bound) (sym none) (record {
      rising = next;
      none_beyond = λ h more. refl;
      counted = record {
        named = λ h. refl;
        there = λ h there. absurd cc;
        only = λ h none there. absurd cc;
        free = refl;
        fresh = λ h more none. refl;
      };
      short = λ h. _;
      small = small;
      few = λ h. omega arith;
      bounded = λ h. omega arith;
    })
