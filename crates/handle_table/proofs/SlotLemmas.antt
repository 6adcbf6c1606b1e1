-- How a read and a write of one slot show in the finite map.
use Rattle.std.proofs.Common.{◌≡◌, ◌≢◌, ℕ, zero, suc, ◌+◌, ◌-◌, ◌<◌, ◌≤◌, Bool, true, false, true≢false, List, [], ◌∷◌, ◌++◌, length, get_or, set, Some, None, IsSome, cond, refl, sym, ap, subst, ◌∙◌, inl, inr, add-zero, arith}
use Rattle.std.proofs.lemmas.Bool.{cases_lt}
use Rattle.std.proofs.lemmas.List.{get_or-set_same, get_or-set_other, get_or_past, get_or_push, get_or_default}
use Rattle.std.proofs.lemmas.Option.{none-some}
use Rattle.std.specs.BTreeMap.{is_at}
use Rattle.std.specs.Map.{lookup, set_value, remove_entry}
use Rattle.std.specs.Ordering.{nat_cmp, is_eq}
use Rattle.std.specs.Cmp.{nat_cmp_is}
use Rattle.std.specs.declared.cmp.Ordering.TheVariants.{Less, Equal, Greater}
use Rattle.handle_table.specs.declared.table.Slot.{Slot}
use Rattle.handle_table.specs.declared.table.Slot.TheVariants.{Empty, Filled}
use Rattle.handle_table.specs.HandleMaps.{HandleMap, ChangesAt, RiseWithin}
use Rattle.handle_table.specs.Slots.{value_of, entries_from}

-- a handle is at itself
pub is_at-same : (h k : ℕ) → h ≡ k → is_at (nat_cmp h) k ≡ true
is_at-same h k same = ap is_eq (sym (nat_cmp_is h k Equal same))

-- and at no other
pub is_at-other : (h k : ℕ) → h ≢ k → is_at (nat_cmp h) k ≡ false
is_at-other h k differs =
    elim (cases_lt h k) [
      | inl below ↦ ap is_eq (sym (nat_cmp_is h k Less below))
      | inr above ↦ ap is_eq (sym (nat_cmp_is h k Greater (omega (arith, differs))))
    ]

module _ {T : Type 0} where
  -- nothing stands at a handle before the first
  pub lookup-before : (slots : List (Slot T)) (first h : ℕ) → h < first → lookup (is_at (nat_cmp h)) (entries_from first slots) ≡ None
  lookup-before [] first h below = refl
  lookup-before (Empty ∷ rest) first h below = lookup-before rest (first + 1) h (omega arith)
  lookup-before (Filled value ∷ rest) first h below =
      rw (is_at-other h first (λ e. omega arith)) (lookup-before rest (first + 1) h (omega arith))

  -- at the handle of a slot stands what the slot holds
  pub lookup-slot : (slots : List (Slot T)) (first h place : ℕ) → h ≡ first + place → lookup (is_at (nat_cmp h)) (entries_from first slots) ≡ value_of (get_or slots place Empty)
  lookup-slot [] first h place e = refl
  lookup-slot (Empty ∷ rest) first h zero e = lookup-before rest (first + 1) h (omega (arith, e))
  lookup-slot (Filled value ∷ rest) first h zero e = rw (is_at-same h first (omega (arith, e))) refl
  lookup-slot (Empty ∷ rest) first h (suc place) e = lookup-slot rest (first + 1) h place (omega (arith, e))
  lookup-slot (Filled value ∷ rest) first h (suc place) e =
      rw (is_at-other h first (λ same. omega (arith, e, same))) (lookup-slot rest (first + 1) h place (omega (arith, e)))

  -- a value that is pushed stands last
  pub entries_from-push : (slots : List (Slot T)) (first : ℕ) (value : T) → entries_from first (slots ++ Filled value ∷ []) ≡ entries_from first slots ++ (first + length slots, value) ∷ []
  entries_from-push [] first value = rw add-zero refl
  entries_from-push (Empty ∷ rest) first value =
      let shift : first + suc (length rest) ≡ first + 1 + length rest = omega arith in
      rw shift (entries_from-push rest (first + 1) value)
  entries_from-push (Filled other ∷ rest) first value =
      let shift : first + suc (length rest) ≡ first + 1 + length rest = omega arith in
      rw shift (ap (λ es. (first, other) ∷ es) (entries_from-push rest (first + 1) value))

  -- a handle before the first is not removed
  pub remove_entry-before : (slots : List (Slot T)) (first h : ℕ) → h < first → remove_entry (is_at (nat_cmp h)) (entries_from first slots) ≡ entries_from first slots
  remove_entry-before [] first h below = refl
  remove_entry-before (Empty ∷ rest) first h below = remove_entry-before rest (first + 1) h (omega arith)
  remove_entry-before (Filled value ∷ rest) first h below =
      rw (is_at-other h first (λ e. omega arith)) (ap (λ es. (first, value) ∷ es) (remove_entry-before rest (first + 1) h (omega arith)))

  -- emptying a slot removes its handle
  pub entries_from-emptied : (slots : List (Slot T)) (first h place : ℕ) → h ≡ first + place → entries_from first (set slots place Empty) ≡ remove_entry (is_at (nat_cmp h)) (entries_from first slots)
  entries_from-emptied [] first h place e = refl
  entries_from-emptied (Empty ∷ rest) first h zero e = sym (remove_entry-before rest (first + 1) h (omega (arith, e)))
  entries_from-emptied (Filled value ∷ rest) first h zero e = rw (is_at-same h first (omega (arith, e))) refl
  entries_from-emptied (Empty ∷ rest) first h (suc place) e = entries_from-emptied rest (first + 1) h place (omega (arith, e))
  entries_from-emptied (Filled value ∷ rest) first h (suc place) e =
      rw (is_at-other h first (λ same. omega (arith, e, same))) (ap (λ es. (first, value) ∷ es) (entries_from-emptied rest (first + 1) h place (omega (arith, e))))

  -- a write to a slot that holds a value changes the value at its handle
  pub entries_from-written : (slots : List (Slot T)) (first h place : ℕ) (value : T) → h ≡ first + place → IsSome (value_of (get_or slots place Empty)) → entries_from first (set slots place (Filled value)) ≡ set_value (is_at (nat_cmp h)) (entries_from first slots) value
  entries_from-written [] first h place value e held = refl
  entries_from-written (Empty ∷ rest) first h zero value e held = absurd (true≢false (sym held))
  entries_from-written (Filled old ∷ rest) first h zero value e held = rw (is_at-same h first (omega (arith, e))) refl
  entries_from-written (Empty ∷ rest) first h (suc place) value e held =
      entries_from-written rest (first + 1) h place value (omega (arith, e)) held
  entries_from-written (Filled old ∷ rest) first h (suc place) value e held =
      rw (is_at-other h first (λ same. omega (arith, e, same))) (ap (λ es. (first, old) ∷ es) (entries_from-written rest (first + 1) h place value (omega (arith, e)) held))

  -- where nothing is found, nothing is removed
  pub remove_entry-absent : {K : Type 0} (test : K → Bool) (es : List (K × T)) → lookup test es ≡ None → remove_entry test es ≡ es
  remove_entry-absent test [] absent = refl
  remove_entry-absent test (e ∷ rest) absent = by_test (test e.0) refl (remove_entry-absent test rest)
    where
      by_test : (b : Bool) → test e.0 ≡ b → (lookup test rest ≡ None → remove_entry test rest ≡ rest) → remove_entry test (e ∷ rest) ≡ e ∷ rest
      by_test true passes later = absurd (none-some e.1 (sym absent ∙ rw passes refl))
      by_test false fails later = rw fails (ap (λ es. e ∷ es) (later (sym (rw fails refl) ∙ absent)))

  -- at handle h stands what slot h - 1 holds
  pub lookup-handle : (slots : List (Slot T)) (h : ℕ) → 1 ≤ h → lookup (is_at (nat_cmp h)) (entries_from 1 slots) ≡ value_of (get_or slots (h - 1) Empty)
  lookup-handle slots h given = lookup-slot slots 1 h (h - 1) (omega (arith, given))

  -- a handle that names a slot which is filled
  pub record NamesFilled (slots : List (Slot T)) (h : ℕ) : Type 0 where
    pub given : 1 ≤ h
    pub within : h - 1 < length slots
    pub filled : IsSome (value_of (get_or slots (h - 1) Empty))

  -- is what each handle is at which a value stands
  pub names_filled : (slots : List (Slot T)) (h : ℕ) → IsSome (lookup (is_at (nat_cmp h)) (entries_from 1 slots)) → NamesFilled slots h
  names_filled slots zero present =
      absurd (true≢false (sym (subst IsSome (lookup-before slots 1 zero (omega arith)) present)))
  names_filled slots (suc place) present =
      let filled : IsSome (value_of (get_or slots (suc place - 1) Empty)) = subst IsSome (lookup-handle slots (suc place) (omega arith)) present in
      record { given = omega arith; within = grind (arith, get_or_past, filled); filled = filled }

  -- the slot that was read tells what stands at its handle
  pub lookup-read : (slots : List (Slot T)) (h place : ℕ) (slot : Slot T) → h ≡ 1 + place → place < length slots → slot ≡ get_or slots place slot → lookup (is_at (nat_cmp h)) (entries_from 1 slots) ≡ value_of slot
  lookup-read slots h place slot here within read =
      lookup-slot slots 1 h place here ∙ ap value_of (get_or_default slots place Empty slot within ∙ sym read)

  -- nothing stands behind the last slot
  pub lookup-past : (slots : List (Slot T)) (h place : ℕ) → h ≡ 1 + place → length slots ≤ place → lookup (is_at (nat_cmp h)) (entries_from 1 slots) ≡ None
  lookup-past slots h place here past =
      lookup-slot slots 1 h place here ∙ ap value_of (get_or_past slots place Empty past)

  -- a write of one slot changes what stands at its handle, and at no other
  pub ChangesAt-set : (old new : HandleMap T) (slots : List (Slot T)) (h place : ℕ) (slot : Slot T) → h ≡ 1 + place → place < length slots → old.entries ≡ entries_from 1 slots → new.entries ≡ entries_from 1 (set slots place slot) → ChangesAt old new h (value_of slot)
  ChangesAt-set old new slots h place slot here within was is =
      record {
        changed =
            ap (lookup (is_at (nat_cmp h))) is
            ∙ lookup-slot (set slots place slot) 1 h place here
            ∙ ap value_of (get_or-set_same slots place slot Empty within);
        others = λ other differs.
            ap (lookup (is_at (nat_cmp other))) is ∙ elsewhere other differs ∙ sym (ap (lookup (is_at (nat_cmp other))) was);
      }
    where
      elsewhere : (other : ℕ) → other ≢ h → lookup (is_at (nat_cmp other)) (entries_from 1 (set slots place slot)) ≡ lookup (is_at (nat_cmp other)) (entries_from 1 slots)
      elsewhere zero differs =
          lookup-before (set slots place slot) 1 zero (omega arith) ∙ sym (lookup-before slots 1 zero (omega arith))
      elsewhere (suc at) differs =
          lookup-slot (set slots place slot) 1 (suc at) at (omega arith)
          ∙ ap value_of (get_or-set_other slots place at slot Empty (λ e. differs (omega (arith, e, here))))
          ∙ sym (lookup-slot slots 1 (suc at) at (omega arith))

  -- an entry at the end whose key does not pass is not found
  pub lookup-append_other : {K : Type 0} (test : K → Bool) (es : List (K × T)) (k : K) (value : T) → test k ≡ false → lookup test (es ++ (k, value) ∷ []) ≡ lookup test es
  lookup-append_other test [] k value off = rw off refl
  lookup-append_other test (e ∷ rest) k value off =
      ap (λ o. cond (test e.0) (Some e.1) o) (lookup-append_other test rest k value off)

  -- a push changes what stands at the next handle, and at no other
  pub ChangesAt-push : (old new : HandleMap T) (slots : List (Slot T)) (h : ℕ) (value : T) → h ≡ 1 + length slots → old.entries ≡ entries_from 1 slots → new.entries ≡ entries_from 1 (slots ++ Filled value ∷ []) → ChangesAt old new h (Some value)
  ChangesAt-push old new slots h value here was is =
      record {
        changed =
            ap (lookup (is_at (nat_cmp h))) is
            ∙ lookup-slot (slots ++ Filled value ∷ []) 1 h (length slots) here
            ∙ ap value_of (get_or_push slots (Filled value) Empty (length slots) refl);
        others = λ other differs.
            ap (lookup (is_at (nat_cmp other))) (is ∙ entries_from-push slots 1 value)
            ∙ lookup-append_other (is_at (nat_cmp other)) (entries_from 1 slots) (1 + length slots) value (is_at-other other (1 + length slots) (λ e. differs (e ∙ sym here)))
            ∙ sym (ap (lookup (is_at (nat_cmp other))) was);
      }

  -- handles that rise from a later one on rise from an earlier one on
  pub RiseWithin-earlier : (es : List (ℕ × T)) (from later end : ℕ) → from ≤ later → RiseWithin later end es → RiseWithin from end es
  RiseWithin-earlier [] from later end order rise = omega (arith, order, rise)
  RiseWithin-earlier (entry ∷ rest) from later end order rise = (omega (arith, order, rise.0), rise.1)

  -- the handles of the slots rise from the first to before the next
  pub RiseWithin-entries_from : (slots : List (Slot T)) (first end : ℕ) → end ≡ first + length slots → RiseWithin first end (entries_from first slots)
  RiseWithin-entries_from [] first end ends = omega (arith, ends)
  RiseWithin-entries_from (Empty ∷ rest) first end ends =
      RiseWithin-earlier (entries_from (first + 1) rest) first (first + 1) end (omega arith) (RiseWithin-entries_from rest (first + 1) end (omega (arith, ends)))
  RiseWithin-entries_from (Filled value ∷ rest) first end ends =
      (omega arith, RiseWithin-entries_from rest (first + 1) end (omega (arith, ends)))
