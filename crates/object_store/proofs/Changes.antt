-- One object changes, in its part, its array or both.
use Rattle.std.proofs.Common.{Ok, Err, ℕ, ◌+◌, ◌≡◌, ◌<◌, ◌≤◌, ◌^◌, ◌∙◌, ◌⊎◌, inl, inr, nat_lt, true, false, List, [], ◌∷◌, Option, Some, None, length, refl, sym, ap, subst, arith}
use Rattle.std.specs.Prelude.{cond, ◌&&◌}
use Rattle.std.specs.BTreeMap.{is_at}
use Rattle.std.specs.Map.{keys_of, set_value}
use Rattle.std.specs.Option.{IfSome, IsSome, is_some, option_and_then, option_map, option_map_or, unwrap_or}
use Rattle.std.specs.Ordering.{nat_cmp}
use Rattle.std.proofs.lemmas.Bool.{cases_eq}
use Rattle.std.proofs.lemmas.Map.{keys-set_value}
use Rattle.std.proofs.lemmas.Map.Steps.{set_value_same}
use Rattle.handle_table.specs.HandleMaps.{HandleMap, value_at, with_value as with_slot}
use Rattle.ref_counts.specs.CountMaps.{CountMap, counts_at, named_at, public_at}
use Rattle.array_objects.specs.Stores.{Arrays, ChangesAt as ArraysChange, array_at, block_at, loan_at, loan_of, mapped}
use Rattle.array_objects.specs.declared.arrays.Array.{Array}
use Rattle.seq_model.proofs.Keys.{RisesWithin, at_changed, at_unchanged, at_within, key_here, key_is_other}
use Rattle.seq_model.specs.Life.{loan_count, names_of}
use Rattle.dev_types.specs.Counting.{times}
use Rattle.seq_model.specs.State.{Object, changed_at, object_at}
use Rattle.seq_model.specs.Steps.{change_array, lent}
use Rattle.object_store.specs.Kept.{IsShort, AreCounted, AreParts, Stops, Stored, stored}
use Rattle.object_store.specs.Moves.{Moves}
use Rattle.object_store.specs.Parts.{Part, array_state, at, holds_at, joined, keyed, object_of}
use Rattle.object_store.proofs.Counted.{counted_change}
use Rattle.object_store.proofs.Keyed.{at_keyed, keyed_same, keyed_set, keys_keyed, rise, rises, same_by_looks}
use Rattle.object_store.proofs.MoveFacts.{never, once}
use Rattle.object_store.proofs.PartFacts.{looked}
use Rattle.object_store.proofs.Totals.{loans_if, times_least, weigh}

module _ (slots new : HandleMap Part) (arrays held : Arrays) (counts moved : CountMap) (bound : ℕ) (parts : AreParts slots arrays counts bound) (h : ℕ) (part now : Part)
    (there : value_at slots h ≡ Some part) (is : new ≡ with_slot slots h now) (others : (k : ℕ) → (k ≡ h → ⊥) → array_at held k ≡ array_at arrays k) (same_holds : now.holds ≡ part.holds)
    (added gone : List ℕ) (moves : Moves counts moved added gone) where
  up : RisesWithin 1 slots.next (keys_of slots.entries)
  up = rises 1 slots.next slots.entries parts.rising

  below : (1 ≤ h) × (h < slots.next)
  below = at_within h 1 slots.next slots.entries part up there

  changed_up : RisesWithin 1 slots.next (keys_of (set_value (is_at (nat_cmp h)) slots.entries now))
  changed_up = subst (λ ks. RisesWithin 1 slots.next ks) (sym (keys-set_value (is_at (nat_cmp h)) slots.entries now)) up

  object_there : at h (joined arrays slots.entries) ≡ Some (object_of part (array_at arrays h))
  object_there = at_keyed (λ h part. object_of part (array_at arrays h)) h slots.entries ∙ ap (option_map (λ part. object_of part (array_at arrays h))) there

  objects_changed : joined held (set_value (is_at (nat_cmp h)) slots.entries now) ≡ set_value (is_at (nat_cmp h)) (joined arrays slots.entries) (object_of now (array_at held h))
  objects_changed =
      same_by_looks 1 slots.next (joined held (set_value (is_at (nat_cmp h)) slots.entries now)) (set_value (is_at (nat_cmp h)) (joined arrays slots.entries) (object_of now (array_at held h)))
      (subst (λ ks. RisesWithin 1 slots.next ks) (sym (keys_keyed (λ h part. object_of part (array_at held h)) (set_value (is_at (nat_cmp h)) slots.entries now))) changed_up)
      (subst (λ ks. RisesWithin 1 slots.next ks) (sym (keys-set_value (is_at (nat_cmp h)) (joined arrays slots.entries) (object_of now (array_at held h)) ∙ keys_keyed (λ h part. object_of part (array_at arrays h)) slots.entries)) up)
      (λ k. at_keyed (λ h part. object_of part (array_at held h)) k (set_value (is_at (nat_cmp h)) slots.entries now) ∙ by k (cases_eq k h))
    where
      by : (k : ℕ) → (k ≡ h) ⊎ (k ≡ h → ⊥) → option_map (λ part. object_of part (array_at held k)) (at k (set_value (is_at (nat_cmp h)) slots.entries now))
          ≡ at k (set_value (is_at (nat_cmp h)) (joined arrays slots.entries) (object_of now (array_at held h)))
      by k (inl same) =
          ap (λ k. option_map (λ part. object_of part (array_at held k)) (at k (set_value (is_at (nat_cmp h)) slots.entries now))) same
          ∙ ap (option_map (λ part. object_of part (array_at held h))) (at_changed h slots.entries part now there)
          ∙ sym (ap (λ k. at k (set_value (is_at (nat_cmp h)) (joined arrays slots.entries) (object_of now (array_at held h)))) same
          ∙ at_changed h (joined arrays slots.entries) (object_of part (array_at arrays h)) (object_of now (array_at held h)) object_there)
      by k (inr apart) =
          ap (option_map (λ part. object_of part (array_at held k))) (at_unchanged h k slots.entries now apart)
          ∙ ap (λ array. option_map (λ part. object_of part array) (at k slots.entries)) (others k apart)
          ∙ sym (at_unchanged h k (joined arrays slots.entries) (object_of now (array_at held h)) apart ∙ at_keyed (λ h part. object_of part (array_at arrays h)) k slots.entries)

  pub parts_changed : (most : ℕ) → ((k : ℕ) → weigh k h (object_of now (array_at held h)) + times k gone ≡ weigh k h (object_of part (array_at arrays h)) + times k added) →
      times slots.next added ≡ 0 → bound + length added ≤ most → most ≤ 2 ^ 62 → IfSome (array_at held h) IsShort → AreParts new held moved most
  parts_changed most weighs unnamed fits small short_here = subst (λ new. AreParts new held moved most) (sym is) (record {
    rising = rise 1 slots.next (set_value (is_at (nat_cmp h)) slots.entries now) changed_up;
    none_beyond = λ k beyond. others k (λ same. omega (arith, same, below.1, beyond)) ∙ parts.none_beyond k beyond;
    counted = subst (λ objects. AreCounted objects (holds_at (set_value (is_at (nat_cmp h)) slots.entries now)) slots.next moved) (sym objects_changed)
        (subst (λ holds. AreCounted (set_value (is_at (nat_cmp h)) (joined arrays slots.entries) (object_of now (array_at held h))) holds slots.next moved) (λ i k. all_holds k (cases_eq k h) i)
        (counted_change (joined arrays slots.entries) (holds_at slots.entries) slots.next counts moved h (object_of part (array_at arrays h)) (object_of now (array_at held h)) added gone
        parts.counted object_there moves weighs unnamed));
    short = λ k. short_still k (cases_eq k h);
    small = small;
    few = λ k. omega (arith, parts.few k, all_holds k (cases_eq k h));
    bounded = λ k.
        let named_ : named_at moved k + times k gone ≡ named_at counts k + times k added = moves.named k in
        omega (arith, named_, parts.bounded k, times_least k added, fits, all_holds k (cases_eq k h));
  })
    where
      short_still : (k : ℕ) → (k ≡ h) ⊎ (k ≡ h → ⊥) → IfSome (array_at held k) IsShort
      short_still k (inl same) = subst (λ k. IfSome (array_at held k) IsShort) (sym same) short_here
      short_still k (inr apart) = subst (λ x. IfSome x IsShort) (sym (others k apart)) (parts.short k)

      all_holds : (k : ℕ) → (k ≡ h) ⊎ (k ≡ h → ⊥) → holds_at slots.entries k ≡ holds_at (set_value (is_at (nat_cmp h)) slots.entries now) k
      all_holds k (inl same) =
          ap (holds_at slots.entries) same ∙ ap (λ x. option_map_or (λ (p : Part). p.holds) x 0) there ∙ sym same_holds
          ∙ sym (ap (holds_at (set_value (is_at (nat_cmp h)) slots.entries now)) same ∙ ap (λ x. option_map_or (λ (p : Part). p.holds) x 0) (at_changed h slots.entries part now there))
      all_holds k (inr apart) = sym (ap (λ x. option_map_or (λ (p : Part). p.holds) x 0) (at_unchanged h k slots.entries now apart))

  pub stored_changed : (stopped : Stops) (f : Object → Object) → object_of now (array_at held h) ≡ f (object_of part (array_at arrays h)) →
      stored new held moved stopped ≡ record (stored slots arrays counts stopped) { state = changed_at h f (stored slots arrays counts stopped).state }
  stored_changed stopped f same =
      ap (λ new. stored new held moved stopped) is
      ∙ (λ i. record { state = record { objects = objects i; stopped = stopped.tickets; next = slots.next }; public = public i; holds = holds i; ready = ready i; places = stopped.room })
    where
      objects : joined held (set_value (is_at (nat_cmp h)) slots.entries now) ≡ (changed_at h f (stored slots arrays counts stopped).state).objects
      objects =
          objects_changed
          ∙ ap (set_value (is_at (nat_cmp h)) (joined arrays slots.entries)) same
          ∙ sym (ap (λ x. unwrap_or (option_map (λ o. set_value (is_at (nat_cmp h)) (joined arrays slots.entries) (f o)) x) (joined arrays slots.entries)) object_there)

      public : keyed (λ k (p : Part). public_at moved k) (set_value (is_at (nat_cmp h)) slots.entries now) ≡ keyed (λ k (p : Part). public_at counts k) slots.entries
      public =
          keyed_same (λ k (p : Part). public_at moved k) (λ k (p : Part). public_at counts k) (set_value (is_at (nat_cmp h)) slots.entries now) (λ k p. moves.public k)
          ∙ keyed_set (λ k (p : Part). public_at counts k) h slots.entries now
          ∙ set_value_same (is_at (nat_cmp h)) (keyed (λ k (p : Part). public_at counts k) slots.entries) (public_at counts h)
          (at_keyed (λ k (p : Part). public_at counts k) h slots.entries ∙ ap (option_map (λ (p : Part). public_at counts h)) there)

      holds : keyed (λ k (p : Part). p.holds) (set_value (is_at (nat_cmp h)) slots.entries now) ≡ keyed (λ k (p : Part). p.holds) slots.entries
      holds =
          keyed_set (λ k (p : Part). p.holds) h slots.entries now
          ∙ set_value_same (is_at (nat_cmp h)) (keyed (λ k (p : Part). p.holds) slots.entries) now.holds
          (at_keyed (λ k (p : Part). p.holds) h slots.entries ∙ ap (option_map (λ (p : Part). p.holds)) there ∙ ap Some (sym same_holds))

      ready : (nat_lt 0 slots.spare && is_some (counts_at moved slots.next)) ≡ (nat_lt 0 slots.spare && is_some (counts_at counts slots.next))
      ready = ap (λ t. nat_lt 0 slots.spare && t) (moves.there slots.next)

-- one more loan of an object is one more name of it
loans_if_more : (k h : ℕ) (o p : Object) → loan_count p ≡ loan_count o + 1 → loans_if k h p + times k [] ≡ loans_if k h o + times k (h ∷ [])
loans_if_more k h o p more = by (cases_eq k h)
  where
    none : times k [] ≡ 0
    none = refl

    by : (k ≡ h) ⊎ (k ≡ h → ⊥) → loans_if k h p + times k [] ≡ loans_if k h o + times k (h ∷ [])
    by (inl same) =
        let here : is_at (nat_cmp k) h ≡ true = ap (λ k. is_at (nat_cmp k) h) same ∙ key_here h in
        let first : loans_if k h o ≡ loan_count o = ap (λ t. cond t (loan_count o) 0) here in
        let second : loans_if k h p ≡ loan_count p = ap (λ t. cond t (loan_count p) 0) here in
        omega (arith, none, first, second, more, once h k same)
    by (inr apart) =
        let other : is_at (nat_cmp k) h ≡ false = key_is_other k h apart in
        let first : loans_if k h o ≡ 0 = ap (λ t. cond t (loan_count o) 0) other in
        let second : loans_if k h p ≡ 0 = ap (λ t. cond t (loan_count p) 0) other in
        omega (arith, none, first, second, never h k apart)

abbrev one_if_some : Option ℕ → ℕ
one_if_some x = option_map_or (λ (n : ℕ). 1) x 0

-- an array that is lent
pub lent_weighs : (k h number : ℕ) (part : Part) (a : Array) → a.loan ≡ None →
    weigh k h (object_of part (Some (mapped number a))) + times k [] ≡ weigh k h (object_of part (Some a)) + times k (h ∷ [])
lent_weighs k h number part a free =
    let unlent : one_if_some a.loan ≡ 0 = ap one_if_some free in
    let old : loan_count (object_of part (Some a)) ≡ one_if_some a.loan + length part.channels + length part.loans = refl in
    let new : loan_count (object_of part (Some (mapped number a))) ≡ 1 + length part.channels + length part.loans = refl in
    let names : times k (names_of (object_of part (Some (mapped number a)))) ≡ times k (names_of (object_of part (Some a))) = refl in
    omega (arith, names, loans_if_more k h (object_of part (Some a)) (object_of part (Some (mapped number a))) (omega (arith, unlent, old, new)))

pub lent_object : (number : ℕ) (part : Part) (a : Array) → object_of part (Some (mapped number a)) ≡ change_array (lent number) (object_of part (Some a))
lent_object number part a = refl

-- an array that is there, and not lent
pub record IsFree (slots : HandleMap Part) (arrays : Arrays) (h : ℕ) : Type 0 where
  pub part : Part
  pub array : Array
  pub part_there : value_at slots h ≡ Some part
  pub array_there : array_at arrays h ≡ Some array
  pub free : array.loan ≡ None

pub free_by : (s : Stored) (slots : HandleMap Part) (arrays : Arrays) (counts : CountMap) (stopped : Stops) (h : ℕ) → stored slots arrays counts stopped ≡ s →
    IsSome (option_and_then (λ (o : Object). o.array) (object_at s.state h)) → (IsSome (loan_at arrays h) → ⊥) → IsFree slots arrays h
free_by s slots arrays counts stopped h is some free =
    by (value_at slots h) refl (array_at arrays h) refl
    (sym (ap (λ x. is_some (option_and_then (λ (o : Object). o.array) x)) (looked s slots arrays counts stopped h is)) ∙ some)
  where
    none_free : (x : Option ℕ) → (IsSome x → ⊥) → x ≡ None
    none_free None apart = refl
    none_free (Some n) apart = absurd (apart refl)

    by : (x : Option Part) → value_at slots h ≡ x → (y : Option Array) → array_at arrays h ≡ y →
        is_some (option_and_then (λ (o : Object). o.array) (option_map (λ part. object_of part (array_at arrays h)) (value_at slots h))) ≡ true → IsFree slots arrays h
    by None none y is_y some =
        let wrong : true ≡ false = sym some ∙ ap (λ x. is_some (option_and_then (λ (o : Object). o.array) (option_map (λ part. object_of part (array_at arrays h)) x))) none in absurd cc
    by (Some part) there None none some =
        let wrong : true ≡ false =
        sym some ∙ ap (λ x. is_some (option_and_then (λ (o : Object). o.array) (option_map (λ part. object_of part (array_at arrays h)) x))) there ∙ ap (λ y. is_some (option_map array_state y)) none in absurd cc
    by (Some part) there (Some a) found some =
        record { part = part; array = a; part_there = there; array_there = found; free = none_free a.loan (λ lent_. free (ap (λ x. is_some (loan_of x)) found ∙ lent_)) }

pub ok_is_no_err : {T E : Type 0} (t : T) (e : E) → Ok t ≡ Err e → ⊥
ok_is_no_err t e same = cc

-- an array of what contracts see is there in both parts
pub array_is_there : (s : Stored) (slots : HandleMap Part) (arrays : Arrays) (counts : CountMap) (stopped : Stops) (h : ℕ) → stored slots arrays counts stopped ≡ s →
    IsSome (option_and_then (λ (o : Object). o.array) (object_at s.state h)) → IsSome (block_at arrays h) × IsSome (at h (joined arrays slots.entries))
array_is_there s slots arrays counts stopped h is some =
    by (value_at slots h) refl (array_at arrays h) refl
    (sym (ap (λ x. is_some (option_and_then (λ (o : Object). o.array) x)) (looked s slots arrays counts stopped h is)) ∙ some)
  where
    by : (x : Option Part) → value_at slots h ≡ x → (y : Option Array) → array_at arrays h ≡ y →
        is_some (option_and_then (λ (o : Object). o.array) (option_map (λ part. object_of part (array_at arrays h)) (value_at slots h))) ≡ true → IsSome (block_at arrays h) × IsSome (at h (joined arrays slots.entries))
    by None none y is_y some =
        let wrong : true ≡ false = sym some ∙ ap (λ x. is_some (option_and_then (λ (o : Object). o.array) (option_map (λ part. object_of part (array_at arrays h)) x))) none in absurd cc
    by (Some part) there None none some =
        let wrong : true ≡ false =
        sym some ∙ ap (λ x. is_some (option_and_then (λ (o : Object). o.array) (option_map (λ part. object_of part (array_at arrays h)) x))) there ∙ ap (λ y. is_some (option_map array_state y)) none in absurd cc
    by (Some part) there (Some a) found some = (
      ap (λ x. is_some (option_map (λ (a : Array). a.block) x)) found,
      ap is_some (at_keyed (λ h part. object_of part (array_at arrays h)) h slots.entries) ∙ ap (λ x. is_some (option_map (λ part. object_of part (array_at arrays h)) x)) there,
    )

-- the parts of a store whose array is lent
module _ (slots : HandleMap Part) (arrays held : Arrays) (counts moved : CountMap) (bound h number : ℕ) (parts : AreParts slots arrays counts bound) (is : IsFree slots arrays h)
    (changes : ArraysChange arrays held h (option_map (mapped number) (array_at arrays h))) (moves : Moves counts moved (h ∷ []) []) where
  same_slots : slots ≡ with_slot slots h is.part
  same_slots = sym (ap (λ es. record slots { entries = es }) (set_value_same (is_at (nat_cmp h)) slots.entries is.part is.part_there))

  array_now : array_at held h ≡ Some (mapped number is.array)
  array_now = changes.changed ∙ ap (option_map (mapped number)) is.array_there

  weighs : (k : ℕ) → weigh k h (object_of is.part (array_at held h)) + times k [] ≡ weigh k h (object_of is.part (array_at arrays h)) + times k (h ∷ [])
  weighs k =
      ap (λ x. weigh k h (object_of is.part x) + times k []) array_now ∙ lent_weighs k h number is.part is.array is.free
      ∙ sym (ap (λ x. weigh k h (object_of is.part x) + times k (h ∷ [])) is.array_there)

  pub parts_lent : bound + 1 ≤ 2 ^ 62 → AreParts slots held moved (bound + 1)
  parts_lent small =
      parts_changed slots slots arrays held counts moved bound parts h is.part is.part is.part_there same_slots changes.others refl (h ∷ []) [] moves (bound + 1) weighs
      (never h slots.next (λ same. omega (arith, same, (at_within h 1 slots.next slots.entries is.part (rises 1 slots.next slots.entries parts.rising) is.part_there).1))) (omega arith) small
      (subst (λ x. IfSome x IsShort) (sym array_now) (subst (λ x. IfSome x IsShort) is.array_there (parts.short h)))

  pub stored_lent : (stopped : Stops) → stored slots held moved stopped ≡ record (stored slots arrays counts stopped) { state = changed_at h (change_array (lent number)) (stored slots arrays counts stopped).state }
  stored_lent stopped =
      stored_changed slots slots arrays held counts moved bound parts h is.part is.part is.part_there same_slots changes.others refl (h ∷ []) [] moves stopped (change_array (lent number))
      (ap (object_of is.part) array_now ∙ lent_object number is.part is.array ∙ sym (ap (λ x. change_array (lent number) (object_of is.part x)) is.array_there))
