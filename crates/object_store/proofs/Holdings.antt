-- Flights hold an object, or let it go.
use Rattle.std.proofs.Common.{ℕ, ◌+◌, ◌≡◌, ◌<◌, ◌≤◌, ◌^◌, ◌∙◌, ◌⊎◌, inl, inr, nat_lt, List, Option, Some, None, refl, sym, ap, subst, arith}
use Rattle.std.specs.Prelude.{◌&&◌}
use Rattle.std.specs.BTreeMap.{is_at}
use Rattle.std.specs.Map.{keys_of, set_value}
use Rattle.std.specs.Option.{IsSome, is_some, option_map, option_map_or, unwrap_or}
use Rattle.std.specs.Ordering.{nat_cmp}
use Rattle.std.proofs.lemmas.Bool.{cases_eq}
use Rattle.std.proofs.lemmas.Map.{keys-set_value}
use Rattle.std.proofs.lemmas.Map.Steps.{set_value_same}
use Rattle.handle_table.specs.HandleMaps.{HandleMap, value_at}
use Rattle.array_objects.specs.Stores.{Arrays, array_at}
use Rattle.ref_counts.specs.CountMaps.{CountMap, counts_at, named_at, public_at}
use Rattle.seq_model.proofs.Keys.{RisesWithin, at_changed, at_unchanged, at_within}
use Rattle.dev_types.specs.Counting.{times}
use Rattle.object_store.specs.Kept.{AreCounted, AreParts, Stops, Stored, loans_at, names_in, number_at, stored}
use Rattle.object_store.specs.Moves.{Moves, Reslots}
use Rattle.object_store.specs.Parts.{Part, at, holds_at, joined, keyed, object_of}
use Rattle.object_store.proofs.Counted.{none_by}
use Rattle.object_store.proofs.Keyed.{at_keyed, keyed_same, keyed_set, rise, rises}

-- how many flights hold an object is told by its part
pub held_at : (s : Stored) (slots : HandleMap Part) (arrays : Arrays) (counts : CountMap) (stopped : Stops) (h : ℕ) → stored slots arrays counts stopped ≡ s →
    number_at s.holds h ≡ holds_at slots.entries h
held_at s slots arrays counts stopped h is =
    sym (ap (λ (s : Stored). number_at s.holds h) is) ∙ ap (λ x. unwrap_or x 0) (at_keyed (λ k (p : Part). p.holds) h slots.entries) ∙ by (at h slots.entries)
  where
    by : (x : Option Part) → unwrap_or (option_map (λ (p : Part). p.holds) x) 0 ≡ option_map_or (λ (p : Part). p.holds) x 0
    by None = refl
    by (Some p) = refl

-- who is held is there
pub held_is_there : (slots : HandleMap Part) (h : ℕ) → 1 ≤ holds_at slots.entries h → IsSome (value_at slots h)
held_is_there slots h held = by (value_at slots h) held
  where
    by : (x : Option Part) → 1 ≤ option_map_or (λ (p : Part). p.holds) x 0 → IsSome x
    by None held = absurd (omega (arith, held))
    by (Some p) held = refl

-- and told by the part that is there
pub held_by : (slots new : HandleMap Part) (h : ℕ) (f : Part → Part) (r : Reslots slots new h f) → holds_at slots.entries h ≡ r.part.holds
held_by slots new h f r = ap (λ x. option_map_or (λ (p : Part). p.holds) x 0) r.there

-- flights that hold an object are among what names it
pub held_is_named : (slots : HandleMap Part) (arrays : Arrays) (counts : CountMap) (bound : ℕ) → AreParts slots arrays counts bound → (h : ℕ) → holds_at slots.entries h ≤ named_at counts h
held_is_named slots arrays counts bound parts h =
    let all : named_at counts h ≡ names_in (joined arrays slots.entries) h + loans_at (joined arrays slots.entries) h + holds_at slots.entries h = parts.counted.named h in
    omega (arith, all)

module _ (slots new : HandleMap Part) (arrays : Arrays) (counts moved : CountMap) (bound : ℕ) (parts : AreParts slots arrays counts bound) (h : ℕ) (f : Part → Part) (r : Reslots slots new h f)
    (same : object_of (f r.part) (array_at arrays h) ≡ object_of r.part (array_at arrays h)) (added gone : List ℕ) (moves : Moves counts moved added gone)
    (here : (f r.part).holds + times h gone ≡ r.part.holds + times h added) (others : (k : ℕ) → (k ≡ h → ⊥) → times k gone ≡ times k added) where
  up : RisesWithin 1 slots.next (keys_of slots.entries)
  up = rises 1 slots.next slots.entries parts.rising

  below : (1 ≤ h) × (h < slots.next)
  below = at_within h 1 slots.next slots.entries r.part up r.there

  changed_up : RisesWithin 1 slots.next (keys_of (set_value (is_at (nat_cmp h)) slots.entries (f r.part)))
  changed_up = subst (λ ks. RisesWithin 1 slots.next ks) (sym (keys-set_value (is_at (nat_cmp h)) slots.entries (f r.part))) up

  object_there : at h (joined arrays slots.entries) ≡ Some (object_of (f r.part) (array_at arrays h))
  object_there =
      at_keyed (λ h part. object_of part (array_at arrays h)) h slots.entries ∙ ap (option_map (λ part. object_of part (array_at arrays h))) r.there ∙ ap Some (sym same)

  objects_same : joined arrays (set_value (is_at (nat_cmp h)) slots.entries (f r.part)) ≡ joined arrays slots.entries
  objects_same =
      keyed_set (λ h part. object_of part (array_at arrays h)) h slots.entries (f r.part)
      ∙ set_value_same (is_at (nat_cmp h)) (joined arrays slots.entries) (object_of (f r.part) (array_at arrays h)) object_there

  holds_here : (k : ℕ) → k ≡ h → holds_at (set_value (is_at (nat_cmp h)) slots.entries (f r.part)) k ≡ (f r.part).holds
  holds_here k at_h =
      ap (holds_at (set_value (is_at (nat_cmp h)) slots.entries (f r.part))) at_h
      ∙ ap (λ x. option_map_or (λ (p : Part). p.holds) x 0) (at_changed h slots.entries r.part (f r.part) r.there)

  held_before : (k : ℕ) → k ≡ h → holds_at slots.entries k ≡ r.part.holds
  held_before k at_h = ap (holds_at slots.entries) at_h ∙ ap (λ x. option_map_or (λ (p : Part). p.holds) x 0) r.there

  holds_kept : (k : ℕ) → (k ≡ h → ⊥) → holds_at (set_value (is_at (nat_cmp h)) slots.entries (f r.part)) k ≡ holds_at slots.entries k
  holds_kept k apart = ap (λ x. option_map_or (λ (p : Part). p.holds) x 0) (at_unchanged h k slots.entries (f r.part) apart)

  holds_move : (k : ℕ) → (k ≡ h) ⊎ (k ≡ h → ⊥) →
      holds_at (set_value (is_at (nat_cmp h)) slots.entries (f r.part)) k + times k gone ≡ holds_at slots.entries k + times k added
  holds_move k (inl at_h) =
      let less : times k gone ≡ times h gone = ap (λ k. times k gone) at_h in
      let more : times k added ≡ times h added = ap (λ k. times k added) at_h in
      omega (arith, less, more, holds_here k at_h, held_before k at_h, here)
  holds_move k (inr apart) = omega (arith, others k apart, holds_kept k apart)

  few_still : (f r.part).holds ≤ 2 ^ 40 → (k : ℕ) → (k ≡ h) ⊎ (k ≡ h → ⊥) → holds_at (set_value (is_at (nat_cmp h)) slots.entries (f r.part)) k ≤ 2 ^ 40
  few_still few k (inl at_h) = omega (arith, holds_here k at_h, few)
  few_still few k (inr apart) = omega (arith, holds_kept k apart, parts.few k)

  counted_still : AreCounted (joined arrays slots.entries) (holds_at (set_value (is_at (nat_cmp h)) slots.entries (f r.part))) slots.next moved
  counted_still = record {
    named = λ k.
        let moved_ : named_at moved k + times k gone ≡ named_at counts k + times k added = moves.named k in
        let was : named_at counts k ≡ names_in (joined arrays slots.entries) k + loans_at (joined arrays slots.entries) k + holds_at slots.entries k = parts.counted.named k in
        omega (arith, moved_, was, holds_move k (cases_eq k h));
    there = λ k some. moves.there k ∙ parts.counted.there k some;
    only = λ k none some.
        let one : (k ≡ slots.next) × (public_at counts k ≡ 1) = parts.counted.only k none (sym (moves.there k) ∙ some) in
        (one.0, moves.public k ∙ one.1);
    free =
        let moved_ : named_at moved slots.next + times slots.next gone ≡ named_at counts slots.next + times slots.next added = moves.named slots.next in
        omega (arith, moved_, parts.counted.free, others slots.next (λ at_h. omega (arith, at_h, below.1)));
    fresh = λ k beyond none. moves.unborn k (parts.counted.fresh k beyond (none_by (counts_at counts k) (sym (moves.there k) ∙ ap is_some none)));
  }

  pub parts_held : (f r.part).holds ≤ 2 ^ 40 → AreParts new arrays moved bound
  parts_held few = subst (λ new. AreParts new arrays moved bound) (sym r.changed) (record {
    rising = rise 1 slots.next (set_value (is_at (nat_cmp h)) slots.entries (f r.part)) changed_up;
    none_beyond = parts.none_beyond;
    counted = subst (λ objects. AreCounted objects (holds_at (set_value (is_at (nat_cmp h)) slots.entries (f r.part))) slots.next moved) (sym objects_same) counted_still;
    short = parts.short;
    small = parts.small;
    few = λ k. few_still few k (cases_eq k h);
    bounded = λ k.
        let moved_ : named_at moved k + times k gone ≡ named_at counts k + times k added = moves.named k in
        omega (arith, moved_, parts.bounded k, holds_move k (cases_eq k h));
  })

  pub stored_held : (stopped : Stops) → stored new arrays moved stopped
      ≡ record (stored slots arrays counts stopped) { holds = set_value (is_at (nat_cmp h)) (stored slots arrays counts stopped).holds (f r.part).holds }
  stored_held stopped =
      ap (λ new. stored new arrays moved stopped) r.changed
      ∙ (λ i. record { state = record { objects = objects_same i; stopped = stopped.tickets; next = slots.next }; public = public i; holds = holds i; ready = ready i; places = stopped.room })
    where
      public : keyed (λ k (p : Part). public_at moved k) (set_value (is_at (nat_cmp h)) slots.entries (f r.part)) ≡ keyed (λ k (p : Part). public_at counts k) slots.entries
      public =
          keyed_same (λ k (p : Part). public_at moved k) (λ k (p : Part). public_at counts k) (set_value (is_at (nat_cmp h)) slots.entries (f r.part)) (λ k p. moves.public k)
          ∙ keyed_set (λ k (p : Part). public_at counts k) h slots.entries (f r.part)
          ∙ set_value_same (is_at (nat_cmp h)) (keyed (λ k (p : Part). public_at counts k) slots.entries) (public_at counts h)
          (at_keyed (λ k (p : Part). public_at counts k) h slots.entries ∙ ap (option_map (λ (p : Part). public_at counts h)) r.there)

      holds : keyed (λ k (p : Part). p.holds) (set_value (is_at (nat_cmp h)) slots.entries (f r.part)) ≡ set_value (is_at (nat_cmp h)) (keyed (λ k (p : Part). p.holds) slots.entries) (f r.part).holds
      holds = keyed_set (λ k (p : Part). p.holds) h slots.entries (f r.part)

      ready : (nat_lt 0 slots.spare && is_some (counts_at moved slots.next)) ≡ (nat_lt 0 slots.spare && is_some (counts_at counts slots.next))
      ready = ap (λ t. nat_lt 0 slots.spare && t) (moves.there slots.next)
