-- Public references come and go.
use Rattle.std.proofs.Common.{ℕ, ◌≡◌, ◌<◌, ◌≤◌, ◌∙◌, ◌⊎◌, inl, inr, nat_lt, List, Option, Some, None, refl, sym, ap, subst, arith}
use Rattle.std.specs.Prelude.{◌&&◌}
use Rattle.std.specs.BTreeMap.{is_at}
use Rattle.std.specs.Map.{keys_of, set_value}
use Rattle.std.specs.Option.{IsSome, is_some, option_map, unwrap_or}
use Rattle.std.specs.Ordering.{nat_cmp}
use Rattle.std.proofs.lemmas.Bool.{cases_eq}
use Rattle.std.proofs.lemmas.Map.{keys-set_value}
use Rattle.handle_table.specs.HandleMaps.{HandleMap}
use Rattle.ref_counts.specs.CountMaps.{ChangesAt, CountMap, counts_at, named_at, public_at}
use Rattle.array_objects.specs.Stores.{Arrays, array_at}
use Rattle.seq_model.proofs.Keys.{RisesWithin, at_changed, at_unchanged, at_within}
use Rattle.object_store.specs.Kept.{AreParts, Stops, Stored, number_at, stored}
use Rattle.object_store.specs.Parts.{Part, at, joined, keyed, object_of}
use Rattle.object_store.proofs.Counted.{not_some}
use Rattle.object_store.proofs.Keyed.{at_keyed, keys_keyed, rises, same_by_looks}

-- a map that is made another way at one key
keyed_changed : {X Y : Type 0} (f g : ℕ → X → Y) (low high h : ℕ) (es : List (ℕ × X)) (v : X) → RisesWithin low high (keys_of es) → at h es ≡ Some v → ((k : ℕ) (x : X) → (k ≡ h → ⊥) → g k x ≡ f k x) →
    keyed g es ≡ set_value (is_at (nat_cmp h)) (keyed f es) (g h v)
keyed_changed {X} {Y} f g low high h es v up there others =
    same_by_looks low high (keyed g es) (set_value (is_at (nat_cmp h)) (keyed f es) (g h v)) (subst (λ ks. RisesWithin low high ks) (sym (keys_keyed g es)) up)
    (subst (λ ks. RisesWithin low high ks) (sym (keys-set_value (is_at (nat_cmp h)) (keyed f es) (g h v) ∙ keys_keyed f es)) up)
    (λ k. at_keyed g k es ∙ by k (cases_eq k h))
  where
    same : (k : ℕ) → (k ≡ h → ⊥) → (x : Option X) → option_map (g k) x ≡ option_map (f k) x
    same k apart None = refl
    same k apart (Some x) = ap Some (others k x apart)

    by : (k : ℕ) → (k ≡ h) ⊎ (k ≡ h → ⊥) → option_map (g k) (at k es) ≡ at k (set_value (is_at (nat_cmp h)) (keyed f es) (g h v))
    by k (inl here) =
        ap (λ k. option_map (g k) (at k es)) here ∙ ap (option_map (g h)) there
        ∙ sym (ap (λ k. at k (set_value (is_at (nat_cmp h)) (keyed f es) (g h v))) here ∙ at_changed h (keyed f es) (f h v) (g h v) (at_keyed f h es ∙ ap (option_map (f h)) there))
    by k (inr apart) = same k apart (at k es) ∙ sym (at_unchanged h k (keyed f es) (g h v) apart ∙ at_keyed f k es)

-- who has a public reference is there
pub referred : (slots : HandleMap Part) (counts : CountMap) (h : ℕ) → 1 ≤ number_at (keyed (λ k (p : Part). public_at counts k) slots.entries) h →
    (part : Part) × (at h slots.entries ≡ Some part) × (number_at (keyed (λ k (p : Part). public_at counts k) slots.entries) h ≡ public_at counts h)
referred slots counts h some = by (at h slots.entries) refl
  where
    seen : number_at (keyed (λ k (p : Part). public_at counts k) slots.entries) h ≡ unwrap_or (option_map (λ (p : Part). public_at counts h) (at h slots.entries)) 0
    seen = ap (λ x. unwrap_or x 0) (at_keyed (λ k (p : Part). public_at counts k) h slots.entries)

    by : (x : Option Part) → at h slots.entries ≡ x →
        (part : Part) × (at h slots.entries ≡ Some part) × (number_at (keyed (λ k (p : Part). public_at counts k) slots.entries) h ≡ public_at counts h)
    by None none =
        let nothing : number_at (keyed (λ k (p : Part). public_at counts k) slots.entries) h ≡ 0 = seen ∙ ap (λ x. unwrap_or (option_map (λ (p : Part). public_at counts h) x) 0) none in
        absurd (omega (arith, nothing, some))
    by (Some part) is = (part, is, seen ∙ ap (λ x. unwrap_or (option_map (λ (p : Part). public_at counts h) x) 0) is)

module _ (slots : HandleMap Part) (arrays : Arrays) (counts new : CountMap) (bound h p : ℕ) (part : Part) (parts : AreParts slots arrays counts bound) (there : at h slots.entries ≡ Some part)
    (changes : ChangesAt counts new h (Some (p, named_at counts h))) where
  below : (1 ≤ h) × (h < slots.next)
  below = at_within h 1 slots.next slots.entries part (rises 1 slots.next slots.entries parts.rising) there

  object_there : at h (joined arrays slots.entries) ≡ Some (object_of part (array_at arrays h))
  object_there = at_keyed (λ h part. object_of part (array_at arrays h)) h slots.entries ∙ ap (option_map (λ part. object_of part (array_at arrays h))) there

  kept : (k : ℕ) → (k ≡ h → ⊥) → counts_at new k ≡ counts_at counts k
  kept k apart = ap (λ x. unwrap_or x None) (changes.others k apart)

  named_kept : (k : ℕ) → (k ≡ h) ⊎ (k ≡ h → ⊥) → named_at new k ≡ named_at counts k
  named_kept k (inl same) = ap (named_at new) same ∙ ap (λ x. unwrap_or (option_map (λ (c : ℕ × ℕ). c.1) x) 0) changes.changed ∙ sym (ap (named_at counts) same)
  named_kept k (inr apart) = ap (λ x. unwrap_or (option_map (λ (c : ℕ × ℕ). c.1) x) 0) (kept k apart)

  others_public : (k : ℕ) → (k ≡ h → ⊥) → public_at new k ≡ public_at counts k
  others_public k apart = ap (λ x. unwrap_or (option_map (λ (c : ℕ × ℕ). c.0) x) 0) (kept k apart)

  pub parts_referred : AreParts slots arrays new bound
  parts_referred = record {
    rising = parts.rising;
    none_beyond = parts.none_beyond;
    counted = record {
      named = λ k. named_kept k (cases_eq k h) ∙ parts.counted.named k;
      there = λ k some. there_ k some (cases_eq k h);
      only = λ k none some. only_ k none some (cases_eq k h);
      free = named_kept slots.next (cases_eq slots.next h) ∙ parts.counted.free;
      fresh = λ k beyond none.
          let apart : k ≡ h → ⊥ = λ same. omega (arith, same, beyond, below.1) in
          changes.others k apart ∙ parts.counted.fresh k beyond (sym (kept k apart) ∙ none);
    };
    short = parts.short;
    small = parts.small;
    few = parts.few;
    bounded = λ k. omega (arith, named_kept k (cases_eq k h), parts.bounded k);
  }
    where
      there_ : (k : ℕ) → IsSome (at k (joined arrays slots.entries)) → (k ≡ h) ⊎ (k ≡ h → ⊥) → IsSome (counts_at new k)
      there_ k some (inl same) = ap (λ k. is_some (counts_at new k)) same ∙ ap is_some changes.changed
      there_ k some (inr apart) = ap is_some (kept k apart) ∙ parts.counted.there k some

      only_ : (k : ℕ) → at k (joined arrays slots.entries) ≡ None → IsSome (counts_at new k) → (k ≡ h) ⊎ (k ≡ h → ⊥) → (k ≡ slots.next) × (public_at new k ≡ 1)
      only_ k none some (inl same) =
          absurd (not_some (at k (joined arrays slots.entries)) none (ap (λ k. is_some (at k (joined arrays slots.entries))) same ∙ ap is_some object_there))
      only_ k none some (inr apart) =
          let one : (k ≡ slots.next) × (public_at counts k ≡ 1) = parts.counted.only k none (sym (ap is_some (kept k apart)) ∙ some) in (one.0, others_public k apart ∙ one.1)

  pub stored_referred : (stopped : Stops) →
      stored slots arrays new stopped ≡ record (stored slots arrays counts stopped) { public = set_value (is_at (nat_cmp h)) (stored slots arrays counts stopped).public p }
  stored_referred stopped =
      λ i. record {
        state = record { objects = joined arrays slots.entries; stopped = stopped.tickets; next = slots.next };
        public = public i;
        holds = keyed (λ k (p : Part). p.holds) slots.entries;
        ready = nat_lt 0 slots.spare && some i;
        places = stopped.room;
      }
    where
      public : keyed (λ k (x : Part). public_at new k) slots.entries ≡ set_value (is_at (nat_cmp h)) (keyed (λ k (x : Part). public_at counts k) slots.entries) p
      public =
          keyed_changed (λ k (x : Part). public_at counts k) (λ k (x : Part). public_at new k) 1 slots.next h slots.entries part (rises 1 slots.next slots.entries parts.rising) there (λ k x apart. others_public k apart)
          ∙ ap (set_value (is_at (nat_cmp h)) (keyed (λ k (x : Part). public_at counts k) slots.entries)) (ap (λ x. unwrap_or (option_map (λ (c : ℕ × ℕ). c.0) x) 0) changes.changed)

      some : is_some (counts_at new slots.next) ≡ is_some (counts_at counts slots.next)
      some = ap is_some (kept slots.next (λ same. omega (arith, same, below.1)))

-- the same, of what contracts see
pub referred_in : (s : Stored) (slots : HandleMap Part) (arrays : Arrays) (counts : CountMap) (stopped : Stops) (h : ℕ) → stored slots arrays counts stopped ≡ s → 1 ≤ number_at s.public h →
    (part : Part) × (at h slots.entries ≡ Some part) × (number_at s.public h ≡ public_at counts h)
referred_in s slots arrays counts stopped h is some =
    let same : number_at (keyed (λ k (p : Part). public_at counts k) slots.entries) h ≡ number_at s.public h = ap (λ (s : Stored). number_at s.public h) is in
    let one : (part : Part) × (at h slots.entries ≡ Some part) × (number_at (keyed (λ k (p : Part). public_at counts k) slots.entries) h ≡ public_at counts h) =
    referred slots counts h (omega (arith, same, some)) in
    (one.0, one.1, sym same ∙ one.2)

pub referred_becomes : (s : Stored) (slots : HandleMap Part) (arrays : Arrays) (counts new : CountMap) (bound h p q : ℕ) (stopped : Stops) (part : Part) → stored slots arrays counts stopped ≡ s →
    AreParts slots arrays counts bound → at h slots.entries ≡ Some part → ChangesAt counts new h (Some (p, named_at counts h)) → p ≡ q →
    stored slots arrays new stopped ≡ record s { public = set_value (is_at (nat_cmp h)) s.public q }
referred_becomes s slots arrays counts new bound h p q stopped part is parts there changes same =
    subst (λ (s : Stored). stored slots arrays new stopped ≡ record s { public = set_value (is_at (nat_cmp h)) s.public q }) is
    (stored_referred slots arrays counts new bound h p part parts there changes stopped
    ∙ ap (λ p. record (stored slots arrays counts stopped) { public = set_value (is_at (nat_cmp h)) (stored slots arrays counts stopped).public p }) same)
