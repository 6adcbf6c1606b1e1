-- A new array is the staged value of a parameter.
use Rattle.std.proofs.Common.{ℕ, zero, suc, ◌+◌, ◌≡◌, ◌<◌, ◌≤◌, ◌^◌, ◌∙◌, ◌⊎◌, inl, inr, Bool, true, false, List, [], ◌∷◌, ◌++◌, Option, Some, None, length, refl, sym, ap, subst, arith}
use Rattle.std.specs.Prelude.{cond}
use Rattle.std.specs.BTreeMap.{is_at}
use Rattle.std.specs.Map.{keys_of, set_value}
use Rattle.std.specs.Option.{IfSome, IsSome, is_some, option_map, option_to_list}
use Rattle.std.specs.Ordering.{nat_cmp}
use Rattle.std.proofs.lemmas.Bool.{cases_eq}
use Rattle.dev_types.specs.declared.data_types.DataType.TheVariants as ty
use Rattle.dev_types.specs.declared.values.Value.TheVariants as value
use Rattle.kind_tables.specs.SceneObjects.{object_in, with_value}
use Rattle.kind_tables.specs.declared.kinds.Kind.{Kind}
use Rattle.kind_tables.specs.declared.kinds.Kind.TheVariants.{Array as ArrayKind}
use Rattle.handle_table.specs.HandleMaps.{HandleMap, RiseWithin, value_at, with_value as with_slot}
use Rattle.ref_counts.specs.CountMaps.{CountMap, counts_at, named_at}
use Rattle.array_objects.specs.Stores.{Arrays, ChangesAt as ArraysChange, array_at, block_at}
use Rattle.array_objects.specs.declared.arrays.Array.{Array}
use Rattle.array_objects.specs.declared.arrays.Block.{Block}
use Rattle.seq_model.proofs.Keys.{at_within, key_is_other, rises_up}
use Rattle.dev_types.specs.Counting.{times}
use Rattle.seq_model.specs.State.{changed_at, with_object}
use Rattle.seq_model.specs.Steps.{set_staged}
use Rattle.object_store.specs.Kept.{AreCounted, AreParts, IsShort, Stops, Stored, stored}
use Rattle.object_store.specs.Moves.{Moves, Restages}
use Rattle.object_store.specs.Parts.{Part, array_of, at, fresh_part, holds_at, joined, named_in_block, object_of, set_in}
use Rattle.object_store.proofs.ArrayBirths.{parts_of_array, stored_array}
use Rattle.object_store.proofs.Births.{parts_beyond}
use Rattle.object_store.proofs.Keyed.{at_keyed, keyed_same, rises}
use Rattle.object_store.proofs.PartFacts.{gone_is_named, one_is, parts_restaged, stored_restaged}
use Rattle.object_store.proofs.Totals.{at_last, at_more}

-- what is written at a key is written in front of another key
pub set_before : {X : Type 0} (h n : ℕ) (es : List (ℕ × X)) (v w : X) → (h ≡ n → ⊥) →
    set_value (is_at (nat_cmp h)) (es ++ (n, v) ∷ []) w ≡ set_value (is_at (nat_cmp h)) es w ++ (n, v) ∷ []
set_before h n [] v w apart = ap (λ t. cond t ((n, w) ∷ []) ((n, v) ∷ [])) (key_is_other h n apart)
set_before {X} h n (e ∷ es) v w apart = by (is_at (nat_cmp h) e.0) (set_before h n es v w apart)
  where
    by : (t : Bool) → set_value (is_at (nat_cmp h)) (es ++ (n, v) ∷ []) w ≡ set_value (is_at (nat_cmp h)) es w ++ (n, v) ∷ [] →
        cond t ((e.0, w) ∷ (es ++ (n, v) ∷ [])) (e ∷ set_value (is_at (nat_cmp h)) (es ++ (n, v) ∷ []) w)
        ≡ cond t ((e.0, w) ∷ es) (e ∷ set_value (is_at (nat_cmp h)) es w) ++ (n, v) ∷ []
    by true rest = refl
    by false rest = ap (λ rest. e ∷ rest) rest

-- the next handle is one that a value names
pub next_from_one : (slots : HandleMap Part) → RiseWithin 1 slots.next slots.entries → 1 ≤ slots.next
next_from_one slots rising = rises_up 1 slots.next (keys_of slots.entries) (rises 1 slots.next slots.entries rising)

pub names_itself : (n : ℕ) → 1 ≤ n → option_to_list (object_in (value.Object ty.Array1D n)) ≡ n ∷ []
names_itself zero some = absurd (omega (arith, some))
names_itself (suc n) some = refl

pub one_more_fresh : (slots new : HandleMap Part) (n h : ℕ) (kind : Kind) (part : Part) → new.entries ≡ slots.entries ++ (h, part) ∷ [] → h ≡ n → part ≡ fresh_part kind →
    new.entries ≡ slots.entries ++ (n, fresh_part kind) ∷ []
one_more_fresh slots new n h kind part entries handle is = entries ∙ ap (λ k. slots.entries ++ (k, part) ∷ []) handle ∙ ap (λ p. slots.entries ++ (n, p) ∷ []) is

-- the parts with arrays that are looked up alike
module _ (slots new : HandleMap Part) (arrays back : Arrays) (same : (k : ℕ) → array_at back k ≡ array_at arrays k) (is : new ≡ slots) where
  objects_alike : joined back slots.entries ≡ joined arrays slots.entries
  objects_alike = keyed_same (λ h part. object_of part (array_at back h)) (λ h part. object_of part (array_at arrays h)) slots.entries (λ h p. ap (object_of p) (same h))

  pub parts_as_before : (counts : CountMap) (bound : ℕ) → AreParts slots arrays counts bound → AreParts new back counts bound
  parts_as_before counts bound parts = subst (λ new. AreParts new back counts bound) (sym is) (record {
    rising = parts.rising;
    none_beyond = λ k beyond. same k ∙ parts.none_beyond k beyond;
    counted = subst (λ objects. AreCounted objects (holds_at slots.entries) slots.next counts) (sym objects_alike) parts.counted;
    short = λ k. subst (λ x. IfSome x IsShort) (sym (same k)) (parts.short k);
    small = parts.small;
    few = parts.few;
    bounded = parts.bounded;
  })

  pub stored_as_before : (counts : CountMap) (stopped : Stops) → stored new back counts stopped ≡ stored slots arrays counts stopped
  stored_as_before counts stopped =
      ap (λ new. stored new back counts stopped) is
      ∙ ap (λ objects. record (stored slots arrays counts stopped) { state = record (stored slots arrays counts stopped).state { objects = objects } }) objects_alike

-- an array that was added and taken out again
pub looked_alike : (arrays held back : Arrays) (h : ℕ) (array : Option Array) → array_at arrays h ≡ None → ArraysChange arrays held h array → ArraysChange held back h None →
    (k : ℕ) → array_at back k ≡ array_at arrays k
looked_alike arrays held back h array none first second k = by (cases_eq k h)
  where
    by : (k ≡ h) ⊎ (k ≡ h → ⊥) → array_at back k ≡ array_at arrays k
    by (inl here) = ap (array_at back) here ∙ second.changed ∙ sym none ∙ sym (ap (array_at arrays) here)
    by (inr apart) = second.others k apart ∙ first.others k apart

module _ (slots first new : HandleMap Part) (arrays held : Arrays) (counts mid : CountMap) (bound : ℕ) (parts : AreParts slots arrays counts bound) (block : Block) (h : ℕ) (name added gone : List ℕ)
    (r : Restages slots first h (set_in name (value.Object ty.Array1D slots.next)) added gone) (added_is : added ≡ slots.next ∷ [])
    (entries : new.entries ≡ first.entries ++ (slots.next, fresh_part (ArrayKind block.ty)) ∷ []) (next : new.next ≡ slots.next + 1)
    (changes : ArraysChange arrays held slots.next (Some (record { block = block; loan = None }))) (born : IsSome (counts_at counts slots.next))
    (moves : Moves counts mid (named_in_block (block_at held slots.next)) [])
    (named : (k : ℕ) → 0 < times k (named_in_block (Some block)) → IsSome (at k (joined arrays slots.entries))) (small : bound + block.count + 1 ≤ 2 ^ 62) (short : block.count ≤ 2 ^ 28) where
  -- the slots with the new array alone
  abbrev more : HandleMap Part
  more = record { entries = slots.entries ++ (slots.next, fresh_part (ArrayKind block.ty)) ∷ []; next = slots.next + 1; spare = new.spare }

  apart : h ≡ slots.next → ⊥
  apart same = omega (arith, same, (at_within h 1 slots.next slots.entries r.part (rises 1 slots.next slots.entries parts.rising) r.there).1)

  there : value_at more h ≡ Some r.part
  there = at_more h slots.next slots.entries (fresh_part (ArrayKind block.ty)) apart ∙ r.there

  parts_with : AreParts more held mid (bound + block.count)
  parts_with = parts_of_array slots more arrays held counts mid bound parts block refl refl changes born moves named (omega (arith, small)) short

  set_later : new ≡ with_slot more h (record r.part { params = set_in name (value.Object ty.Array1D slots.next) r.part.params })
  set_later = λ i. record { entries = entries_ i; next = next i; spare = new.spare }
    where
      entries_ : new.entries ≡ set_value (is_at (nat_cmp h)) (slots.entries ++ (slots.next, fresh_part (ArrayKind block.ty)) ∷ []) (record r.part { params = set_in name (value.Object ty.Array1D slots.next) r.part.params })
      entries_ =
          entries ∙ ap (λ (m : HandleMap Part). m.entries ++ (slots.next, fresh_part (ArrayKind block.ty)) ∷ []) r.changed
          ∙ sym (set_before h slots.next slots.entries (fresh_part (ArrayKind block.ty)) (record r.part { params = set_in name (value.Object ty.Array1D slots.next) r.part.params }) apart)

  pub few_counted : (k : ℕ) → named_at mid k + length added ≤ 2 ^ 63
  few_counted k =
      let one : length added ≡ length (slots.next ∷ []) = ap length added_is in
      let single : length (slots.next ∷ []) ≡ 1 = refl in
      omega (arith, one, single, parts_with.bounded k, parts_with.few k, parts_with.small)

  pub gone_is_counted : (k : ℕ) → times k gone ≤ named_at mid k + times k added
  gone_is_counted = gone_is_named more held mid (bound + block.count) parts_with h (set_in name (value.Object ty.Array1D slots.next)) r.part there added gone r.accounts

  module _ (last : CountMap) (moved : Moves mid last added gone) where
    pub parts_staged : AreParts new held last (bound + (block.count + 1))
    parts_staged =
        parts_restaged more held mid (bound + block.count) parts_with h (set_in name (value.Object ty.Array1D slots.next)) r.part there new last (bound + (block.count + 1)) added gone set_later r.accounts moved
        all (omega (arith, one, single)) (omega (arith, small))
      where
        one : length added ≡ length (slots.next ∷ [])
        one = ap length added_is

        single : length (slots.next ∷ []) ≡ 1
        single = refl

        made : IsSome (at slots.next (joined held more.entries))
        made =
            ap is_some (at_keyed (λ h part. object_of part (array_at held h)) slots.next more.entries)
            ∙ ap (λ x. is_some (option_map (λ part. object_of part (array_at held slots.next)) x))
            (at_last slots.next slots.entries (fresh_part (ArrayKind block.ty)) (parts_beyond slots slots.next parts.rising (omega arith)))

        all : (k : ℕ) → 0 < times k added → IsSome (at k (joined held more.entries))
        all k some = one_is (Some slots.next) (λ k. IsSome (at k (joined held more.entries))) made k (subst (λ added. 0 < times k added) added_is some)

    pub stored_staged : (stopped : Stops) → stored new held last stopped ≡ record {
      state = changed_at h (set_staged (with_value name (value.Object ty.Array1D slots.next))) (with_object (array_of block) (stored slots arrays counts stopped).state);
      public = (stored slots arrays counts stopped).public ++ (slots.next, 1) ∷ [];
      holds = (stored slots arrays counts stopped).holds ++ (slots.next, 0) ∷ [];
      ready = false;
      places = stopped.room;
    }
    stored_staged stopped =
        stored_restaged more held mid (bound + block.count) parts_with h (set_in name (value.Object ty.Array1D slots.next)) r.part there new last stopped added gone
        (set_staged (with_value name (value.Object ty.Array1D slots.next))) set_later moved refl
        ∙ ap (λ (s : Stored). record s { state = changed_at h (set_staged (with_value name (value.Object ty.Array1D slots.next))) s.state })
        (stored_array slots more arrays held counts mid bound parts block refl refl changes born moves stopped)
