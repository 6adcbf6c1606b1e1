-- The parts of a store and what they stand for.
use Rattle.param_stage.specs.declared.handles.Named.{Named}
use Rattle.std.specs.declared.result.Result.{Result}
use Rattle.std.proofs.Common.{length-append, Ok, Err, IfOk, OnOk, OnErr, ℕ, zero, suc, ◌+◌, ◌≡◌, ◌<◌, ◌≤◌, ◌^◌, ◌∙◌, ◌⊎◌, inl, inr, nat_lt, Bool, true, false, List, [], Option, Some, None, refl, sym, ap, subst, arith, length}
use Rattle.std.specs.Prelude.{◌&&◌}
use Rattle.std.specs.BTreeMap.{is_at}
use Rattle.std.specs.Map.{set_value}
use Rattle.std.specs.Option.{IfSome, IsSome, MatchOption, is_some, option_map, option_map_or, option_to_list, unwrap_or}
use Rattle.std.specs.Ordering.{nat_cmp}
use Rattle.std.proofs.lemmas.Bool.{cases_eq}
use Rattle.std.proofs.lemmas.Map.{keys-set_value}
use Rattle.std.proofs.lemmas.Map.Steps.{set_value_same}
use Rattle.kind_tables.specs.SceneObjects.{objects_of}
use Rattle.handle_table.specs.HandleMaps.{HandleMap, value_at, with_value as with_slot}
use Rattle.param_stage.specs.Params.{Accounts, ParamMaps, named}
use Rattle.ref_counts.specs.CountMaps.{CountMap, counts_at, named_at, public_at}
use Rattle.array_objects.specs.Stores.{Arrays, array_at}
use Rattle.array_objects.specs.declared.arrays.Array.{Array}
use Rattle.seq_model.proofs.Keys.{RisesWithin, at_changed, at_unchanged, nothing_outside}
use Rattle.seq_model.specs.Life.{names_of, objects_of_elements}
use Rattle.dev_types.specs.Counting.{times}
use Rattle.seq_model.specs.State.{Object, changed_at, object_at}
use Rattle.object_store.specs.Kept.{AreCounted, AreParts, Stops, Stored, loans_at, names_in, stored}
use Rattle.object_store.specs.Moves.{Moves, Reslots, Restages}
use Rattle.object_store.specs.Parts.{Part, array_state, at, holds_at, joined, keyed, object_of}
use Rattle.object_store.proofs.Counted.{counted_change, none_by, not_some}
use Rattle.object_store.proofs.Keyed.{at_keyed, keyed_same, keyed_set, rise, rises}
use Rattle.object_store.proofs.MoveFacts.{named_is_some, never}
use Rattle.object_store.proofs.Totals.{loans_if, names_least, times_append, times_least, weigh}

-- an object is there exactly where its part is
pub looked : (s : Stored) (slots : HandleMap Part) (arrays : Arrays) (counts : CountMap) (stopped : Stops) (h : ℕ) → stored slots arrays counts stopped ≡ s →
    object_at s.state h ≡ option_map (λ part. object_of part (array_at arrays h)) (value_at slots h)
looked s slots arrays counts stopped h is =
    sym (ap (λ (s : Stored). object_at s.state h) is) ∙ at_keyed (λ h part. object_of part (array_at arrays h)) h slots.entries

-- what is read of an object without its array is read of its part
pub read_none : (s : Stored) (slots : HandleMap Part) (arrays : Arrays) (counts : CountMap) (stopped : Stops) (h : ℕ) → stored slots arrays counts stopped ≡ s →
    None ≡ value_at slots h → object_at s.state h ≡ None
read_none s slots arrays counts stopped h is none =
    looked s slots arrays counts stopped h is ∙ ap (option_map (λ part. object_of part (array_at arrays h))) (sym none)

pub read_some : (s : Stored) (slots : HandleMap Part) (arrays : Arrays) (counts : CountMap) (stopped : Stops) (h : ℕ) (part : Part) → stored slots arrays counts stopped ≡ s →
    Some part ≡ value_at slots h → object_at s.state h ≡ Some (object_of part (array_at arrays h))
read_some s slots arrays counts stopped h part is some =
    looked s slots arrays counts stopped h is ∙ ap (option_map (λ part. object_of part (array_at arrays h))) (sym some)

module _ (slots : HandleMap Part) (arrays : Arrays) (counts : CountMap) (bound : ℕ) (parts : AreParts slots arrays counts bound)
    (h : ℕ) (change : ParamMaps → ParamMaps) (part : Part) (there : value_at slots h ≡ Some part) where
  object_there : at h (joined arrays slots.entries) ≡ Some (object_of part (array_at arrays h))
  object_there = at_keyed (λ h part. object_of part (array_at arrays h)) h slots.entries ∙ ap (option_map (λ part. object_of part (array_at arrays h))) there

  -- what is named by the parameters and what by all
  named_parts : (k : ℕ) (p : Part) (array : Option Array) → times k (names_of (object_of p array)) ≡ times k (named p.params) + times k (objects_of_elements (option_map array_state array))
  named_parts k p array = times_append k (named p.params) (objects_of_elements (option_map array_state array))

  -- so what is gone was counted
  pub gone_is_named : (added gone : List ℕ) → Accounts part.params (change part.params) added gone → (k : ℕ) → times k gone ≤ named_at counts k + times k added
  gone_is_named added gone accounts k =
      let moved : times k (named (change part.params)) + times k gone ≡ times k (named part.params) + times k added = accounts k in
      let counted : named_at counts k ≡ names_in (joined arrays slots.entries) k + loans_at (joined arrays slots.entries) k + holds_at slots.entries k = parts.counted.named k in
      omega (arith, moved, counted, named_parts k part (array_at arrays h), names_least k h (joined arrays slots.entries) (object_of part (array_at arrays h)) object_there)

  -- who is named anew is there, so it is not the next handle
  pub next_is_not_named : (added : List ℕ) → ((k : ℕ) → 0 < times k added → IsSome (at k (joined arrays slots.entries))) → times slots.next added ≡ 0
  next_is_not_named added all = by (times slots.next added) refl
    where
      none : at slots.next (joined arrays slots.entries) ≡ None
      none = at_keyed (λ h part. object_of part (array_at arrays h)) slots.next slots.entries
          ∙ ap (option_map (λ part. object_of part (array_at arrays slots.next))) (nothing_outside slots.next 1 slots.next slots.entries (rises 1 slots.next slots.entries parts.rising) (λ low less. omega (arith, less)))

      by : (n : ℕ) → times slots.next added ≡ n → n ≡ 0
      by zero is = refl
      by (suc n) is =
          let some : 0 < times slots.next added = omega (arith, is) in
          absurd (not_some (at slots.next (joined arrays slots.entries)) none (all slots.next some))

  -- what an object has staged is there, and as many as its parameters name, at most
  pub staged_is_there : (added : List ℕ) → added ≡ objects_of part.params.staged → (k : ℕ) → 0 < times k added → IsSome (at k (joined arrays slots.entries))
  staged_is_there added is k some = by (is_some (at k (joined arrays slots.entries))) refl
    where
      parts_of_names : times k (named part.params) ≡ times k (objects_of part.params.staged) + times k (objects_of part.params.committed)
      parts_of_names = times_append k (objects_of part.params.staged) (objects_of part.params.committed)

      counted : 1 ≤ named_at counts k
      counted =
          let same : times k added ≡ times k (objects_of part.params.staged) = ap (times k) is in
          let all : named_at counts k ≡ names_in (joined arrays slots.entries) k + loans_at (joined arrays slots.entries) k + holds_at slots.entries k = parts.counted.named k in
          omega (arith, some, same, parts_of_names, all, named_parts k part (array_at arrays h), names_least k h (joined arrays slots.entries) (object_of part (array_at arrays h)) object_there)

      by : (t : Bool) → is_some (at k (joined arrays slots.entries)) ≡ t → IsSome (at k (joined arrays slots.entries))
      by true there_ = there_
      by false none =
          let one : (k ≡ slots.next) × (public_at counts k ≡ 1) = parts.counted.only k (none_by (at k (joined arrays slots.entries)) none) (named_is_some counts k counted) in
          let zero_ : named_at counts k ≡ 0 = ap (named_at counts) one.0 ∙ parts.counted.free in
          absurd (omega (arith, counted, zero_))

  pub at_most_staged : (added : List ℕ) → added ≡ objects_of part.params.staged → length added ≤ length (named part.params)
  at_most_staged added is =
      let both : length (named part.params) ≡ length (objects_of part.params.staged) + length (objects_of part.params.committed) = length-append (objects_of part.params.staged) (objects_of part.params.committed) in
      let same : length added ≡ length (objects_of part.params.staged) = ap length is in
      omega (arith, both, same)

  pub parts_restaged : (new : HandleMap Part) (moved : CountMap) (most : ℕ) (added gone : List ℕ) → new ≡ with_slot slots h (record part { params = change part.params }) →
      Accounts part.params (change part.params) added gone → Moves counts moved added gone →
      ((k : ℕ) → 0 < times k added → IsSome (at k (joined arrays slots.entries))) → bound + length added ≤ most → most ≤ 2 ^ 62 → AreParts new arrays moved most
  parts_restaged new moved most added gone is accounts moves all fits small =
      subst (λ new. AreParts new arrays moved most) (sym is) (record {
        rising = rise 1 slots.next (set_value (is_at (nat_cmp h)) slots.entries (record part { params = change part.params }))
            (subst (λ ks. RisesWithin 1 slots.next ks) (sym (keys-set_value (is_at (nat_cmp h)) slots.entries (record part { params = change part.params }))) (rises 1 slots.next slots.entries parts.rising));
        none_beyond = parts.none_beyond;
        counted = subst (λ objects. AreCounted objects (holds_at (set_value (is_at (nat_cmp h)) slots.entries (record part { params = change part.params }))) slots.next moved)
            (sym (keyed_set (λ h part. object_of part (array_at arrays h)) h slots.entries (record part { params = change part.params })))
            (subst (λ holds. AreCounted (set_value (is_at (nat_cmp h)) (joined arrays slots.entries) (object_of (record part { params = change part.params }) (array_at arrays h))) holds slots.next moved) (λ i k. same_holds k i)
            (counted_change (joined arrays slots.entries) (holds_at slots.entries) slots.next counts moved h (object_of part (array_at arrays h)) (object_of (record part { params = change part.params }) (array_at arrays h))
            added gone parts.counted object_there moves weighs (next_is_not_named added all)));
        short = parts.short;
        small = small;
        few = λ k. omega (arith, parts.few k, same_holds k);
        bounded = λ k.
            let named_ : named_at moved k + times k gone ≡ named_at counts k + times k added = moves.named k in
            omega (arith, named_, parts.bounded k, times_least k added, fits, same_holds k);
      })
    where
      same_holds : (k : ℕ) → holds_at slots.entries k ≡ holds_at (set_value (is_at (nat_cmp h)) slots.entries (record part { params = change part.params })) k
      same_holds k = by (cases_eq k h)
        where
          by : (k ≡ h) ⊎ (k ≡ h → ⊥) → holds_at slots.entries k ≡ holds_at (set_value (is_at (nat_cmp h)) slots.entries (record part { params = change part.params })) k
          by (inl same) =
              ap (holds_at slots.entries) same ∙ ap (λ x. option_map_or (λ (p : Part). p.holds) x 0) there
              ∙ sym (ap (holds_at (set_value (is_at (nat_cmp h)) slots.entries (record part { params = change part.params }))) same
              ∙ ap (λ x. option_map_or (λ (p : Part). p.holds) x 0) (at_changed h slots.entries part (record part { params = change part.params }) there))
          by (inr apart) = sym (ap (λ x. option_map_or (λ (p : Part). p.holds) x 0) (at_unchanged h k slots.entries (record part { params = change part.params }) apart))

      weighs : (k : ℕ) → weigh k h (object_of (record part { params = change part.params }) (array_at arrays h)) + times k gone ≡ weigh k h (object_of part (array_at arrays h)) + times k added
      weighs k =
          let one : times k (named (change part.params)) + times k gone ≡ times k (named part.params) + times k added = accounts k in
          let same : loans_if k h (object_of (record part { params = change part.params }) (array_at arrays h)) ≡ loans_if k h (object_of part (array_at arrays h)) = refl in
          omega (arith, one, same, named_parts k part (array_at arrays h), named_parts k (record part { params = change part.params }) (array_at arrays h))

  -- what contracts see of the store afterwards
  pub stored_restaged : (new : HandleMap Part) (moved : CountMap) (stopped : Stops) (added gone : List ℕ) (f : Object → Object) → new ≡ with_slot slots h (record part { params = change part.params }) → Moves counts moved added gone →
      object_of (record part { params = change part.params }) (array_at arrays h) ≡ f (object_of part (array_at arrays h)) →
      stored new arrays moved stopped ≡ record (stored slots arrays counts stopped) { state = changed_at h f (stored slots arrays counts stopped).state }
  stored_restaged new moved stopped added gone f is moves same =
      ap (λ new. stored new arrays moved stopped) is
      ∙ (λ i. record { state = record { objects = objects i; stopped = stopped.tickets; next = slots.next }; public = public i; holds = holds i; ready = ready i; places = stopped.room })
    where
      objects : joined arrays (set_value (is_at (nat_cmp h)) slots.entries (record part { params = change part.params })) ≡ (changed_at h f (stored slots arrays counts stopped).state).objects
      objects =
          keyed_set (λ h part. object_of part (array_at arrays h)) h slots.entries (record part { params = change part.params })
          ∙ ap (λ o. set_value (is_at (nat_cmp h)) (joined arrays slots.entries) o) same
          ∙ sym (ap (λ x. unwrap_or (option_map (λ o. set_value (is_at (nat_cmp h)) (joined arrays slots.entries) (f o)) x) (joined arrays slots.entries)) object_there)

      public : keyed (λ k (p : Part). public_at moved k) (set_value (is_at (nat_cmp h)) slots.entries (record part { params = change part.params })) ≡ keyed (λ k (p : Part). public_at counts k) slots.entries
      public =
          keyed_same (λ k (p : Part). public_at moved k) (λ k (p : Part). public_at counts k) (set_value (is_at (nat_cmp h)) slots.entries (record part { params = change part.params })) (λ k p. moves.public k)
          ∙ keyed_set (λ k (p : Part). public_at counts k) h slots.entries (record part { params = change part.params })
          ∙ set_value_same (is_at (nat_cmp h)) (keyed (λ k (p : Part). public_at counts k) slots.entries) (public_at counts h)
          (at_keyed (λ k (p : Part). public_at counts k) h slots.entries ∙ ap (option_map (λ (p : Part). public_at counts h)) there)

      holds : keyed (λ k (p : Part). p.holds) (set_value (is_at (nat_cmp h)) slots.entries (record part { params = change part.params })) ≡ keyed (λ k (p : Part). p.holds) slots.entries
      holds =
          keyed_set (λ k (p : Part). p.holds) h slots.entries (record part { params = change part.params })
          ∙ set_value_same (is_at (nat_cmp h)) (keyed (λ k (p : Part). p.holds) slots.entries) part.holds
          (at_keyed (λ k (p : Part). p.holds) h slots.entries ∙ ap (option_map (λ (p : Part). p.holds)) there)

      ready : (nat_lt 0 slots.spare && is_some (counts_at moved slots.next)) ≡ (nat_lt 0 slots.spare && is_some (counts_at counts slots.next))
      ready = ap (λ t. nat_lt 0 slots.spare && t) (moves.there slots.next)

-- the part of an object that is there is there
pub part_there : (s : Stored) (slots : HandleMap Part) (arrays : Arrays) (counts : CountMap) (stopped : Stops) (h : ℕ) → stored slots arrays counts stopped ≡ s →
    IsSome (object_at s.state h) → IsSome (value_at slots h)
part_there s slots arrays counts stopped h is some = by (value_at slots h) (sym (ap is_some (looked s slots arrays counts stopped h is)) ∙ some)
  where
    by : (x : Option Part) → is_some (option_map (λ part. object_of part (array_at arrays h)) x) ≡ true → IsSome x
    by None some = some
    by (Some part) some = refl

-- one or none: who is in it is the one
pub one_is : (o : Option ℕ) (P : ℕ → Type 0) → MatchOption o (Unit {0}) P → (k : ℕ) → 0 < times k (option_to_list o) → P k
one_is None P holds k some = let none : times k [] ≡ 0 = refl in absurd (omega (arith, some, none))
one_is (Some j) P holds k some = by (cases_eq k j)
  where
    by : (k ≡ j) ⊎ (k ≡ j → ⊥) → P k
    by (inl same) = subst P (sym same) holds
    by (inr apart) = absurd (omega (arith, some, never j k apart))

pub at_most_one : (o : Option ℕ) → length (option_to_list o) ≤ 1
at_most_one None = omega arith
at_most_one (Some j) = omega arith

-- what is written back, as it was or changed
pub written_back : (old : HandleMap Part) (h : ℕ) (part new : Part) → Some part ≡ value_at old h → new ≡ part → with_slot old h new ≡ old
written_back old h part new found same = ap (λ es. record old { entries = es }) (ap (set_value (is_at (nat_cmp h)) old.entries) same ∙ set_value_same (is_at (nat_cmp h)) old.entries part (sym found))

pub unchanged_if : {T E : Type 0} (r : Result T E) (old : HandleMap Part) (h : ℕ) (part new : Part) → Some part ≡ value_at old h → OnErr r (new ≡ part) → OnErr r (with_slot old h new ≡ old)
unchanged_if (Ok t) old h part new found same = tt
unchanged_if (Err e) old h part new found same = written_back old h part new found same

pub restaged_if : {E : Type 0} (r : Result Named E) (old : HandleMap Part) (h : ℕ) (change : ParamMaps → ParamMaps) (part new : Part) → Some part ≡ value_at old h →
    OnOk r (new ≡ record part { params = change part.params }) → IfOk r (λ told. Accounts part.params new.params told.added told.gone) →
    IfOk r (λ told. Restages old (with_slot old h new) h change told.added told.gone)
restaged_if (Ok told) old h change part new found is accounts = record {
  part = part;
  there = sym found;
  changed = ap (with_slot old h) is;
  accounts = subst (λ (p : Part). Accounts part.params p.params told.added told.gone) is accounts;
}
restaged_if (Err e) old h change part new found is accounts = tt

-- as many are added as the parameters of the part name, at most
pub committed_if : {E : Type 0} (r : Result Named E) (old : HandleMap Part) (h : ℕ) (part : Part) → Some part ≡ value_at old h → IfOk r (λ told. told.added ≡ objects_of part.params.staged) →
    IfOk r (λ told. IfSome (value_at old h) (λ part. told.added ≡ objects_of part.params.staged))
committed_if (Ok told) old h part found added = subst (λ x. IfSome x (λ (part : Part). told.added ≡ objects_of part.params.staged)) found added
committed_if (Err e) old h part found added = tt

-- what is kept of one object was changed, or nothing was
pub reslotted_if : {T E : Type 0} (r : Result T E) (old : HandleMap Part) (h : ℕ) (f : Part → Part) (part new : Part) → Some part ≡ value_at old h → OnOk r (new ≡ f part) →
    OnOk r (Reslots old (with_slot old h new) h f)
reslotted_if (Ok t) old h f part new found is = record { part = part; there = sym found; changed = ap (with_slot old h) is }
reslotted_if (Err e) old h f part new found is = tt

-- in a list of none there is nobody
pub none_in : {P : Type 0} (k : ℕ) (added : List ℕ) → added ≡ [] → 0 < times k added → P
none_in k added none some =
    let nobody : times k added ≡ 0 = ap (times k) none in
    absurd (omega (arith, some, nobody))
