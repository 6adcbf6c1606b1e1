-- One object less.
use Rattle.std.proofs.Common.{ℕ, zero, suc, ◌+◌, ◌≡◌, ◌<◌, ◌≤◌, ◌^◌, ◌∙◌, ◌⊎◌, inl, inr, nat_lt, Bool, true, false, List, [], ◌++◌, Option, Some, None, refl, sym, ap, subst, arith}
use Rattle.std.specs.Prelude.{◌&&◌}
use Rattle.std.specs.BTreeMap.{is_at}
use Rattle.std.specs.Map.{keys_of, remove_entry}
use Rattle.std.specs.Option.{IfNone, IfSome, IsSome, is_some, option_and_then, option_map, option_map_or, unwrap_or}
use Rattle.std.specs.Ordering.{nat_cmp}
use Rattle.std.proofs.lemmas.Bool.{cases_eq}
use Rattle.handle_table.specs.HandleMaps.{HandleMap, RiseWithin, value_at}
use Rattle.param_stage.specs.Params.{ParamMaps, named}
use Rattle.array_objects.specs.declared.arrays.Array.{Array}
use Rattle.array_objects.specs.declared.arrays.Block.{Block}
use Rattle.object_store.proofs.NamedFacts.{block_names}
use Rattle.ref_counts.specs.CountMaps.{ChangesAt, CountMap, counts_at, named_at, public_at}
use Rattle.array_objects.specs.Stores.{Arrays, array_at, ChangesAt as ArraysChange}
use Rattle.seq_model.proofs.Keys.{RisesWithin, at_within}
use Rattle.seq_model.specs.Life.{has, loan_count, names_of}
use Rattle.dev_types.specs.Counting.{times}
use Rattle.seq_model.specs.State.{Object, object_at}
use Rattle.object_store.specs.Kept.{AreCounted, AreParts, IsSettled, IsShort, IsUnheld, Stops, Stored, loans_at, names_in, number_at, stored, without}
use Rattle.object_store.specs.Moves.{Moves}
use Rattle.object_store.specs.Parts.{Part, array_state, at, holds_at, joined, keyed, memory_in, memory_of, named_in_block, object_of}
use Rattle.object_store.proofs.Counted.{is_some_by, none_by, not_some}
use Rattle.object_store.proofs.Gathered.{counted_less, has_often, names_are_counted}
use Rattle.object_store.proofs.Keyed.{at_keyed, keyed_remove, keys_keyed, rise, rises, same_by_looks}
use Rattle.object_store.proofs.MoveFacts.{named_is_some}
use Rattle.object_store.proofs.Removed.{at_removed, gone, rises_removed}
use Rattle.object_store.proofs.Totals.{names_least}

-- what agrees on what stands in a map makes the same map
keyed_same_at : {X Y : Type 0} (f g : ℕ → X → Y) (low high : ℕ) (es : List (ℕ × X)) → RisesWithin low high (keys_of es) → ((h : ℕ) (v : X) → at h es ≡ Some v → f h v ≡ g h v) → keyed f es ≡ keyed g es
keyed_same_at {X} {Y} f g low high es up same =
    same_by_looks low high (keyed f es) (keyed g es) (subst (λ ks. RisesWithin low high ks) (sym (keys_keyed f es)) up) (subst (λ ks. RisesWithin low high ks) (sym (keys_keyed g es)) up)
    (λ h. at_keyed f h es ∙ by h (at h es) refl ∙ sym (at_keyed g h es))
  where
    by : (h : ℕ) (x : Option X) → at h es ≡ x → option_map (f h) (at h es) ≡ option_map (g h) (at h es)
    by h None none = ap (option_map (f h)) none ∙ sym (ap (option_map (g h)) none)
    by h (Some v) is = ap (option_map (f h)) is ∙ ap Some (same h v is) ∙ sym (ap (option_map (g h)) is)

public_by : (m : CountMap) (h p n : ℕ) → counts_at m h ≡ Some (p, n) → (public_at m h ≡ p) × (named_at m h ≡ n)
public_by m h p n is = (ap (λ x. unwrap_or (option_map (λ (c : ℕ × ℕ). c.0) x) 0) is, ap (λ x. unwrap_or (option_map (λ (c : ℕ × ℕ). c.1) x) 0) is)

-- who is without counts is there
pub dead_is_there : (objects : List (ℕ × Object)) (holds : ℕ → ℕ) (next : ℕ) (counts : CountMap) (h : ℕ) → AreCounted objects holds next counts → counts_at counts h ≡ Some (0, 0) → IsSome (at h objects)
dead_is_there objects holds next counts h counted dead = by (is_some (at h objects)) refl
  where
    by : (t : Bool) → is_some (at h objects) ≡ t → IsSome (at h objects)
    by true is = is
    by false is =
        let one : (h ≡ next) × (public_at counts h ≡ 1) = counted.only h (none_by (at h objects) is) (ap is_some dead) in
        absurd (omega (arith, one.1, (public_by counts h 0 0 dead).0))

pub part_of_dead : (slots : HandleMap Part) (arrays : Arrays) (counts : CountMap) (bound h : ℕ) → AreParts slots arrays counts bound → counts_at counts h ≡ Some (0, 0) → IsSome (value_at slots h)
part_of_dead slots arrays counts bound h parts dead =
    by (value_at slots h) (sym (ap is_some (at_keyed (λ h part. object_of part (array_at arrays h)) h slots.entries)) ∙ dead_is_there (joined arrays slots.entries) (holds_at slots.entries) slots.next counts h parts.counted dead)
  where
    by : (x : Option Part) → is_some (option_map (λ part. object_of part (array_at arrays h)) x) ≡ true → IsSome x
    by None some = some
    by (Some part) some = refl

module _ (slots : HandleMap Part) (arrays : Arrays) (counts : CountMap) (bound : ℕ) (parts : AreParts slots arrays counts bound) (h : ℕ) (part : Part) (there : value_at slots h ≡ Some part)
    (dead : counts_at counts h ≡ Some (0, 0)) (mid : CountMap) (changes : ChangesAt counts mid h None) where
  up : RisesWithin 1 slots.next (keys_of slots.entries)
  up = rises 1 slots.next slots.entries parts.rising

  objects_up : RisesWithin 1 slots.next (keys_of (joined arrays slots.entries))
  objects_up = subst (λ ks. RisesWithin 1 slots.next ks) (sym (keys_keyed (λ h part. object_of part (array_at arrays h)) slots.entries)) up

  object_there : at h (joined arrays slots.entries) ≡ Some (object_of part (array_at arrays h))
  object_there = at_keyed (λ h part. object_of part (array_at arrays h)) h slots.entries ∙ ap (option_map (λ part. object_of part (array_at arrays h))) there

  below : (1 ≤ h) × (h < slots.next)
  below = at_within h 1 slots.next slots.entries part up there

  -- what it names is counted
  pub its_names : (k : ℕ) → times k (names_of (object_of part (array_at arrays h))) ≤ named_at mid k
  its_names = names_are_counted (joined arrays slots.entries) (holds_at slots.entries) (holds_at slots.entries) slots.next counts mid h (object_of part (array_at arrays h)) parts.counted objects_up object_there dead changes

  module _ (left : HandleMap Part) (others : Arrays) (new : CountMap) (entries : left.entries ≡ remove_entry (is_at (nat_cmp h)) slots.entries) (next : left.next ≡ slots.next)
      (arrays_change : ArraysChange arrays others h None) (moves : Moves mid new [] (names_of (object_of part (array_at arrays h)))) where
    left_up : RisesWithin 1 slots.next (keys_of (remove_entry (is_at (nat_cmp h)) slots.entries))
    left_up = rises_removed (is_at (nat_cmp h)) 1 slots.next slots.entries up

    -- a part that is left is of another handle
    other : (k : ℕ) (v : Part) → at k (remove_entry (is_at (nat_cmp h)) slots.entries) ≡ Some v → k ≡ h → ⊥
    other k v found same =
        let none : at k (remove_entry (is_at (nat_cmp h)) slots.entries) ≡ None = ap (λ k. at k (remove_entry (is_at (nat_cmp h)) slots.entries)) same ∙ gone h 1 slots.next slots.entries up in
        not_some (at k (remove_entry (is_at (nat_cmp h)) slots.entries)) none (is_some_by (at k (remove_entry (is_at (nat_cmp h)) slots.entries)) v found)

    objects_left : joined others left.entries ≡ remove_entry (is_at (nat_cmp h)) (joined arrays slots.entries)
    objects_left =
        ap (joined others) entries
        ∙ keyed_same_at (λ h part. object_of part (array_at others h)) (λ h part. object_of part (array_at arrays h)) 1 slots.next (remove_entry (is_at (nat_cmp h)) slots.entries) left_up
        (λ k v found. ap (object_of v) (arrays_change.others k (other k v found)))
        ∙ keyed_remove (λ h part. object_of part (array_at arrays h)) h slots.entries

    public_left : (k : ℕ) → (k ≡ h → ⊥) → public_at new k ≡ public_at counts k
    public_left k apart = moves.public k ∙ ap (λ x. unwrap_or (option_map (λ (c : ℕ × ℕ). c.0) (unwrap_or x None)) 0) (changes.others k apart)

    holds_gone : (k : ℕ) → k ≡ h → holds_at left.entries k ≡ 0
    holds_gone k same =
        ap (λ es. holds_at es k) entries ∙ ap (holds_at (remove_entry (is_at (nat_cmp h)) slots.entries)) same
        ∙ ap (λ x. option_map_or (λ (p : Part). p.holds) x 0) (gone h 1 slots.next slots.entries up)

    holds_kept : (k : ℕ) → (k ≡ h → ⊥) → holds_at left.entries k ≡ holds_at slots.entries k
    holds_kept k apart = ap (λ es. holds_at es k) entries ∙ ap (λ x. option_map_or (λ (p : Part). p.holds) x 0) (at_removed h k slots.entries apart)

    few_left : (k : ℕ) → (k ≡ h) ⊎ (k ≡ h → ⊥) → holds_at left.entries k ≤ 2 ^ 40
    few_left k (inl same) = omega (arith, holds_gone k same)
    few_left k (inr apart) = omega (arith, holds_kept k apart, parts.few k)

    bounded_left : (k : ℕ) → (k ≡ h) ⊎ (k ≡ h → ⊥) → named_at new k ≤ bound + holds_at left.entries k
    bounded_left k (inl same) =
        let none : times k [] ≡ 0 = refl in
        let moved : named_at new k + times k (names_of (object_of part (array_at arrays h))) ≡ named_at mid k + times k [] = moves.named k in
        let zero_ : named_at mid k ≡ 0 = ap (named_at mid) same ∙ ap (λ x. unwrap_or (option_map (λ (c : ℕ × ℕ). c.1) x) 0) changes.changed in
        omega (arith, none, moved, zero_)
    bounded_left k (inr apart) =
        let none : times k [] ≡ 0 = refl in
        let moved : named_at new k + times k (names_of (object_of part (array_at arrays h))) ≡ named_at mid k + times k [] = moves.named k in
        let kept : named_at mid k ≡ named_at counts k = ap (λ x. unwrap_or (option_map (λ (c : ℕ × ℕ). c.1) (unwrap_or x None)) 0) (changes.others k apart) in
        omega (arith, none, moved, kept, holds_kept k apart, parts.bounded k)

    short_left : (k : ℕ) → (k ≡ h) ⊎ (k ≡ h → ⊥) → IfSome (array_at others k) IsShort
    short_left k (inl same) = subst (λ k. IfSome (array_at others k) IsShort) (sym same) (subst (λ x. IfSome x IsShort) (sym arrays_change.changed) tt)
    short_left k (inr apart) = subst (λ x. IfSome x IsShort) (sym (arrays_change.others k apart)) (parts.short k)

    pub parts_less : AreParts left others new bound
    parts_less = record {
      rising = subst (λ n. RiseWithin 1 n left.entries) (sym next) (subst (λ es. RiseWithin 1 slots.next es) (sym entries) (rise 1 slots.next (remove_entry (is_at (nat_cmp h)) slots.entries) left_up));
      none_beyond = λ k beyond. arrays_change.others k (λ same. omega (arith, same, below.1, beyond, next)) ∙ parts.none_beyond k (omega (arith, beyond, next));
      counted = subst (λ n. AreCounted (joined others left.entries) (holds_at left.entries) n new) (sym next)
          (subst (λ objects. AreCounted objects (holds_at left.entries) slots.next new) (sym objects_left)
          (subst (λ es. AreCounted (remove_entry (is_at (nat_cmp h)) (joined arrays slots.entries)) (holds_at es) slots.next new) (sym entries)
          (counted_less (joined arrays slots.entries) (holds_at slots.entries) (holds_at (remove_entry (is_at (nat_cmp h)) slots.entries)) slots.next counts mid h (object_of part (array_at arrays h))
          parts.counted objects_up object_there dead changes new moves
          (λ k apart. ap (λ x. option_map_or (λ (p : Part). p.holds) x 0) (at_removed h k slots.entries apart))
          (ap (λ x. option_map_or (λ (p : Part). p.holds) x 0) (gone h 1 slots.next slots.entries up)))));
      short = λ k. short_left k (cases_eq k h);
      small = parts.small;
      few = λ k. few_left k (cases_eq k h);
      bounded = λ k. bounded_left k (cases_eq k h);
    }

    pub stored_less : (stopped : Stops) → left.spare ≡ slots.spare → stored left others new stopped ≡ without h (stored slots arrays counts stopped)
    stored_less stopped spare =
        λ i. record { state = record { objects = objects_left i; stopped = stopped.tickets; next = next i }; public = public i; holds = holds i; ready = ready i; places = stopped.room }
      where
        public : keyed (λ k (p : Part). public_at new k) left.entries ≡ remove_entry (is_at (nat_cmp h)) (keyed (λ k (p : Part). public_at counts k) slots.entries)
        public =
            ap (keyed (λ k (p : Part). public_at new k)) entries
            ∙ keyed_same_at (λ k (p : Part). public_at new k) (λ k (p : Part). public_at counts k) 1 slots.next (remove_entry (is_at (nat_cmp h)) slots.entries) left_up (λ k v found. public_left k (other k v found))
            ∙ keyed_remove (λ k (p : Part). public_at counts k) h slots.entries

        holds : keyed (λ k (p : Part). p.holds) left.entries ≡ remove_entry (is_at (nat_cmp h)) (keyed (λ k (p : Part). p.holds) slots.entries)
        holds = ap (keyed (λ k (p : Part). p.holds)) entries ∙ keyed_remove (λ k (p : Part). p.holds) h slots.entries

        some : is_some (counts_at new left.next) ≡ is_some (counts_at counts slots.next)
        some = ap (λ n. is_some (counts_at new n)) next ∙ moves.there slots.next ∙ ap (λ x. is_some (unwrap_or x None)) (changes.others slots.next (λ same. omega (arith, same, below.1)))

        ready : (nat_lt 0 left.spare && is_some (counts_at new left.next)) ≡ (nat_lt 0 slots.spare && is_some (counts_at counts slots.next))
        ready = ap (λ n. nat_lt 0 n && is_some (counts_at new left.next)) spare ∙ ap (λ t. nat_lt 0 slots.spare && t) some

-- where each object has counts, what is named is there, and all are held
module _ (slots : HandleMap Part) (arrays : Arrays) (counts : CountMap) (bound : ℕ) (stopped : Stops) (parts : AreParts slots arrays counts bound) where
  part_at : (h : ℕ) (o : Object) → at h (joined arrays slots.entries) ≡ Some o → (part : Part) × (at h slots.entries ≡ Some part)
  part_at h o there = by (at h slots.entries) refl
    where
      by : (x : Option Part) → at h slots.entries ≡ x → (part : Part) × (at h slots.entries ≡ Some part)
      by None none =
          absurd (not_some (at h (joined arrays slots.entries)) (at_keyed (λ h part. object_of part (array_at arrays h)) h slots.entries ∙ ap (option_map (λ part. object_of part (array_at arrays h))) none) (is_some_by (at h (joined arrays slots.entries)) o there))
      by (Some part) is = (part, is)

  public_seen : (h : ℕ) (part : Part) → at h slots.entries ≡ Some part → number_at (keyed (λ k (p : Part). public_at counts k) slots.entries) h ≡ public_at counts h
  public_seen h part there = ap (λ x. unwrap_or x 0) (at_keyed (λ k (p : Part). public_at counts k) h slots.entries ∙ ap (option_map (λ (p : Part). public_at counts h)) there)

  holds_seen : (h : ℕ) (part : Part) → at h slots.entries ≡ Some part → number_at (keyed (λ k (p : Part). p.holds) slots.entries) h ≡ holds_at slots.entries h
  holds_seen h part there =
      ap (λ x. unwrap_or x 0) (at_keyed (λ k (p : Part). p.holds) h slots.entries ∙ ap (option_map (λ (p : Part). p.holds)) there) ∙ sym (ap (λ x. option_map_or (λ (p : Part). p.holds) x 0) there)

  -- who is without counts is held by nothing
  pub dead_is_unheld : (h : ℕ) → counts_at counts h ≡ Some (0, 0) → IsUnheld (stored slots arrays counts stopped) h
  dead_is_unheld h dead = by (at h (joined arrays slots.entries)) refl
    where
      by : (x : Option Object) → at h (joined arrays slots.entries) ≡ x → IsUnheld (stored slots arrays counts stopped) h
      by None none = absurd (not_some (at h (joined arrays slots.entries)) none (dead_is_there (joined arrays slots.entries) (holds_at slots.entries) slots.next counts h parts.counted dead))
      by (Some o) there =
          let one : (part : Part) × (at h slots.entries ≡ Some part) = part_at h o there in
          let zero_ : (public_at counts h ≡ 0) × (named_at counts h ≡ 0) = public_by counts h 0 0 dead in
          record {
            there = is_some_by (at h (joined arrays slots.entries)) o there;
            public = public_seen h one.0 one.1 ∙ zero_.0;
            held = omega (arith, zero_.1, parts.counted.named h, holds_seen h one.0 one.1);
          }

  pub all_settled : ((h : ℕ) → counts_at counts h ≡ Some (0, 0) → ⊥) → IsSettled (stored slots arrays counts stopped)
  all_settled none_dead = record { closed = closed; held = held }
    where
      closed : (h : ℕ) (o : Object) → at h (joined arrays slots.entries) ≡ Some o → (k : ℕ) → has k (names_of o) ≡ true → IsSome (at k (joined arrays slots.entries))
      closed h o there k names = by (is_some (at k (joined arrays slots.entries))) refl
        where
          named : 1 ≤ named_at counts k
          named = omega (arith, has_often k (names_of o) names, names_least k h (joined arrays slots.entries) o there, parts.counted.named k)

          by : (t : Bool) → is_some (at k (joined arrays slots.entries)) ≡ t → IsSome (at k (joined arrays slots.entries))
          by true is = is
          by false is =
              let one : (k ≡ slots.next) × (public_at counts k ≡ 1) = parts.counted.only k (none_by (at k (joined arrays slots.entries)) is) (named_is_some counts k named) in
              let none : named_at counts k ≡ 0 = ap (named_at counts) one.0 ∙ parts.counted.free in
              absurd (omega (arith, named, none))

      held : (h : ℕ) (o : Object) → at h (joined arrays slots.entries) ≡ Some o →
          0 < number_at (keyed (λ k (p : Part). public_at counts k) slots.entries) h + (names_in (joined arrays slots.entries) h + loan_count o + number_at (keyed (λ k (p : Part). p.holds) slots.entries) h)
      held h o there = by (counts_at counts h) refl
        where
          one : (part : Part) × (at h slots.entries ≡ Some part)
          one = part_at h o there

          lent : loans_at (joined arrays slots.entries) h ≡ loan_count o
          lent = ap (λ x. option_map_or loan_count x 0) there

          by : (x : Option (ℕ × ℕ)) → counts_at counts h ≡ x →
              0 < number_at (keyed (λ k (p : Part). public_at counts k) slots.entries) h + (names_in (joined arrays slots.entries) h + loan_count o + number_at (keyed (λ k (p : Part). p.holds) slots.entries) h)
          by None none = absurd (not_some (counts_at counts h) none (parts.counted.there h (is_some_by (at h (joined arrays slots.entries)) o there)))
          by (Some (zero, zero)) is = absurd (none_dead h is)
          by (Some (suc p, n)) is = omega (arith, (public_by counts h (suc p) n is).0, public_seen h one.0 one.1)
          by (Some (zero, suc n)) is = omega (arith, (public_by counts h zero (suc n) is).1, parts.counted.named h, lent, holds_seen h one.0 one.1)

-- what an object names, of its parameters and its block
pub names_are : (part : Part) (array : Option Array) (params : ParamMaps) (block : Option Block) → params ≡ part.params → block ≡ option_map (λ a. a.block) array →
    names_of (object_of part array) ≡ named params ++ named_in_block block
names_are part array params block same is =
    ap (λ names. named part.params ++ names) (block_names array)
    ∙ ap (λ block. named part.params ++ named_in_block block) (sym is)
    ∙ ap (λ params. named params ++ named_in_block block) (sym same)

pub if_none : {X : Type 0} {P : Type 0} (x : Option X) → P → IfNone x P
if_none None p = p
if_none (Some v) p = tt

-- the block of an array that is taken out, as the objects had it
pub block_seen : (h : ℕ) (arrays : Arrays) (s : Stored) (part : Part) (block : Option Block) → object_at s.state h ≡ Some (object_of part (array_at arrays h)) → block ≡ option_map (λ a. a.block) (array_at arrays h) →
    memory_of block ≡ memory_in (option_and_then (λ (o : Object). o.array) (object_at s.state h))
block_seen h arrays s part block there is =
    ap memory_of is ∙ by (array_at arrays h) ∙ sym (ap (λ x. memory_in (option_and_then (λ (o : Object). o.array) x)) there)
  where
    by : (x : Option Array) → memory_of (option_map (λ (a : Array). a.block) x) ≡ memory_in (option_map array_state x)
    by None = refl
    by (Some a) = refl
