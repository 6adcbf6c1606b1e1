-- A loan of an array comes back: it names other objects, and is lent no more.
use Rattle.std.proofs.Common.{ℕ, ◌+◌, ◌≡◌, ◌<◌, ◌≤◌, ◌^◌, ◌∙◌, ◌⊎◌, inl, inr, true, false, List, [], ◌∷◌, ◌++◌, Option, Some, None, length, refl, sym, ap, subst, arith}
use Rattle.std.specs.Prelude.{◌==◌, ◌&&◌, Bool, cond}
use Rattle.std.specs.BTreeMap.{is_at}
use Rattle.std.specs.Option.{IfSome, IsSome, option_and_then, option_map, option_map_or}
use Rattle.std.specs.Ordering.{nat_cmp}
use Rattle.std.proofs.lemmas.Bool.{and_from, and_right, cases_eq}
use Rattle.std.proofs.lemmas.Bool.Decides.{nat_tests}
use Rattle.std.proofs.lemmas.List.{append-nil}
use Rattle.std.proofs.lemmas.Map.Steps.{set_value_same}
use Rattle.byte_view.specs.Elements.{Elements}
use Rattle.dev_types.specs.Blocks.{FitsBlock}
use Rattle.handle_table.specs.HandleMaps.{HandleMap, value_at, with_value as with_slot}
use Rattle.param_stage.specs.Params.{named}
use Rattle.ref_counts.specs.CountMaps.{CountMap, named_at}
use Rattle.array_objects.specs.Stores.{Arrays, ChangesAt as ArraysChange, Fits, IsOut, array_at, block_at, elements_of, unmapped}
use Rattle.array_objects.specs.declared.arrays.Array.{Array}
use Rattle.array_objects.specs.declared.arrays.Block.{Block}
use Rattle.seq_model.proofs.Keys.{key_here, key_is_other}
use Rattle.seq_model.specs.Life.{loan_count, names_of, objects_of_elements}
use Rattle.dev_types.specs.Counting.{times}
use Rattle.seq_model.specs.Refusals.{is_array_loan_out, is_array_out}
use Rattle.seq_model.specs.State.{ArrayState, Object, changed_at, object_at}
use Rattle.seq_model.specs.Steps.{change_array, holding}
use Rattle.object_store.specs.Kept.{AreParts, IsShort, Stops, Stored, loans_at, names_in, stored}
use Rattle.object_store.specs.Moves.{Moves}
use Rattle.object_store.specs.Parts.{Part, array_state, at, block_of, holds_at, joined, named_in_block, named_with, object_of, with_content}
use Rattle.object_store.proofs.ArrayBirths.{not_named}
use Rattle.object_store.proofs.Births.{objects_beyond}
use Rattle.object_store.proofs.Changes.{parts_changed, stored_changed}
use Rattle.object_store.proofs.Keyed.{at_keyed}
use Rattle.object_store.proofs.MoveFacts.{moves_both, never, once}
use Rattle.object_store.proofs.NamedFacts.{block_names, few_named}
use Rattle.object_store.proofs.PartFacts.{looked}
use Rattle.object_store.proofs.Totals.{loans_if, names_least, times_append, weigh}

-- an array of an object, of which a loan is out
pub record IsLent (slots : HandleMap Part) (arrays : Arrays) (h number len : ℕ) : Type 0 where
  pub part : Part
  pub array : Array
  pub part_there : value_at slots h ≡ Some part
  pub array_there : array_at arrays h ≡ Some array
  pub lent : array.loan ≡ Some number
  pub long : length array.block.bytes ≡ len

pub lent_by : (slots : HandleMap Part) (arrays : Arrays) (h number len : ℕ) → IsSome (value_at slots h) → IsOut (array_at arrays h) number len → IsLent slots arrays h number len
lent_by slots arrays h number len some out = by (value_at slots h) refl (array_at arrays h) refl some out
  where
    by : (x : Option Part) → value_at slots h ≡ x → (y : Option Array) → array_at arrays h ≡ y → IsSome x → IsOut y number len → IsLent slots arrays h number len
    by None none y is some out = absurd cc
    by (Some part) there None none some out = absurd out
    by (Some part) there (Some a) found some out = record { part = part; array = a; part_there = there; array_there = found; lent = out.0; long = out.1 }

equal_by : (n m : ℕ) → (n == m) ≡ true → n ≡ m
equal_by n m e = grind (arith, nat_tests)

equals : (n m : ℕ) → n ≡ m → (n == m) ≡ true
equals n m e = grind (arith, nat_tests)

not_both : (loan : Option ℕ) (number long len : ℕ) → ((loan ≡ Some number) × (long ≡ len) → ⊥) → (option_map_or (λ n. n == number) loan false && long == len) ≡ false
not_both None number long len apart = refl
not_both (Some n) number long len apart = by (n == number) refl (long == len) refl
  where
    by : (t : Bool) → (n == number) ≡ t → (u : Bool) → (long == len) ≡ u → (n == number && long == len) ≡ false
    by true is true is_ = absurd (apart (ap Some (equal_by n number is), equal_by long len is_))
    by true is false is_ = and_right (n == number) (long == len) is_
    by false is u is_ = ap (λ t. t && long == len) is

-- a loan is out in the arrays exactly where it is for the definitions
pub out_in : (s : Stored) (slots : HandleMap Part) (arrays : Arrays) (counts : CountMap) (stopped : Stops) (h number len : ℕ) → stored slots arrays counts stopped ≡ s → IsLent slots arrays h number len →
    is_array_loan_out s.state h number len ≡ true
out_in s slots arrays counts stopped h number len same is =
    ap (λ x. option_map_or (is_array_out number len) (option_and_then (λ (o : Object). o.array) x) false)
    (looked s slots arrays counts stopped h same ∙ ap (option_map (λ part. object_of part (array_at arrays h))) is.part_there ∙ ap (λ x. Some (object_of is.part x)) is.array_there)
    ∙ ap (λ x. option_map_or (λ n. n == number) x false && length is.array.block.bytes == len) is.lent
    ∙ and_from (number == number) (length is.array.block.bytes == len) (equals number number refl) (equals (length is.array.block.bytes) len is.long)

pub not_out_in : (s : Stored) (slots : HandleMap Part) (arrays : Arrays) (counts : CountMap) (stopped : Stops) (h number len : ℕ) → stored slots arrays counts stopped ≡ s →
    (IsOut (array_at arrays h) number len → ⊥) → is_array_loan_out s.state h number len ≡ false
not_out_in s slots arrays counts stopped h number len same apart =
    ap (λ x. option_map_or (is_array_out number len) (option_and_then (λ (o : Object). o.array) x) false) (looked s slots arrays counts stopped h same)
    ∙ by (value_at slots h) (array_at arrays h) apart
  where
    by : (x : Option Part) (y : Option Array) → (IsOut y number len → ⊥) →
        option_map_or (is_array_out number len) (option_and_then (λ (o : Object). o.array) (option_map (λ part. object_of part y) x)) false ≡ false
    by None y apart = refl
    by (Some part) None apart = refl
    by (Some part) (Some a) apart = not_both a.loan number (length a.block.bytes) len apart

pub no_object_is_out : (s : Stored) (slots : HandleMap Part) (arrays : Arrays) (counts : CountMap) (stopped : Stops) (h number len : ℕ) → stored slots arrays counts stopped ≡ s →
    value_at slots h ≡ None → is_array_loan_out s.state h number len ≡ false
no_object_is_out s slots arrays counts stopped h number len same none =
    ap (λ x. option_map_or (is_array_out number len) (option_and_then (λ (o : Object). o.array) x) false)
    (looked s slots arrays counts stopped h same ∙ ap (option_map (λ part. object_of part (array_at arrays h))) none)

-- the elements that are lent are those of the array that the definitions see
pub lent_content : (s : Stored) (slots : HandleMap Part) (arrays : Arrays) (counts : CountMap) (stopped : Stops) (h : ℕ) (e : Elements) → stored slots arrays counts stopped ≡ s →
    Some e ≡ option_map elements_of (block_at arrays h) → IfSome (option_and_then (λ o. o.array) (object_at s.state h)) (λ a. block_of e ≡ a.block)
lent_content s slots arrays counts stopped h e same is =
    subst (λ x. IfSome (option_and_then (λ (o : Object). o.array) x) (λ (a : ArrayState). block_of e ≡ a.block)) (sym (looked s slots arrays counts stopped h same))
    (by (value_at slots h) (array_at arrays h) is)
  where
    by : (x : Option Part) (y : Option Array) → Some e ≡ option_map elements_of (option_map (λ (a : Array). a.block) y) →
        IfSome (option_and_then (λ (o : Object). o.array) (option_map (λ part. object_of part y) x)) (λ (a : ArrayState). block_of e ≡ a.block)
    by None y is = tt
    by (Some part) None is = tt
    by (Some part) (Some a) is =
        let alike : e ≡ elements_of a.block = cc in
        ap block_of alike

-- one loan, where there is one
abbrev one_if_some : Option ℕ → ℕ
one_if_some x = option_map_or (λ (n : ℕ). 1) x 0

one_loan_less : (number : ℕ) (content : List ℕ) (part : Part) (a : Array) → a.loan ≡ Some number →
    loan_count (object_of part (Some (unmapped content a))) + 1 ≡ loan_count (object_of part (Some a))
one_loan_less number content part a lent =
    let was : one_if_some a.loan ≡ 1 = ap one_if_some lent in
    let old : loan_count (object_of part (Some a)) ≡ one_if_some a.loan + length part.channels + length part.loans = refl in
    let free : one_if_some (unmapped content a).loan ≡ 0 = refl in
    let new : loan_count (object_of part (Some (unmapped content a))) ≡ one_if_some (unmapped content a).loan + length part.channels + length part.loans = refl in
    omega (arith, was, free, old, new)

-- how it holds objects before and after
unmap_weighs : (k h number : ℕ) (content : List ℕ) (part : Part) (a : Array) → a.loan ≡ Some number →
    weigh k h (object_of part (Some (unmapped content a))) + times k (named_in_block (Some a.block) ++ h ∷ [])
    ≡ weigh k h (object_of part (Some a)) + times k (named_in_block (Some (unmapped content a).block))
unmap_weighs k h number content part a lent = by (cases_eq k h)
  where
    names_old : times k (names_of (object_of part (Some a))) ≡ times k (named part.params) + times k (named_in_block (Some a.block))
    names_old = times_append k (named part.params) (objects_of_elements (Some (array_state a))) ∙ ap (λ names. times k (named part.params) + times k names) (block_names (Some a))

    names_new : times k (names_of (object_of part (Some (unmapped content a)))) ≡ times k (named part.params) + times k (named_in_block (Some (unmapped content a).block))
    names_new =
        times_append k (named part.params) (objects_of_elements (Some (array_state (unmapped content a))))
        ∙ ap (λ names. times k (named part.params) + times k names) (block_names (Some (unmapped content a)))

    gone : times k (named_in_block (Some a.block) ++ h ∷ []) ≡ times k (named_in_block (Some a.block)) + times k (h ∷ [])
    gone = times_append k (named_in_block (Some a.block)) (h ∷ [])

    by : (k ≡ h) ⊎ (k ≡ h → ⊥) → weigh k h (object_of part (Some (unmapped content a))) + times k (named_in_block (Some a.block) ++ h ∷ [])
        ≡ weigh k h (object_of part (Some a)) + times k (named_in_block (Some (unmapped content a).block))
    by (inl same) =
        let test : is_at (nat_cmp k) h ≡ true = ap (λ k. is_at (nat_cmp k) h) same ∙ key_here h in
        let old : loans_if k h (object_of part (Some a)) ≡ loan_count (object_of part (Some a)) = ap (λ t. cond t (loan_count (object_of part (Some a))) 0) test in
        let new : loans_if k h (object_of part (Some (unmapped content a))) ≡ loan_count (object_of part (Some (unmapped content a))) =
        ap (λ t. cond t (loan_count (object_of part (Some (unmapped content a)))) 0) test in
        omega (arith, names_old, names_new, gone, old, new, once h k same, one_loan_less number content part a lent)
    by (inr apart) =
        let test : is_at (nat_cmp k) h ≡ false = key_is_other k h apart in
        let old : loans_if k h (object_of part (Some a)) ≡ 0 = ap (λ t. cond t (loan_count (object_of part (Some a))) 0) test in
        let new : loans_if k h (object_of part (Some (unmapped content a))) ≡ 0 = ap (λ t. cond t (loan_count (object_of part (Some (unmapped content a)))) 0) test in
        omega (arith, names_old, names_new, gone, old, new, never h k apart)

module _ (slots : HandleMap Part) (arrays held : Arrays) (counts : CountMap) (bound h number len : ℕ) (content : List ℕ) (parts : AreParts slots arrays counts bound) (is : IsLent slots arrays h number len)
    (changes : ArraysChange arrays held h (option_map (unmapped content) (array_at arrays h))) where
  array_now : array_at held h ≡ Some (unmapped content is.array)
  array_now = changes.changed ∙ ap (option_map (unmapped content)) is.array_there

  block_now : block_at held h ≡ Some (unmapped content is.array).block
  block_now = ap (option_map (λ (a : Array). a.block)) array_now

  object_there : at h (joined arrays slots.entries) ≡ Some (object_of is.part (Some is.array))
  object_there =
      at_keyed (λ h part. object_of part (array_at arrays h)) h slots.entries ∙ ap (option_map (λ part. object_of part (array_at arrays h))) is.part_there
      ∙ ap (λ x. Some (object_of is.part x)) is.array_there

  -- the content that it had, in what it has
  pub old_names : (old : List ℕ) → Some old ≡ option_map (λ b. b.bytes) (block_at arrays h) → named_in_block (option_map (with_content old) (block_at held h)) ≡ named_in_block (Some is.array.block)
  old_names old same =
      let bytes : Some old ≡ Some is.array.block.bytes = same ∙ ap (λ x. option_map (λ (b : Block). b.bytes) (option_map (λ (a : Array). a.block) x)) is.array_there in
      let is_ : old ≡ is.array.block.bytes = cc in
      ap (λ b. named_in_block (option_map (with_content old) b)) block_now ∙ ap (λ bytes. named_in_block (Some (with_content bytes is.array.block))) is_

  -- its elements lie in the bytes that it had, and are as many as they were
  pub fits_old : (old : List ℕ) → Some old ≡ option_map (λ b. b.bytes) (block_at arrays h) → IfSome (block_at arrays h) Fits →
      IfSome (block_at held h) (λ b. FitsBlock b.ty b.stride b.count (length old))
  fits_old old same fits =
      let bytes : Some old ≡ Some is.array.block.bytes = same ∙ ap (λ x. option_map (λ (b : Block). b.bytes) (option_map (λ (a : Array). a.block) x)) is.array_there in
      let is_ : old ≡ is.array.block.bytes = cc in
      let lies : Fits is.array.block = subst (λ x. IfSome (option_map (λ (a : Array). a.block) x) Fits) is.array_there fits in
      subst (λ b. IfSome b (λ (b : Block). FitsBlock b.ty b.stride b.count (length old))) (sym block_now)
      (subst (λ (bytes : List ℕ). FitsBlock is.array.block.ty is.array.block.stride is.array.block.count (length bytes)) (sym is_) lies)

  pub count_by_block : (count : ℕ) → IfSome (block_at arrays h) (λ b. count ≡ b.count) → count ≡ is.array.block.count
  count_by_block count counted = subst (λ x. IfSome (option_map (λ (a : Array). a.block) x) (λ (b : Block). count ≡ b.count)) is.array_there counted

  -- what it names then is what the definitions name
  pub new_names : (s : Stored) (stopped : Stops) → stored slots arrays counts stopped ≡ s → named_in_block (block_at held h) ≡ named_with content (object_at s.state h)
  new_names s stopped same =
      ap named_in_block block_now ∙ sym (block_names (Some (unmapped content is.array))) ∙ sym (ap (named_with content) (sym (ap (λ (s : Stored). object_at s.state h) same) ∙ object_there))

  its_old_names : (k : ℕ) → times k (named_in_block (Some is.array.block)) ≤ names_in (joined arrays slots.entries) k
  its_old_names k =
      let all : times k (names_of (object_of is.part (Some is.array))) ≡ times k (named is.part.params) + times k (named_in_block (Some is.array.block)) =
      times_append k (named is.part.params) (objects_of_elements (Some (array_state is.array))) ∙ ap (λ names. times k (named is.part.params) + times k names) (block_names (Some is.array)) in
      omega (arith, all, names_least k h (joined arrays slots.entries) (object_of is.part (Some is.array)) object_there)

  module _ (first : CountMap) (added : Moves counts first (named_in_block (block_at held h)) []) where
    -- the old names are counted
    pub old_are_named : (k : ℕ) → times k (named_in_block (Some is.array.block)) ≤ named_at first k
    old_are_named k =
        let none : times k [] ≡ 0 = refl in
        let moved : named_at first k + times k [] ≡ named_at counts k + times k (named_in_block (block_at held h)) = added.named k in
        let was : named_at counts k ≡ names_in (joined arrays slots.entries) k + loans_at (joined arrays slots.entries) k + holds_at slots.entries k = parts.counted.named k in
        omega (arith, none, moved, was, its_old_names k)

    module _ (second : CountMap) (gone : Moves first second [] (named_in_block (Some is.array.block))) where
      pub still_named : 1 ≤ named_at second h
      still_named =
          let none : times h [] ≡ 0 = refl in
          let moved : named_at first h + times h [] ≡ named_at counts h + times h (named_in_block (block_at held h)) = added.named h in
          let then_ : named_at second h + times h (named_in_block (Some is.array.block)) ≡ named_at first h + times h [] = gone.named h in
          let was : named_at counts h ≡ names_in (joined arrays slots.entries) h + loans_at (joined arrays slots.entries) h + holds_at slots.entries h = parts.counted.named h in
          let lent : loans_at (joined arrays slots.entries) h ≡ loan_count (object_of is.part (Some is.array)) = ap (λ x. option_map_or loan_count x 0) object_there in
          omega (arith, none, moved, then_, was, lent, its_old_names h, one_loan_less number content is.part is.array is.lent)

      module _ (last : CountMap) (ended : Moves second last [] (h ∷ [])) where
        moves : Moves counts last (named_in_block (block_at held h)) (named_in_block (Some is.array.block) ++ h ∷ [])
        moves =
            subst (λ added. Moves counts last added (named_in_block (Some is.array.block) ++ h ∷ [])) (append-nil (named_in_block (block_at held h) ++ []) ∙ append-nil (named_in_block (block_at held h)))
            (moves_both counts second last (named_in_block (block_at held h) ++ []) [] (named_in_block (Some is.array.block)) (h ∷ [])
            (moves_both counts first second (named_in_block (block_at held h)) [] [] (named_in_block (Some is.array.block)) added gone) ended)

        same_slots : slots ≡ with_slot slots h is.part
        same_slots = sym (ap (λ es. record slots { entries = es }) (set_value_same (is_at (nat_cmp h)) slots.entries is.part is.part_there))

        weighs : (k : ℕ) → weigh k h (object_of is.part (array_at held h)) + times k (named_in_block (Some is.array.block) ++ h ∷ [])
            ≡ weigh k h (object_of is.part (array_at arrays h)) + times k (named_in_block (block_at held h))
        weighs k =
            ap (λ x. weigh k h (object_of is.part x) + times k (named_in_block (Some is.array.block) ++ h ∷ [])) array_now
            ∙ unmap_weighs k h number content is.part is.array is.lent
            ∙ sym (ap (λ x. weigh k h (object_of is.part x) + times k (named_in_block (Some (unmapped content is.array).block))) is.array_there)
            ∙ sym (ap (λ b. weigh k h (object_of is.part (array_at arrays h)) + times k (named_in_block b)) block_now)

        pub parts_unmapped : ((k : ℕ) → 0 < times k (named_in_block (block_at held h)) → IsSome (at k (joined arrays slots.entries))) → (count : ℕ) → count ≡ is.array.block.count →
            bound + count ≤ 2 ^ 62 → AreParts slots held last (bound + count)
        parts_unmapped all count counted small =
            let many : length (named_in_block (block_at held h)) ≡ length (named_in_block (Some (unmapped content is.array).block)) = ap (λ b. length (named_in_block b)) block_now in
            let few : length (named_in_block (Some (unmapped content is.array).block)) ≤ is.array.block.count = few_named (elements_of (unmapped content is.array).block) is.array.block.count in
            let fits : bound + length (named_in_block (block_at held h)) ≤ bound + count = omega (arith, many, few, counted) in
            parts_changed slots slots arrays held counts last bound parts h is.part is.part is.part_there same_slots changes.others refl (named_in_block (block_at held h))
            (named_in_block (Some is.array.block) ++ h ∷ []) moves (bound + count) weighs
            (not_named slots.next (named_in_block (block_at held h)) (joined arrays slots.entries) (objects_beyond slots arrays slots.next parts.rising (omega arith)) all) fits small
            (subst (λ x. IfSome x IsShort) (sym array_now) (subst (λ x. IfSome x IsShort) is.array_there (parts.short h)))

        pub stored_unmapped : (stopped : Stops) → stored slots held last stopped
            ≡ record (stored slots arrays counts stopped) { state = changed_at h (change_array (holding content)) (stored slots arrays counts stopped).state }
        stored_unmapped stopped =
            stored_changed slots slots arrays held counts last bound parts h is.part is.part is.part_there same_slots changes.others refl (named_in_block (block_at held h))
            (named_in_block (Some is.array.block) ++ h ∷ []) moves stopped (change_array (holding content))
            (ap (object_of is.part) array_now ∙ sym (ap (λ x. change_array (holding content) (object_of is.part x)) is.array_there))
