-- One array more.
use Rattle.std.proofs.Common.{ℕ, zero, suc, ◌+◌, ◌≡◌, ◌<◌, ◌≤◌, ◌^◌, ◌∙◌, false, List, [], ◌∷◌, ◌++◌, Some, None, refl, sym, ap, subst, arith}
use Rattle.std.specs.Option.{IfSome, IsSome, option_map}
use Rattle.kind_tables.specs.declared.kinds.Kind.TheVariants.{Array as ArrayKind}
use Rattle.handle_table.specs.HandleMaps.{HandleMap}
use Rattle.ref_counts.specs.CountMaps.{CountMap, counts_at, named_at}
use Rattle.array_objects.specs.Stores.{Arrays, ChangesAt as ArraysChange, array_at, block_at, elements_of}
use Rattle.array_objects.specs.declared.arrays.Array.{Array}
use Rattle.array_objects.specs.declared.arrays.Block.{Block}
use Rattle.seq_model.specs.Life.{loan_count, names_of}
use Rattle.dev_types.specs.Counting.{times}
use Rattle.seq_model.specs.State.{Object, with_object}
use Rattle.object_store.specs.Kept.{AreParts, IsShort, Stops, stored}
use Rattle.object_store.specs.Moves.{Moves}
use Rattle.object_store.specs.Parts.{Part, array_of, at, fresh_part, holds_at, joined, named_in_block, object_of}
use Rattle.object_store.proofs.Births.{objects_beyond, parts_more, stored_more}
use Rattle.object_store.proofs.Counted.{not_some}
use Rattle.object_store.proofs.NamedFacts.{block_names, named_short}

-- who is not there is not named by what names only who is there
pub not_named : (k : ℕ) (names : List ℕ) (objects : List (ℕ × Object)) → at k objects ≡ None → ((j : ℕ) → 0 < times j names → IsSome (at j objects)) → times k names ≡ 0
not_named k names objects none all = by (times k names) refl
  where
    by : (n : ℕ) → times k names ≡ n → n ≡ 0
    by zero is = refl
    by (suc n) is =
        let some : 0 < times k names = omega (arith, is) in
        absurd (not_some (at k objects) none (all k some))

module _ (slots new : HandleMap Part) (arrays held : Arrays) (counts moved : CountMap) (bound : ℕ) (parts : AreParts slots arrays counts bound) (block : Block)
    (entries : new.entries ≡ slots.entries ++ (slots.next, fresh_part (ArrayKind block.ty)) ∷ []) (next : new.next ≡ slots.next + 1)
    (changes : ArraysChange arrays held slots.next (Some (record { block = block; loan = None }))) (born : IsSome (counts_at counts slots.next))
    (moves : Moves counts moved (named_in_block (block_at held slots.next)) []) where
  names : names_of (object_of (fresh_part (ArrayKind block.ty)) (array_at held slots.next)) ≡ named_in_block (block_at held slots.next)
  names = block_names (array_at held slots.next)

  block_there : block_at held slots.next ≡ Some block
  block_there = ap (option_map (λ (a : Array). a.block)) changes.changed

  bounded_more : (k : ℕ) → named_at moved k ≤ bound + block.count + holds_at slots.entries k
  bounded_more k =
      let none : times k [] ≡ 0 = refl in
      let moved_ : named_at moved k + times k [] ≡ named_at counts k + times k (named_in_block (block_at held slots.next)) = moves.named k in
      let same : times k (named_in_block (block_at held slots.next)) ≡ times k (named_in_block (Some block)) = ap (λ b. times k (named_in_block b)) block_there in
      let few : times k (named_in_block (Some block)) ≤ block.count = named_short (elements_of block) k block.count in
      omega (arith, none, moved_, same, few, parts.bounded k)

  pub parts_of_array : ((k : ℕ) → 0 < times k (named_in_block (Some block)) → IsSome (at k (joined arrays slots.entries))) → bound + block.count ≤ 2 ^ 62 → block.count ≤ 2 ^ 28 →
      AreParts new held moved (bound + block.count)
  parts_of_array named small short =
      parts_more slots new arrays held counts moved bound (bound + block.count) (fresh_part (ArrayKind block.ty)) parts entries next changes.others refl
      (ap (λ x. loan_count (object_of (fresh_part (ArrayKind block.ty)) x)) changes.changed) born (subst (λ names. Moves counts moved names []) (sym names) moves)
      (ap (times (slots.next + 1)) names ∙ ap (λ b. times (slots.next + 1) (named_in_block b)) block_there
      ∙ not_named (slots.next + 1) (named_in_block (Some block)) (joined arrays slots.entries) (objects_beyond slots arrays (slots.next + 1) parts.rising (omega arith)) named)
      bounded_more small (subst (λ x. IfSome x IsShort) (sym changes.changed) short)

  pub stored_array : (stopped : Stops) → stored new held moved stopped ≡ record {
    state = with_object (array_of block) (stored slots arrays counts stopped).state;
    public = (stored slots arrays counts stopped).public ++ (slots.next, 1) ∷ [];
    holds = (stored slots arrays counts stopped).holds ++ (slots.next, 0) ∷ [];
    ready = false;
    places = stopped.room;
  }
  stored_array stopped =
      stored_more slots new arrays held counts moved bound stopped (fresh_part (ArrayKind block.ty)) parts entries next changes.others refl born moves.public moves.there
      ∙ ap (λ x. record {
        state = with_object (object_of (fresh_part (ArrayKind block.ty)) x) (stored slots arrays counts stopped).state;
        public = (stored slots arrays counts stopped).public ++ (slots.next, 1) ∷ [];
        holds = (stored slots arrays counts stopped).holds ++ (slots.next, 0) ∷ [];
        ready = false;
        places = stopped.room;
      }) changes.changed
