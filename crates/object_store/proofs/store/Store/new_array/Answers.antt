use Rattle.std.proofs.Common.{◌≡◌, ◌<◌, ◌≤◌, ◌∙◌, ◌∷◌, ◌++◌, [], None, Some, false, ap, subst, arith, sym}
use Rattle.std.specs.Option.{IsSome, option_map}
use Rattle.kind_tables.specs.declared.kinds.Kind.TheVariants.{Array as ArrayKind}
use Rattle.ref_counts.specs.CountMaps.{counts_at}
use Rattle.array_objects.specs.Stores.{ChangesAt as ArraysChange, block_at}
use Rattle.array_objects.specs.declared.arrays.Array.{Array}
use Rattle.dev_types.specs.Counting.{times}
use Rattle.seq_model.specs.State.{object_at, with_object}
use Rattle.object_store.specs.Kept.{Stored, stored}
use Rattle.object_store.specs.Moves.{Moves}
use Rattle.object_store.specs.Parts.{array_of, named_in_block}
use Rattle.object_store.proofs.ArrayBirths.{parts_of_array, stored_array}
use Rattle.object_store.proofs.Births.{one_fresh, ready_parts}
use Rattle.object_store.proofs.store.Store.new_array.Goals as goal

pub name_content-requires-clause-there : goal.name_content-requires-clause-there
name_content-requires-clause-there c = λ k some.
    let there : block_at c.add.new.self c.next-next.result ≡ Some c.args.block = ap (option_map (λ (a : Array). a.block)) c.in_ok-add.ensures.changes.changed in
    c.self.invariant.counted.there k
    (subst (λ (s : Stored). IsSome (object_at s.state k)) (sym c.self.view_is) (c.requires.named k (subst (λ b. 0 < times k (named_in_block b)) there some)))

pub invariant_of-self-2 : goal.invariant_of-self-2
invariant_of-self-2 c =
    let is : c.next-next.result ≡ c.self.inside.slots.next = c.next-next.ensures.value in
    let ready : (1 ≤ c.self.inside.slots.spare) × IsSome (counts_at c.self.inside.counts c.self.inside.slots.next) =
    ready_parts c.self.inside.slots.spare (counts_at c.self.inside.counts c.self.inside.slots.next) (ap (λ (s : Stored). s.ready) c.self.view_is ∙ c.requires.room) in
    parts_of_array c.self.inside.slots c.insert.new.self c.self.inside.arrays c.add.new.self c.self.inside.counts c.name_content.new.counts c.self.inside.bound c.self.invariant c.args.block
    (one_fresh c.self.inside.slots c.insert.new.self c.insert.result (ArrayKind c.args.block.ty) c.new.result c.insert.ensures.entries c.insert.ensures.handle c.new.ensures) c.insert.ensures.next
    (subst (λ h. ArraysChange c.self.inside.arrays c.add.new.self h (Some (record { block = c.args.block; loan = None }))) is c.in_ok-add.ensures.changes) ready.1
    (subst (λ h. Moves c.self.inside.counts c.name_content.new.counts (named_in_block (block_at c.add.new.self h)) []) is c.name_content.ensures)
    (λ k some. subst (λ (s : Stored). IsSome (object_at s.state k)) (sym c.self.view_is) (c.requires.named k some))
    (omega (arith, c.if-count-gt-MOST_NAMES.false, c.if-self-gt-MOST_NAMES.false)) c.requires.short

pub returns-clause-store : goal.returns-clause-store
returns-clause-store c =
    let is : c.next-next.result ≡ c.self.inside.slots.next = c.next-next.ensures.value in
    let ready : (1 ≤ c.self.inside.slots.spare) × IsSome (counts_at c.self.inside.counts c.self.inside.slots.next) =
    ready_parts c.self.inside.slots.spare (counts_at c.self.inside.counts c.self.inside.slots.next) (ap (λ (s : Stored). s.ready) c.self.view_is ∙ c.requires.room) in
    subst (λ (s : Stored). stored c.insert.new.self c.add.new.self c.name_content.new.counts c.self.inside.stopped ≡ record {
      state = with_object (array_of c.args.block) s.state;
      public = s.public ++ (s.state.next, 1) ∷ [];
      holds = s.holds ++ (s.state.next, 0) ∷ [];
      ready = false;
      places = s.places;
    }) c.self.view_is
    (stored_array c.self.inside.slots c.insert.new.self c.self.inside.arrays c.add.new.self c.self.inside.counts c.name_content.new.counts c.self.inside.bound c.self.invariant c.args.block
    (one_fresh c.self.inside.slots c.insert.new.self c.insert.result (ArrayKind c.args.block.ty) c.new.result c.insert.ensures.entries c.insert.ensures.handle c.new.ensures) c.insert.ensures.next
    (subst (λ h. ArraysChange c.self.inside.arrays c.add.new.self h (Some (record { block = c.args.block; loan = None }))) is c.in_ok-add.ensures.changes) ready.1
    (subst (λ h. Moves c.self.inside.counts c.name_content.new.counts (named_in_block (block_at c.add.new.self h)) []) is c.name_content.ensures)
    c.self.inside.stopped)
