use Rattle.std.proofs.Common.{◌+◌, ◌≡◌, ◌∙◌, ◌∷◌, ◌++◌, [], None, Some, false, ap, refl, subst, arith, sym}
use Rattle.std.specs.Option.{IsSome}
use Rattle.dev_types.specs.declared.data_types.DataType.TheVariants as ty
use Rattle.dev_types.specs.declared.values.Value.TheVariants as value
use Rattle.kind_tables.specs.SceneObjects.{with_value}
use Rattle.kind_tables.specs.declared.kinds.Kind.TheVariants.{Array as ArrayKind}
use Rattle.handle_table.specs.HandleMaps.{HandleMap}
use Rattle.ref_counts.specs.CountMaps.{counts_at}
use Rattle.array_objects.specs.Stores.{ChangesAt as ArraysChange, block_at}
use Rattle.seq_model.specs.State.{changed_at, object_at, with_object}
use Rattle.seq_model.specs.Steps.{set_staged}
use Rattle.object_store.specs.Kept.{Stored, stored}
use Rattle.object_store.specs.Moves.{Moves, Restages}
use Rattle.object_store.specs.Parts.{Part, array_of, fresh_part, named_in_block, set_in}
use Rattle.object_store.proofs.Births.{ready_parts}
use Rattle.object_store.proofs.PartFacts.{part_there}
use Rattle.object_store.proofs.StagedArrays.{few_counted, gone_is_counted, looked_alike, names_itself, next_from_one, one_more_fresh, parts_as_before, parts_staged, stored_as_before, stored_staged}
use Rattle.object_store.proofs.store.Store.stage_array.Goals as goal

pub set_at-requires : goal.set_at-requires
set_at-requires c = part_there c.args.self.now c.self.inside.slots c.self.inside.arrays c.self.inside.counts c.self.inside.stopped c.args.h c.self.view_is c.requires.there

pub invariant_of-self-in-Err : goal.invariant_of-self-in-Err
invariant_of-self-in-Err c =
    parts_as_before c.self.inside.slots c.set_at.new.slots c.self.inside.arrays c.taken_back.new.arrays (looked_alike c.self.inside.arrays c.add.new.self c.taken_back.new.arrays c.next-next.result (Some (record { block = c.args.block; loan = None })) (c.self.invariant.none_beyond c.next-next.result (omega (arith, c.next-next.ensures.value))) c.in_ok-add.ensures.changes c.taken_back.ensures.changes) c.in-Err.ensures.err
    c.self.inside.counts c.self.inside.bound c.self.invariant

pub returns-in-Err-clause-err : goal.returns-in-Err-clause-err
returns-in-Err-clause-err c =
    stored_as_before c.self.inside.slots c.set_at.new.slots c.self.inside.arrays c.taken_back.new.arrays (looked_alike c.self.inside.arrays c.add.new.self c.taken_back.new.arrays c.next-next.result (Some (record { block = c.args.block; loan = None })) (c.self.invariant.none_beyond c.next-next.result (omega (arith, c.next-next.ensures.value))) c.in_ok-add.ensures.changes c.taken_back.ensures.changes) c.in-Err.ensures.err
    c.self.inside.counts c.self.inside.stopped ∙ c.self.view_is

pub account-requires-clause-fits : goal.account-requires-clause-fits
account-requires-clause-fits c =
    few_counted c.self.inside.slots c.set_at.new.slots (record { entries = c.set_at.new.slots.entries ++ (c.self.inside.slots.next, fresh_part (ArrayKind c.args.block.ty)) ∷ []; next = c.self.inside.slots.next + 1; spare = 0 }) c.self.inside.arrays c.add.new.self c.self.inside.counts c.name_content.new.counts c.self.inside.bound c.self.invariant c.args.block c.args.h
    c.args.name.now c.in-Ok.told.added c.in-Ok.told.gone (subst (λ n. Restages c.self.inside.slots c.set_at.new.slots c.args.h (set_in c.args.name.now (value.Object ty.Array1D n)) c.in-Ok.told.added c.in-Ok.told.gone) c.next-next.ensures.value c.in-Ok.ensures.changes)
    (c.in-Ok.ensures.added ∙ names_itself c.next-next.result (omega (arith, c.next-next.ensures.value, next_from_one c.self.inside.slots c.self.invariant.rising)) ∙ ap (λ n. n ∷ []) c.next-next.ensures.value)
    refl refl
    (subst (λ h. ArraysChange c.self.inside.arrays c.add.new.self h (Some (record { block = c.args.block; loan = None }))) c.next-next.ensures.value c.in_ok-add.ensures.changes) (ready_parts c.self.inside.slots.spare (counts_at c.self.inside.counts c.self.inside.slots.next) (ap (λ (s : Stored). s.ready) c.self.view_is ∙ c.requires.room)).1
    (subst (λ h. Moves c.self.inside.counts c.name_content.new.counts (named_in_block (block_at c.add.new.self h)) []) c.next-next.ensures.value c.name_content.ensures)
    (λ k some. subst (λ (s : Stored). IsSome (object_at s.state k)) (sym c.self.view_is) (c.requires.named k some)) (omega (arith, c.if-count-gt-MOST_NAMES.false, c.if-self-ge-MOST_NAMES.false)) c.requires.short

pub account-requires-clause-named : goal.account-requires-clause-named
account-requires-clause-named c =
    gone_is_counted c.self.inside.slots c.set_at.new.slots (record { entries = c.set_at.new.slots.entries ++ (c.self.inside.slots.next, fresh_part (ArrayKind c.args.block.ty)) ∷ []; next = c.self.inside.slots.next + 1; spare = 0 }) c.self.inside.arrays c.add.new.self c.self.inside.counts c.name_content.new.counts c.self.inside.bound c.self.invariant c.args.block c.args.h
    c.args.name.now c.in-Ok.told.added c.in-Ok.told.gone (subst (λ n. Restages c.self.inside.slots c.set_at.new.slots c.args.h (set_in c.args.name.now (value.Object ty.Array1D n)) c.in-Ok.told.added c.in-Ok.told.gone) c.next-next.ensures.value c.in-Ok.ensures.changes)
    (c.in-Ok.ensures.added ∙ names_itself c.next-next.result (omega (arith, c.next-next.ensures.value, next_from_one c.self.inside.slots c.self.invariant.rising)) ∙ ap (λ n. n ∷ []) c.next-next.ensures.value)
    refl refl
    (subst (λ h. ArraysChange c.self.inside.arrays c.add.new.self h (Some (record { block = c.args.block; loan = None }))) c.next-next.ensures.value c.in_ok-add.ensures.changes) (ready_parts c.self.inside.slots.spare (counts_at c.self.inside.counts c.self.inside.slots.next) (ap (λ (s : Stored). s.ready) c.self.view_is ∙ c.requires.room)).1
    (subst (λ h. Moves c.self.inside.counts c.name_content.new.counts (named_in_block (block_at c.add.new.self h)) []) c.next-next.ensures.value c.name_content.ensures)
    (λ k some. subst (λ (s : Stored). IsSome (object_at s.state k)) (sym c.self.view_is) (c.requires.named k some)) (omega (arith, c.if-count-gt-MOST_NAMES.false, c.if-self-ge-MOST_NAMES.false)) c.requires.short

pub invariant_of-self-2 : goal.invariant_of-self-2
invariant_of-self-2 c =
    parts_staged c.self.inside.slots c.set_at.new.slots c.insert.new.self c.self.inside.arrays c.add.new.self c.self.inside.counts c.name_content.new.counts c.self.inside.bound c.self.invariant c.args.block c.args.h
    c.args.name.now c.in-Ok.told.added c.in-Ok.told.gone (subst (λ n. Restages c.self.inside.slots c.set_at.new.slots c.args.h (set_in c.args.name.now (value.Object ty.Array1D n)) c.in-Ok.told.added c.in-Ok.told.gone) c.next-next.ensures.value c.in-Ok.ensures.changes)
    (c.in-Ok.ensures.added ∙ names_itself c.next-next.result (omega (arith, c.next-next.ensures.value, next_from_one c.self.inside.slots c.self.invariant.rising)) ∙ ap (λ n. n ∷ []) c.next-next.ensures.value)
    (one_more_fresh c.set_at.new.slots c.insert.new.self c.self.inside.slots.next c.insert.result (ArrayKind c.args.block.ty) c.new.result c.insert.ensures.entries (c.insert.ensures.handle ∙ ap (λ (m : HandleMap Part). m.next) c.in-Ok.ensures.changes.changed) c.new.ensures) (c.insert.ensures.next ∙ ap (λ (m : HandleMap Part). m.next + 1) c.in-Ok.ensures.changes.changed)
    (subst (λ h. ArraysChange c.self.inside.arrays c.add.new.self h (Some (record { block = c.args.block; loan = None }))) c.next-next.ensures.value c.in_ok-add.ensures.changes) (ready_parts c.self.inside.slots.spare (counts_at c.self.inside.counts c.self.inside.slots.next) (ap (λ (s : Stored). s.ready) c.self.view_is ∙ c.requires.room)).1
    (subst (λ h. Moves c.self.inside.counts c.name_content.new.counts (named_in_block (block_at c.add.new.self h)) []) c.next-next.ensures.value c.name_content.ensures)
    (λ k some. subst (λ (s : Stored). IsSome (object_at s.state k)) (sym c.self.view_is) (c.requires.named k some)) (omega (arith, c.if-count-gt-MOST_NAMES.false, c.if-self-ge-MOST_NAMES.false)) c.requires.short c.account.new.counts c.account.ensures

pub returns-clause-store : goal.returns-clause-store
returns-clause-store c =
    subst (λ (s : Stored). stored c.insert.new.self c.add.new.self c.account.new.counts c.self.inside.stopped ≡ record {
      state = changed_at c.args.h (set_staged (with_value c.args.name.now (value.Object ty.Array1D s.state.next))) (with_object (array_of c.args.block) s.state);
      public = s.public ++ (s.state.next, 1) ∷ [];
      holds = s.holds ++ (s.state.next, 0) ∷ [];
      ready = false;
      places = s.places;
    }) c.self.view_is
    (stored_staged c.self.inside.slots c.set_at.new.slots c.insert.new.self c.self.inside.arrays c.add.new.self c.self.inside.counts c.name_content.new.counts c.self.inside.bound c.self.invariant c.args.block c.args.h
    c.args.name.now c.in-Ok.told.added c.in-Ok.told.gone (subst (λ n. Restages c.self.inside.slots c.set_at.new.slots c.args.h (set_in c.args.name.now (value.Object ty.Array1D n)) c.in-Ok.told.added c.in-Ok.told.gone) c.next-next.ensures.value c.in-Ok.ensures.changes)
    (c.in-Ok.ensures.added ∙ names_itself c.next-next.result (omega (arith, c.next-next.ensures.value, next_from_one c.self.inside.slots c.self.invariant.rising)) ∙ ap (λ n. n ∷ []) c.next-next.ensures.value)
    (one_more_fresh c.set_at.new.slots c.insert.new.self c.self.inside.slots.next c.insert.result (ArrayKind c.args.block.ty) c.new.result c.insert.ensures.entries (c.insert.ensures.handle ∙ ap (λ (m : HandleMap Part). m.next) c.in-Ok.ensures.changes.changed) c.new.ensures) (c.insert.ensures.next ∙ ap (λ (m : HandleMap Part). m.next + 1) c.in-Ok.ensures.changes.changed)
    (subst (λ h. ArraysChange c.self.inside.arrays c.add.new.self h (Some (record { block = c.args.block; loan = None }))) c.next-next.ensures.value c.in_ok-add.ensures.changes) (ready_parts c.self.inside.slots.spare (counts_at c.self.inside.counts c.self.inside.slots.next) (ap (λ (s : Stored). s.ready) c.self.view_is ∙ c.requires.room)).1
    (subst (λ h. Moves c.self.inside.counts c.name_content.new.counts (named_in_block (block_at c.add.new.self h)) []) c.next-next.ensures.value c.name_content.ensures)
    (λ k some. subst (λ (s : Stored). IsSome (object_at s.state k)) (sym c.self.view_is) (c.requires.named k some)) (omega (arith, c.if-count-gt-MOST_NAMES.false, c.if-self-ge-MOST_NAMES.false)) c.requires.short c.account.new.counts c.account.ensures c.self.inside.stopped)
