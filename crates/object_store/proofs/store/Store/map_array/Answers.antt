use Rattle.std.proofs.Common.{◌≡◌, ◌∷◌, [], subst, arith}
use Rattle.dev_types.specs.declared.refusals.Refused.TheVariants.{ArrayMapped}
use Rattle.seq_model.specs.State.{changed_at}
use Rattle.seq_model.specs.Steps.{change_array, lent}
use Rattle.object_store.specs.Kept.{Stored, stored}
use Rattle.object_store.specs.Moves.{Moves}
use Rattle.object_store.proofs.Changes.{IsFree, array_is_there, free_by, ok_is_no_err, parts_lent, stored_lent}
use Rattle.object_store.proofs.Unmaps.{lent_content}
use Rattle.object_store.proofs.MoveFacts.{moves_named}
use Rattle.object_store.proofs.store.Store.map_array.Goals as goal

pub map-requires : goal.map-requires
map-requires c = (array_is_there c.args.self.now c.self.inside.slots c.self.inside.arrays c.self.inside.counts c.self.inside.stopped c.args.h c.self.view_is c.requires).0

pub name-requires-clause-live : goal.name-requires-clause-live
name-requires-clause-live c =
    c.self.invariant.counted.there c.args.h (array_is_there c.args.self.now c.self.inside.slots c.self.inside.arrays c.self.inside.counts c.self.inside.stopped c.args.h c.self.view_is c.requires).1

pub name-requires-clause-fits : goal.name-requires-clause-fits
name-requires-clause-fits c = omega (arith, c.self.invariant.bounded c.args.h, c.self.invariant.few c.args.h, c.if-self-ge-MOST_NAMES.false)

pub invariant_of-self-2 : goal.invariant_of-self-2
invariant_of-self-2 c =
    let free : IsFree c.self.inside.slots c.self.inside.arrays c.args.h =
    free_by c.args.self.now c.self.inside.slots c.self.inside.arrays c.self.inside.counts c.self.inside.stopped c.args.h c.self.view_is c.requires
    (λ some. ok_is_no_err c.in_ok-lent.lent (ArrayMapped c.args.h) (c.in_ok-lent.ensures.refused_mapped some)) in
    let moves : Moves c.self.inside.counts c.name.new.self (c.args.h ∷ []) [] = moves_named c.self.inside.counts c.name.new.self c.args.h c.name.ensures.changes
    (c.self.invariant.counted.there c.args.h (array_is_there c.args.self.now c.self.inside.slots c.self.inside.arrays c.self.inside.counts c.self.inside.stopped c.args.h c.self.view_is c.requires).1) in
    parts_lent c.self.inside.slots c.self.inside.arrays c.map.new.self c.self.inside.counts c.name.new.self c.self.inside.bound c.args.h c.args.number c.self.invariant free c.in_ok-lent.ensures.changes moves
    (omega (arith, c.if-self-ge-MOST_NAMES.false))

pub returns-clause-ok : goal.returns-clause-ok
returns-clause-ok c =
    let free : IsFree c.self.inside.slots c.self.inside.arrays c.args.h =
    free_by c.args.self.now c.self.inside.slots c.self.inside.arrays c.self.inside.counts c.self.inside.stopped c.args.h c.self.view_is c.requires
    (λ some. ok_is_no_err c.in_ok-lent.lent (ArrayMapped c.args.h) (c.in_ok-lent.ensures.refused_mapped some)) in
    let moves : Moves c.self.inside.counts c.name.new.self (c.args.h ∷ []) [] = moves_named c.self.inside.counts c.name.new.self c.args.h c.name.ensures.changes
    (c.self.invariant.counted.there c.args.h (array_is_there c.args.self.now c.self.inside.slots c.self.inside.arrays c.self.inside.counts c.self.inside.stopped c.args.h c.self.view_is c.requires).1) in
    subst (λ (s : Stored). stored c.self.inside.slots c.map.new.self c.name.new.self c.self.inside.stopped ≡ record s { state = changed_at c.args.h (change_array (lent c.args.number)) s.state }) c.self.view_is
    (stored_lent c.self.inside.slots c.self.inside.arrays c.map.new.self c.self.inside.counts c.name.new.self c.self.inside.bound c.args.h c.args.number c.self.invariant free c.in_ok-lent.ensures.changes moves c.self.inside.stopped)

pub returns-clause-content : goal.returns-clause-content
returns-clause-content c =
    lent_content c.args.self.now c.self.inside.slots c.self.inside.arrays c.self.inside.counts c.self.inside.stopped c.args.h c.in_ok-lent.lent.elements c.self.view_is c.in_ok-lent.ensures.content
