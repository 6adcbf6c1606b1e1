use Rattle.std.proofs.Common.{◌≡◌, ◌≤◌, ◌++◌, [], sym, subst}
use Rattle.std.specs.Option.{IsSome}
use Rattle.param_stage.specs.Params.{named}
use Rattle.array_objects.specs.Stores.{array_at}
use Rattle.ref_counts.specs.CountMaps.{CountMap, named_at}
use Rattle.seq_model.specs.Life.{names_of}
use Rattle.dev_types.specs.Counting.{times}
use Rattle.object_store.specs.Kept.{IsSettled, IsUnheld, Stored, stored, without}
use Rattle.object_store.specs.Moves.{Moves}
use Rattle.object_store.specs.Parts.{named_in_block, object_of}
use Rattle.object_store.proofs.Counted.{not_some}
use Rattle.object_store.proofs.Deaths.{all_settled, block_seen, dead_is_unheld, if_none, its_names, names_are, part_of_dead, parts_less, stored_less}
use Rattle.object_store.proofs.PartFacts.{read_some}
use Rattle.object_store.proofs.store.Store.die.Goals as goal

pub unreachable-requires : goal.unreachable-requires
unreachable-requires c =
    not_some c.remove.result c.in_default.is
    (subst IsSome (sym c.remove.ensures.value) (part_of_dead c.self.inside.slots c.self.inside.arrays c.self.inside.counts c.self.inside.bound c.in_ok-h.h c.self.invariant c.in_ok-h.ensures.least.dead))

pub unname_object-requires-clause-named : goal.unname_object-requires-clause-named
unname_object-requires-clause-named c =
    let names : names_of (object_of c.in-Some.slot (array_at c.self.inside.arrays c.in_ok-h.h)) ≡ named c.params.result.now ++ named_in_block c.remove-block.result =
    names_are c.in-Some.slot (array_at c.self.inside.arrays c.in_ok-h.h) c.params.result.now c.remove-block.result c.params.ensures c.remove-block.ensures.value in
    λ k. subst (λ names. times k names ≤ named_at c.die.new.self k) names
    (its_names c.self.inside.slots c.self.inside.arrays c.self.inside.counts c.self.inside.bound c.self.invariant c.in_ok-h.h c.in-Some.slot (sym c.in-Some.ensures.value) c.in_ok-h.ensures.least.dead
    c.die.new.self c.in_ok-h.ensures.changes k)

pub invariant_of-self-2 : goal.invariant_of-self-2
invariant_of-self-2 c =
    let names : names_of (object_of c.in-Some.slot (array_at c.self.inside.arrays c.in_ok-h.h)) ≡ named c.params.result.now ++ named_in_block c.remove-block.result =
    names_are c.in-Some.slot (array_at c.self.inside.arrays c.in_ok-h.h) c.params.result.now c.remove-block.result c.params.ensures c.remove-block.ensures.value in
    parts_less c.self.inside.slots c.self.inside.arrays c.self.inside.counts c.self.inside.bound c.self.invariant c.in_ok-h.h c.in-Some.slot (sym c.in-Some.ensures.value) c.in_ok-h.ensures.least.dead
    c.die.new.self c.in_ok-h.ensures.changes c.remove.new.self c.remove-block.new.self c.unname_object.new.counts c.in-Some.ensures.entries c.in-Some.ensures.next c.remove-block.ensures.changes
    (subst (λ gone. Moves c.die.new.self c.unname_object.new.counts [] gone) (sym names) c.unname_object.ensures)

pub returns-in_err-h-clause-settled : goal.returns-in_err-h-clause-settled
returns-in_err-h-clause-settled c =
    if_none c.from_residual.result
    (subst (λ (counts : CountMap). IsSettled (stored c.self.inside.slots c.self.inside.arrays counts c.self.inside.stopped)) (sym c.in_err-h.ensures.unchanged)
    (all_settled c.self.inside.slots c.self.inside.arrays c.self.inside.counts c.self.inside.bound c.self.inside.stopped c.self.invariant c.in_err-h.ensures.none))

pub returns-clause-unheld : goal.returns-clause-unheld
returns-clause-unheld c =
    subst (λ (s : Stored). IsUnheld s c.in_ok-h.h) c.self.view_is
    (dead_is_unheld c.self.inside.slots c.self.inside.arrays c.self.inside.counts c.self.inside.bound c.self.inside.stopped c.self.invariant c.in_ok-h.h c.in_ok-h.ensures.least.dead)

pub returns-clause-gone : goal.returns-clause-gone
returns-clause-gone c =
    let names : names_of (object_of c.in-Some.slot (array_at c.self.inside.arrays c.in_ok-h.h)) ≡ named c.params.result.now ++ named_in_block c.remove-block.result =
    names_are c.in-Some.slot (array_at c.self.inside.arrays c.in_ok-h.h) c.params.result.now c.remove-block.result c.params.ensures c.remove-block.ensures.value in
    subst (λ (s : Stored). stored c.remove.new.self c.remove-block.new.self c.unname_object.new.counts c.self.inside.stopped ≡ without c.in_ok-h.h s) c.self.view_is
    (stored_less c.self.inside.slots c.self.inside.arrays c.self.inside.counts c.self.inside.bound c.self.invariant c.in_ok-h.h c.in-Some.slot (sym c.in-Some.ensures.value) c.in_ok-h.ensures.least.dead
    c.die.new.self c.in_ok-h.ensures.changes c.remove.new.self c.remove-block.new.self c.unname_object.new.counts c.in-Some.ensures.entries c.in-Some.ensures.next c.remove-block.ensures.changes
    (subst (λ gone. Moves c.die.new.self c.unname_object.new.counts [] gone) (sym names) c.unname_object.ensures) c.self.inside.stopped c.in-Some.ensures.spare)

pub returns-clause-block : goal.returns-clause-block
returns-clause-block c =
    block_seen c.in_ok-h.h c.self.inside.arrays c.args.self.now c.in-Some.slot c.remove-block.result
    (read_some c.args.self.now c.self.inside.slots c.self.inside.arrays c.self.inside.counts c.self.inside.stopped c.in_ok-h.h c.in-Some.slot c.self.view_is c.in-Some.ensures.value) c.remove-block.ensures.value
