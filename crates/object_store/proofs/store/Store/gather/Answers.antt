use Rattle.std.proofs.Common.{◌<◌, ◌∙◌, length, refl, ap, sym, subst, arith}
use Rattle.std.specs.Prelude.{vec_capacity}
use Rattle.std.specs.List.{filter_map}
use Rattle.std.specs.Map.{keys_of}
use Rattle.object_store.specs.Ends.{AreDying, AreLeaving, Ends, ended, notice_of}
use Rattle.object_store.specs.Kept.{IsSettled, Stored, without}
use Rattle.object_store.specs.Parts.{memory_of}
use Rattle.seq_model.specs.Told.{end_of_object, gone}
use Rattle.object_store.proofs.DeadSteps.{told_of_ended}
use Rattle.object_store.proofs.Dying.{dying_ends, dying_fits, dying_next, dying_starts}
use Rattle.object_store.proofs.Leaving.{leaving_ends, leaving_fits, leaving_next, leaving_starts}
use Rattle.object_store.proofs.Lefts.{left_ends, one_less, store_rises}
use Rattle.object_store.proofs.store.Store.gather.Goals as goal

pub loop-death-init : goal.loop-death-init
loop-death-init c = (
  dying_starts c.args.self.now c.self.inside.slots.next
      (store_rises c.args.self.now c.self.inside.slots c.self.inside.arrays c.self.inside.counts c.self.inside.stopped c.self.view_is c.self.invariant.rising) c.args.dead.now c.requires.none
      c.requires.room,
  leaving_starts c.args.self.now c.self.inside.slots.next
      (store_rises c.args.self.now c.self.inside.slots c.self.inside.arrays c.self.inside.counts c.self.inside.stopped c.self.view_is c.self.invariant.rising) c.args.handles.now.items (vec_capacity c.args.handles.now)
      c.requires.no_handles c.requires.places,
  refl,
)

pub loop-death-preserved : goal.loop-death-preserved
loop-death-preserved c = (
  subst (λ (s : Stored). AreDying c.args.self.now s c.args.dead.now c.add.new.self) (sym c.in-Some.ensures.gone)
      (subst (λ (d : Ends). AreDying c.args.self.now (without c.in-Some.death.0 c.loop-death.self) c.args.dead.now d) (sym c.add.ensures)
      (dying_next c.args.self.now c.self.inside.slots.next
      (store_rises c.args.self.now c.self.inside.slots c.self.inside.arrays c.self.inside.counts c.self.inside.stopped c.self.view_is c.self.invariant.rising)
      c.loop-death.self c.args.dead.now c.loop-death.dead c.loop-death.invariant.0 c.in-Some.death.0 (memory_of c.in-Some.death.1) c.in-Some.ensures.unheld c.in-Some.ensures.block)),
  subst (λ (s : Stored). AreLeaving c.args.self.now s c.push_reserved.new.self.items (vec_capacity c.args.handles.now)) (sym c.in-Some.ensures.gone)
      (subst (λ handles. AreLeaving c.args.self.now (without c.in-Some.death.0 c.loop-death.self) handles (vec_capacity c.args.handles.now)) (sym c.push_reserved.ensures.items)
      (leaving_next c.args.self.now c.self.inside.slots.next
      (store_rises c.args.self.now c.self.inside.slots c.self.inside.arrays c.self.inside.counts c.self.inside.stopped c.self.view_is c.self.invariant.rising)
      c.loop-death.self c.args.dead.now c.loop-death.dead c.loop-death.invariant.0 c.loop-death.handles.items (vec_capacity c.args.handles.now) c.loop-death.invariant.1 c.in-Some.death.0
      c.in-Some.ensures.unheld)),
  c.push_reserved.ensures.capacity ∙ c.loop-death.invariant.2,
)

pub push_reserved-requires : goal.push_reserved-requires
push_reserved-requires c =
    let fits : length c.loop-death.handles.items < vec_capacity c.args.handles.now = leaving_fits c.args.self.now c.self.inside.slots.next
    (store_rises c.args.self.now c.self.inside.slots c.self.inside.arrays c.self.inside.counts c.self.inside.stopped c.self.view_is c.self.invariant.rising)
    c.loop-death.self c.args.dead.now c.loop-death.dead c.loop-death.invariant.0 c.loop-death.handles.items (vec_capacity c.args.handles.now) c.loop-death.invariant.1 c.in-Some.death.0
    c.in-Some.ensures.unheld in
    omega (arith, fits, c.loop-death.invariant.2)

pub loop-death-smaller : goal.loop-death-smaller
loop-death-smaller c =
    subst (λ (s : Stored). length s.state.objects < length c.loop-death.self.state.objects) (sym c.in-Some.ensures.gone)
    (one_less c.in-Some.death.0 c.loop-death.self.state.objects c.in-Some.ensures.unheld.there)

pub add-requires : goal.add-requires
add-requires c =
    dying_fits c.args.self.now c.self.inside.slots.next
    (store_rises c.args.self.now c.self.inside.slots c.self.inside.arrays c.self.inside.counts c.self.inside.stopped c.self.view_is c.self.invariant.rising)
    c.loop-death.self c.args.dead.now c.loop-death.dead c.loop-death.invariant.0 c.in-Some.death.0 (memory_of c.in-Some.death.1) c.in-Some.ensures.unheld c.in-Some.ensures.block

pub returns-clause-state : goal.returns-clause-state
returns-clause-state c =
    ap (λ (s : Stored). s.state) c.in_default.ensures.none
    ∙ left_ends c.args.self.now c.loop-death.self c.self.inside.slots.next
    (store_rises c.args.self.now c.self.inside.slots c.self.inside.arrays c.self.inside.counts c.self.inside.stopped c.self.view_is c.self.invariant.rising)
    c.loop-death.invariant.0.left (subst IsSettled c.in_default.ensures.none c.in_default.ensures.settled) c.requires.ranked

pub returns-clause-dead : goal.returns-clause-dead
returns-clause-dead c =
    dying_ends c.args.self.now c.self.inside.slots.next
    (store_rises c.args.self.now c.self.inside.slots c.self.inside.arrays c.self.inside.counts c.self.inside.stopped c.self.view_is c.self.invariant.rising)
    c.loop-death.self c.args.dead.now c.loop-death.dead c.loop-death.invariant.0 c.order.new.self.list c.order.ensures.same c.order.ensures.rising
    ∙ ap (λ (s : Stored). ended (gone c.args.self.now.state s.state)) (sym c.in_default.ensures.none)

pub returns-clause-notices : goal.returns-clause-notices
returns-clause-notices c =
    ap (filter_map notice_of)
    (dying_ends c.args.self.now c.self.inside.slots.next
    (store_rises c.args.self.now c.self.inside.slots c.self.inside.arrays c.self.inside.counts c.self.inside.stopped c.self.view_is c.self.invariant.rising)
    c.loop-death.self c.args.dead.now c.loop-death.dead c.loop-death.invariant.0 c.order.new.self.list c.order.ensures.same c.order.ensures.rising)
    ∙ told_of_ended (gone c.args.self.now.state c.loop-death.self.state)
    ∙ ap (λ (s : Stored). filter_map end_of_object (gone c.args.self.now.state s.state)) (sym c.in_default.ensures.none)

pub returns-clause-handles : goal.returns-clause-handles
returns-clause-handles c =
    leaving_ends c.args.self.now c.self.inside.slots.next
    (store_rises c.args.self.now c.self.inside.slots c.self.inside.arrays c.self.inside.counts c.self.inside.stopped c.self.view_is c.self.invariant.rising)
    c.loop-death.self c.args.dead.now c.loop-death.dead c.loop-death.invariant.0 c.loop-death.handles.items (vec_capacity c.args.handles.now) c.loop-death.invariant.1
    c.order_handles.new.handles.items c.order_handles.ensures.same c.order_handles.ensures.rising
    ∙ ap (λ (s : Stored). keys_of (gone c.args.self.now.state s.state)) (sym c.in_default.ensures.none)
