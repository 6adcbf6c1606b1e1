use Rattle.std.proofs.Common.{◌+◌, ◌∙◌, ap, sym, subst, arith}
use Rattle.std.specs.Prelude.{vec_capacity}
use Rattle.object_steps.specs.Carrying.{CanCarry, carried}
use Rattle.object_steps.specs.Objects.{HasPlaces, Objects, is_birth, one_if, takes_memory}
use Rattle.object_store.specs.Kept.{Stored}
use Rattle.seq_model.specs.Told.{end_of_object}
use Rattle.object_steps.proofs.Places.{most_collected, places_after}
use Rattle.object_steps.proofs.objects.ObjectStore.carry_out.Goals as goal

pub overflow_add-self-2 : goal.overflow_add-self-2
overflow_add-self-2 c =
    let has : HasPlaces (carried c.args.place c.args.call.now c.args.reply.now c.self.inside.store) c.self.inside.dead (c.self.inside.count + one_if (is_birth c.args.call.now c.args.reply.now)) (c.self.inside.tellable + one_if (takes_memory c.args.call.now c.args.reply.now)) (vec_capacity c.self.inside.departed) =
    places_after c.args.place c.args.call.now c.args.reply.now c.self.inside.store c.self.inside.dead c.self.inside.count c.self.inside.tellable (vec_capacity c.self.inside.departed)
    (subst (λ (o : Objects). CanCarry o.stored c.args.call.now c.args.reply.now) (sym c.self.view_is) c.requires.can) c.self.invariant in
    let most = most_collected end_of_object (carried c.args.place c.args.call.now c.args.reply.now c.self.inside.store).state.objects in
    let one = c.one_if-2.ensures in
    let memory = ap one_if c.takes_memory.ensures in
    omega (arith, has.number, has.tellable, most, one, memory, has.handles, c.self.ranges)

pub invariant_of-self-2 : goal.invariant_of-self-2
invariant_of-self-2 c =
    subst (λ (s : Stored). HasPlaces s c.self.inside.dead (c.self.inside.count + c.one_if.result) (c.self.inside.tellable + c.one_if-2.result) (vec_capacity c.self.inside.departed)) (sym c.in-Ok.ensures.ok)
    (subst (λ n. HasPlaces (carried c.args.place c.args.call.now c.args.reply.now c.self.inside.store) c.self.inside.dead (c.self.inside.count + n) (c.self.inside.tellable + c.one_if-2.result) (vec_capacity c.self.inside.departed)) (sym (c.one_if.ensures ∙ ap one_if c.is_birth.ensures))
    (subst (λ n. HasPlaces (carried c.args.place c.args.call.now c.args.reply.now c.self.inside.store) c.self.inside.dead (c.self.inside.count + one_if (is_birth c.args.call.now c.args.reply.now)) (c.self.inside.tellable + n) (vec_capacity c.self.inside.departed)) (sym (c.one_if-2.ensures ∙ ap one_if c.takes_memory.ensures))
    (places_after c.args.place c.args.call.now c.args.reply.now c.self.inside.store c.self.inside.dead c.self.inside.count c.self.inside.tellable (vec_capacity c.self.inside.departed)
    (subst (λ (o : Objects). CanCarry o.stored c.args.call.now c.args.reply.now) (sym c.self.view_is) c.requires.can) c.self.invariant)))
