use Rattle.std.proofs.Common.{◌∙◌, length, ap, sym, subst, arith}
use Rattle.std.specs.Prelude.{vec_capacity}
use Rattle.object_store.specs.Ends.{ended_of}
use Rattle.seq_model.specs.Soundness.{IsRanked}
use Rattle.object_steps.specs.Objects.{Objects}
use Rattle.object_steps.proofs.Places.{left_and_gone, most_collected, places_left}
use Rattle.object_steps.proofs.Tellables.{fewer_told}
use Rattle.object_steps.proofs.objects.ObjectStore.gather.Goals as goal

pub gather-requires-clause-ranked : goal.gather-requires-clause-ranked
gather-requires-clause-ranked c = subst (λ (o : Objects). IsRanked o.stored.state.objects) (sym c.self.view_is) c.requires.ranked

pub gather-requires-clause-room : goal.gather-requires-clause-room
gather-requires-clause-room c = omega (arith, most_collected ended_of c.self.inside.store.state.objects, c.self.invariant.number, c.self.invariant.ends)

pub overflow_sub-self : goal.overflow_sub-self
overflow_sub-self c =
    omega (arith, c.len.ensures, ap length c.gather.ensures.handles, left_and_gone c.self.inside.store c.gather.new.self c.gather.ensures.left, c.self.invariant.number)

pub overflow_sub-self-2 : goal.overflow_sub-self-2
overflow_sub-self-2 c =
    omega (arith, c.notices.ensures, ap length c.gather.ensures.notices, fewer_told c.self.inside.store c.gather.new.self c.gather.ensures.left, c.self.invariant.tellable)

pub invariant_of-self : goal.invariant_of-self
invariant_of-self c =
    places_left c.self.inside.store c.gather.new.self c.self.inside.dead c.gather.new.dead c.self.inside.count c.self.inside.tellable (vec_capacity c.self.inside.departed) (vec_capacity c.gather.new.handles) c.gather.ensures.left c.self.invariant
    c.gather.ensures.dead c.gather.ensures.notices c.gather.ensures.room (c.gather.ensures.places ∙ c.clear.ensures.capacity) c.len.result
    (omega (arith, c.len.ensures, ap length c.gather.ensures.handles)) c.notices.result c.notices.ensures
