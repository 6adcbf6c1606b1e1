use Rattle.std.proofs.Common.{ap, arith}
use Rattle.std.specs.Prelude.{vec_capacity}
use Rattle.object_store.specs.Ends.{ended_of}
use Rattle.object_store.specs.Kept.{Stored}
use Rattle.object_steps.proofs.Places.{most_collected, places_cleared}
use Rattle.object_steps.proofs.objects.ObjectStore.clear.Goals as goal

pub clear-requires-2-clause-room : goal.clear-requires-2-clause-room
clear-requires-2-clause-room g c = omega (arith, most_collected ended_of c.self.inside.store.state.objects, c.self.invariant.number, c.self.invariant.ends)

pub invariant_of-self : goal.invariant_of-self
invariant_of-self g c =
    places_cleared c.self.inside.store c.clear-2.new.self c.self.inside.dead c.clear-2.new.dead c.self.inside.count c.self.inside.tellable (vec_capacity c.self.inside.departed) (vec_capacity c.clear.new.self) c.self.invariant
    (ap (λ (s : Stored). s.state.objects) c.clear-2.ensures.store) (ap (λ (s : Stored). s.ready) c.clear-2.ensures.store) c.clear-2.ensures.dead
