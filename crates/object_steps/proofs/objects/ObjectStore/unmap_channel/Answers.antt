use Rattle.std.proofs.Common.{refl, sym, subst}
use Rattle.std.specs.Prelude.{vec_capacity}
use Rattle.seq_model.specs.Steps.{unmap_channel}
use Rattle.object_steps.specs.Objects.{HasPlaces}
use Rattle.object_steps.proofs.Places.{places_changed}
use Rattle.object_steps.proofs.objects.ObjectStore.unmap_channel.Goals as goal

pub invariant_of-self : goal.invariant_of-self
invariant_of-self c =
    subst (λ s. HasPlaces s c.self.inside.dead c.self.inside.count c.self.inside.tellable (vec_capacity c.self.inside.departed)) (sym c.unmap_channel.ensures)
    (places_changed c.args.h (unmap_channel c.args.number) c.self.inside.store c.self.inside.dead c.self.inside.count c.self.inside.tellable (vec_capacity c.self.inside.departed) (λ o. refl) c.self.invariant)
