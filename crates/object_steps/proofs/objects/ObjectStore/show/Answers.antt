use Rattle.std.proofs.Common.{refl, sym, subst}
use Rattle.std.specs.Prelude.{vec_capacity}
use Rattle.object_store.specs.Phases.{phase_of}
use Rattle.seq_model.specs.Steps.{set_phase}
use Rattle.object_steps.specs.Objects.{HasPlaces}
use Rattle.object_steps.proofs.Places.{places_changed}
use Rattle.object_steps.proofs.objects.ObjectStore.show.Goals as goal

pub invariant_of-self : goal.invariant_of-self
invariant_of-self c =
    subst (λ s. HasPlaces s c.self.inside.dead c.self.inside.count c.self.inside.tellable (vec_capacity c.self.inside.departed)) (sym c.show.ensures)
    (places_changed c.args.h (set_phase (phase_of c.args.shows)) c.self.inside.store c.self.inside.dead c.self.inside.count c.self.inside.tellable (vec_capacity c.self.inside.departed) (λ o. refl) c.self.invariant)
