use Rattle.std.proofs.Common.{◌≡◌, sym, subst}
use Rattle.std.specs.Prelude.{vec_capacity, Result, Ok, Err, OnErr, OnOk}
use Rattle.object_store.specs.Kept.{Stored}
use Rattle.seq_model.specs.Steps.{discard}
use Rattle.object_steps.specs.Objects.{HasPlaces}
use Rattle.object_steps.proofs.Places.{places_discarded}
use Rattle.object_steps.proofs.objects.ObjectStore.discard.Goals as goal

pub invariant_of-self : goal.invariant_of-self
invariant_of-self c = by c.discard.result c.discard.ensures.ok c.discard.ensures.err
  where
    old : Stored
    old = c.self.inside.store

    by : {A B : Type 0} (r : Result A B) → OnOk r (c.discard.new.self ≡ record old { state = discard c.args.h old.state; places = c.discard.new.self.places }) → OnErr r (c.discard.new.self ≡ record old { places = c.discard.new.self.places })
        → HasPlaces c.discard.new.self c.self.inside.dead c.self.inside.count c.self.inside.tellable (vec_capacity c.self.inside.departed)
    by (Ok v) ok err = subst (λ s. HasPlaces s c.self.inside.dead c.self.inside.count c.self.inside.tellable (vec_capacity c.self.inside.departed)) (sym ok)
        (places_discarded c.args.h c.discard.new.self.places old c.self.inside.dead c.self.inside.count c.self.inside.tellable (vec_capacity c.self.inside.departed) c.self.invariant)
    by (Err e) ok err = subst (λ s. HasPlaces s c.self.inside.dead c.self.inside.count c.self.inside.tellable (vec_capacity c.self.inside.departed)) (sym err)
        (record { number = c.self.invariant.number; tellable = c.self.invariant.tellable; ends = c.self.invariant.ends; handles = c.self.invariant.handles })
