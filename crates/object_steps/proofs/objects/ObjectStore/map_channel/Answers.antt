use Rattle.std.proofs.Common.{◌≡◌, refl, sym, subst}
use Rattle.std.specs.Prelude.{vec_capacity, Result, Ok, Err, OnErr, OnOk}
use Rattle.object_store.specs.Kept.{Stored}
use Rattle.seq_model.specs.State.{changed_at}
use Rattle.seq_model.specs.Steps.{map_channel}
use Rattle.object_steps.specs.Objects.{HasPlaces}
use Rattle.object_steps.proofs.Places.{places_changed}
use Rattle.object_steps.proofs.objects.ObjectStore.map_channel.Goals as goal

pub invariant_of-self : goal.invariant_of-self
invariant_of-self c = by c.map_channel.result c.map_channel.ensures.ok c.map_channel.ensures.err
  where
    old : Stored
    old = c.self.inside.store

    by : {A B : Type 0} (r : Result A B) → OnOk r (c.map_channel.new.self ≡ record old { state = changed_at c.args.h (map_channel c.args.channel c.args.number) old.state }) → OnErr r (c.map_channel.new.self ≡ old)
        → HasPlaces c.map_channel.new.self c.self.inside.dead c.self.inside.count c.self.inside.tellable (vec_capacity c.self.inside.departed)
    by (Ok v) ok err = subst (λ s. HasPlaces s c.self.inside.dead c.self.inside.count c.self.inside.tellable (vec_capacity c.self.inside.departed)) (sym ok)
        (places_changed c.args.h (map_channel c.args.channel c.args.number) old c.self.inside.dead c.self.inside.count c.self.inside.tellable (vec_capacity c.self.inside.departed) (λ o. refl) c.self.invariant)
    by (Err e) ok err = subst (λ s. HasPlaces s c.self.inside.dead c.self.inside.count c.self.inside.tellable (vec_capacity c.self.inside.departed)) (sym err) c.self.invariant
