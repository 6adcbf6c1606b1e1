use Rattle.std.proofs.Common.{◌≡◌, ◌≤◌, ◌∙◌, ◌∷◌, ◌++◌, [], None, false, ap, subst}
use Rattle.std.specs.Option.{IsSome}
use Rattle.ref_counts.specs.CountMaps.{counts_at}
use Rattle.seq_model.specs.State.{with_object}
use Rattle.seq_model.specs.Steps.{fresh}
use Rattle.object_store.specs.Kept.{Stored, stored}
use Rattle.object_store.proofs.Births.{one_fresh, parts_fresh, ready_parts, stored_fresh}
use Rattle.object_store.proofs.store.Store.new_object.Goals as goal

pub insert-requires : goal.insert-requires
insert-requires c = (ready_parts c.self.inside.slots.spare (counts_at c.self.inside.counts c.self.inside.slots.next) (ap (λ (s : Stored). s.ready) c.self.view_is ∙ c.requires)).0

pub invariant_of-self : goal.invariant_of-self
invariant_of-self c =
    let ready : (1 ≤ c.self.inside.slots.spare) × IsSome (counts_at c.self.inside.counts c.self.inside.slots.next) =
    ready_parts c.self.inside.slots.spare (counts_at c.self.inside.counts c.self.inside.slots.next) (ap (λ (s : Stored). s.ready) c.self.view_is ∙ c.requires) in
    parts_fresh c.self.inside.slots c.insert.new.self c.self.inside.arrays c.self.inside.counts c.self.inside.bound c.args.kind c.self.invariant
    (one_fresh c.self.inside.slots c.insert.new.self c.insert.result c.args.kind c.new.result c.insert.ensures.entries c.insert.ensures.handle c.new.ensures) c.insert.ensures.next ready.1

pub returns-clause-store : goal.returns-clause-store
returns-clause-store c =
    let ready : (1 ≤ c.self.inside.slots.spare) × IsSome (counts_at c.self.inside.counts c.self.inside.slots.next) =
    ready_parts c.self.inside.slots.spare (counts_at c.self.inside.counts c.self.inside.slots.next) (ap (λ (s : Stored). s.ready) c.self.view_is ∙ c.requires) in
    subst (λ (s : Stored). stored c.insert.new.self c.self.inside.arrays c.self.inside.counts c.self.inside.stopped ≡ record {
      state = with_object (fresh c.args.kind None) s.state;
      public = s.public ++ (s.state.next, 1) ∷ [];
      holds = s.holds ++ (s.state.next, 0) ∷ [];
      ready = false;
      places = s.places;
    }) c.self.view_is
    (stored_fresh c.self.inside.slots c.insert.new.self c.self.inside.arrays c.self.inside.counts c.self.inside.bound c.self.inside.stopped c.args.kind c.self.invariant
    (one_fresh c.self.inside.slots c.insert.new.self c.insert.result c.args.kind c.new.result c.insert.ensures.entries c.insert.ensures.handle c.new.ensures) c.insert.ensures.next ready.1)
