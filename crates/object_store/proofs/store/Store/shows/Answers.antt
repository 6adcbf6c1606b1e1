use Rattle.std.proofs.Common.{◌∙◌, ap, sym}
use Rattle.std.specs.Option.{option_map_or}
use Rattle.seq_model.specs.State.{Empty, Object}
use Rattle.object_store.proofs.PartFacts.{read_none, read_some}
use Rattle.object_store.proofs.store.Store.shows.Goals as goal

pub returns-in-Some : goal.returns-in-Some
returns-in-Some c =
    c.shows.ensures
    ∙ sym (ap (λ x. option_map_or (λ (o : Object). o.phase) x Empty)
    (read_some c.args.self.now c.self.inside.slots c.self.inside.arrays c.self.inside.counts c.self.inside.stopped c.args.h c.in-Some.slot.now c.self.view_is c.in-Some.ensures.value))

pub returns-in-None : goal.returns-in-None
returns-in-None c =
    sym (ap (λ x. option_map_or (λ (o : Object). o.phase) x Empty) (read_none c.args.self.now c.self.inside.slots c.self.inside.arrays c.self.inside.counts c.self.inside.stopped c.args.h c.self.view_is c.in-None.ensures.value))
