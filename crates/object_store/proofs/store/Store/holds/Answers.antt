use Rattle.std.proofs.Common.{◌∙◌, ap, sym}
use Rattle.std.specs.Option.{option_map_or}
use Rattle.object_store.specs.Parts.{Part}
use Rattle.object_store.proofs.Holdings.{held_at}
use Rattle.object_store.proofs.store.Store.holds.Goals as goal

pub returns-in-Some : goal.returns-in-Some
returns-in-Some c = c.holds.ensures ∙ ap (λ x. option_map_or (λ (p : Part). p.holds) x 0) c.in-Some.ensures.value ∙ sym (held_at c.args.self.now c.self.inside.slots c.self.inside.arrays c.self.inside.counts c.self.inside.stopped c.args.h c.self.view_is)

pub returns-in-None : goal.returns-in-None
returns-in-None c = ap (λ x. option_map_or (λ (p : Part). p.holds) x 0) c.in-None.ensures.value ∙ sym (held_at c.args.self.now c.self.inside.slots c.self.inside.arrays c.self.inside.counts c.self.inside.stopped c.args.h c.self.view_is)
