use Rattle.std.proofs.Common.{◌∙◌, Some, ap, sym}
use Rattle.std.specs.Option.{option_map}
use Rattle.seq_model.specs.State.{Object}
use Rattle.object_store.proofs.PartFacts.{read_none, read_some}
use Rattle.object_store.proofs.store.Store.kind_of.Goals as goal

pub returns-in_err-get : goal.returns-in_err-get
returns-in_err-get c =
    let at = read_none c.args.self.now c.self.inside.slots c.self.inside.arrays c.self.inside.counts c.self.inside.stopped c.args.h c.self.view_is c.in_err-get.ensures.value in
    c.from_residual.ensures ∙ sym (ap (option_map (λ (o : Object). o.kind)) at)

pub returns : goal.returns
returns c =
    let at = read_some c.args.self.now c.self.inside.slots c.self.inside.arrays c.self.inside.counts c.self.inside.stopped c.args.h c.in_ok-get.field-0.now c.self.view_is c.in_ok-get.ensures.value in
    ap Some c.kind.ensures ∙ sym (ap (option_map (λ (o : Object). o.kind)) at)
