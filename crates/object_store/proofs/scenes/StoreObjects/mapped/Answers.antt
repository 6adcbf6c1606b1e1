use Rattle.std.proofs.Common.{◌∙◌, ap, sym}
use Rattle.std.specs.Option.{is_some}
use Rattle.object_store.proofs.Readers.{mapped_seen}
use Rattle.object_store.proofs.scenes.StoreObjects.mapped.Goals as goal

pub returns : goal.returns
returns c = c.is_some.ensures ∙ ap is_some c.array_loan.ensures ∙ sym (mapped_seen c.args.self.now.state c.args.h)
