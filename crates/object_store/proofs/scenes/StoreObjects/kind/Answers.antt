use Rattle.std.proofs.Common.{◌∙◌, sym}
use Rattle.object_store.proofs.Readers.{kind_seen}
use Rattle.object_store.proofs.scenes.StoreObjects.kind.Goals as goal

pub returns : goal.returns
returns c = c.kind_of.ensures ∙ sym (kind_seen c.args.self.now.state c.args.h)
