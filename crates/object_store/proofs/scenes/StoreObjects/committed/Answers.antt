use Rattle.std.proofs.Common.{◌∙◌, sym}
use Rattle.object_store.proofs.Readers.{committed_seen}
use Rattle.object_store.proofs.scenes.StoreObjects.committed.Goals as goal

pub returns : goal.returns
returns c = c.committed.ensures ∙ sym (committed_seen c.args.self.now.state c.args.h c.args.name.now)
