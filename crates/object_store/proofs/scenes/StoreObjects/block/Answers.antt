use Rattle.std.proofs.Common.{◌∙◌, sym}
use Rattle.object_store.proofs.Readers.{bytes_seen}
use Rattle.object_store.proofs.scenes.StoreObjects.block.Goals as goal

pub returns : goal.returns
returns c = c.bytes.ensures ∙ sym (bytes_seen c.args.self.now.state c.args.h)
