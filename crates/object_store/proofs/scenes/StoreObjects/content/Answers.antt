use Rattle.std.proofs.Common.{◌∙◌, sym}
use Rattle.object_store.proofs.Readers.{content_seen}
use Rattle.object_store.proofs.scenes.StoreObjects.content.Goals as goal

pub returns-clause-value : goal.returns-clause-value
returns-clause-value c = c.content.ensures.value ∙ sym (content_seen c.args.self.now.state c.args.h)
