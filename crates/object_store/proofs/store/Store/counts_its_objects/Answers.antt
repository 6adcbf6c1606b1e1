use Rattle.std.proofs.Common.{subst}
use Rattle.object_store.specs.Kept.{CountsItsObjects}
use Rattle.object_store.proofs.CountFacts.{counts_them}
use Rattle.object_store.proofs.store.Store.counts_its_objects.Goals as goal

pub returns : goal.returns
returns c = subst CountsItsObjects c.self.view_is (counts_them c.self.inside.slots c.self.inside.arrays c.self.inside.counts c.self.inside.stopped c.self.inside.bound c.self.invariant)
