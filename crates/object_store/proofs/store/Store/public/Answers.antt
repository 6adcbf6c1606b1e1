use Rattle.std.proofs.Common.{◌∙◌, Some, ap, sym}
use Rattle.object_store.proofs.Readers.{no_public, object_is_there, public_read}
use Rattle.object_store.proofs.store.Store.public.Goals as goal

pub returns-then-not-is_there-clause-value : goal.returns-then-not-is_there-clause-value
returns-then-not-is_there-clause-value c = sym (no_public c.args.self.now c.self.inside.slots c.self.inside.arrays c.self.inside.counts c.self.inside.stopped c.args.h c.self.view_is (sym c.is_there.ensures ∙ c.if-not-is_there.true))

pub returns-then-not-is_there-clause-there : goal.returns-then-not-is_there-clause-there
returns-then-not-is_there-clause-there c = sym (object_is_there c.args.self.now c.self.inside.slots c.self.inside.arrays c.self.inside.counts c.self.inside.stopped c.args.h c.self.view_is ∙ sym c.is_there.ensures ∙ c.if-not-is_there.true)

pub returns-clause-value : goal.returns-clause-value
returns-clause-value c = ap Some c.public_of.ensures ∙ sym (public_read c.args.self.now c.self.inside.slots c.self.inside.arrays c.self.inside.counts c.self.inside.stopped c.args.h c.self.view_is (sym c.is_there.ensures ∙ c.if-not-is_there.false))

pub returns-clause-there : goal.returns-clause-there
returns-clause-there c = sym (object_is_there c.args.self.now c.self.inside.slots c.self.inside.arrays c.self.inside.counts c.self.inside.stopped c.args.h c.self.view_is ∙ sym c.is_there.ensures ∙ c.if-not-is_there.false)
