use Rattle.std.proofs.Common.{◌∙◌, sym}
use Rattle.std.specs.Option.{option_map}
use Rattle.seq_model.specs.State.{ArrayState}
use Rattle.array_objects.specs.Stores.{array_at}
use Rattle.object_store.proofs.Readers.{elements_read, read_array, read_gone}
use Rattle.scene_read.specs.Reading.{lent as lent_block}
use Rattle.object_store.proofs.store.Store.content.Goals as goal

pub returns-then-not-is_there-clause-value : goal.returns-then-not-is_there-clause-value
returns-then-not-is_there-clause-value c = sym (read_gone c.args.self.now c.self.inside.slots c.self.inside.arrays c.self.inside.counts c.self.inside.stopped c.args.h (option_map (λ (a : ArrayState). lent_block a.block)) c.self.view_is (sym c.is_there.ensures ∙ c.if-not-is_there.true))

pub returns-clause-value : goal.returns-clause-value
returns-clause-value c =
    c.view.ensures ∙ elements_read (array_at c.self.inside.arrays c.args.h)
    ∙ sym (read_array c.args.self.now c.self.inside.slots c.self.inside.arrays c.self.inside.counts c.self.inside.stopped c.args.h (option_map (λ (a : ArrayState). lent_block a.block)) c.self.view_is (sym c.is_there.ensures ∙ c.if-not-is_there.false))
