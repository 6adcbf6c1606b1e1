use Rattle.std.proofs.Common.{◌∙◌, sym}
use Rattle.std.specs.Option.{option_and_then}
use Rattle.seq_model.specs.State.{ArrayState}
use Rattle.array_objects.specs.Stores.{array_at}
use Rattle.object_store.proofs.Readers.{loan_read, read_array, read_gone}
use Rattle.object_store.proofs.store.Store.array_loan.Goals as goal

pub returns-then-not-is_there : goal.returns-then-not-is_there
returns-then-not-is_there c = sym (read_gone c.args.self.now c.self.inside.slots c.self.inside.arrays c.self.inside.counts c.self.inside.stopped c.args.h (option_and_then (λ (a : ArrayState). a.loan)) c.self.view_is (sym c.is_there.ensures ∙ c.if-not-is_there.true))

pub returns : goal.returns
returns c =
    c.loan.ensures ∙ loan_read (array_at c.self.inside.arrays c.args.h)
    ∙ sym (read_array c.args.self.now c.self.inside.slots c.self.inside.arrays c.self.inside.counts c.self.inside.stopped c.args.h (option_and_then (λ (a : ArrayState). a.loan)) c.self.view_is (sym c.is_there.ensures ∙ c.if-not-is_there.false))
