use Rattle.std.proofs.Common.{sym}
use Rattle.std.specs.Option.{option_and_then}
use Rattle.past_laws.specs.Suits.{taken_array}
use Rattle.seq_model.specs.Life.{names_of}
use Rattle.seq_model.specs.State.{ParameterLoan, object_at, parameter_loan}
use Rattle.object_steps.specs.Carrying.{AreThere}
use Rattle.object_steps.proofs.CarryFacts.{block_there, of_some}
use Rattle.object_steps.proofs.changes.take_in.Goals as goal

pub take_in-requires-clause-named : goal.take_in-requires-clause-named
take_in-requires-clause-named c =
    block_there c.args.store.now.state c.in_ok-block.block (taken_array c.in-Some.loan.now c.args.bytes.now) c.in_ok-block.ensures.array
    (of_some (λ (l : ParameterLoan). AreThere c.args.store.now.state (names_of (taken_array l c.args.bytes.now)))
    (option_and_then (λ o. parameter_loan c.args.number o.parameter_loans) (object_at c.args.store.now.state c.args.h)) c.in-Some.loan.now (sym c.in-Some.ensures) c.requires.named)
