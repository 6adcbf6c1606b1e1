use Rattle.seq_model.specs.Steps.{fresh_array}
use Rattle.object_steps.proofs.CarryFacts.{block_there}
use Rattle.object_steps.proofs.changes.new_array.Goals as goal

pub new_array-requires-clause-named : goal.new_array-requires-clause-named
new_array-requires-clause-named c =
    block_there c.args.store.now.state c.in_ok-block.block (fresh_array c.args.elem c.args.count c.args.stride c.args.origin c.args.bytes.now) c.in_ok-block.ensures.array c.requires.named
