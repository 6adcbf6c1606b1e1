use Rattle.std.proofs.Common.{List, ℕ, subst, sym}
use Rattle.object_store.specs.Parts.{named_with}
use Rattle.seq_model.specs.State.{object_at}
use Rattle.object_steps.specs.Carrying.{AreThere}
use Rattle.object_steps.proofs.CarryFacts.{named_there}
use Rattle.object_steps.proofs.changes.take_back.Goals as goal

pub unmap_array-requires-clause-named : goal.unmap_array-requires-clause-named
unmap_array-requires-clause-named c =
    named_there c.args.store.now.state (named_with c.in-Ok.content (object_at c.args.store.now.state c.args.lent.array))
    (subst (λ (bytes : List ℕ). AreThere c.args.store.now.state (named_with bytes (object_at c.args.store.now.state c.args.lent.array))) (sym c.in-Ok.ensures) c.requires.named)
