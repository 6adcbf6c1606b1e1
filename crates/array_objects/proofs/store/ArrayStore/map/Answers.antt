use Rattle.std.proofs.Common.{ap, ◌∙◌}
use Rattle.array_objects.specs.Stores.{block_at, mapped}
use Rattle.array_objects.proofs.StoreFacts.{AllFit-changed, ChangesAt-changed, block_at-mapped}
use Rattle.array_objects.proofs.store.ArrayStore.map.Goals as goal

pub invariant_of-self : goal.invariant_of-self
invariant_of-self c =
    rw c.note_loan.ensures (AllFit-changed c.self.inside.arrays.entries c.args.h (mapped c.args.number) c.self.invariant (λ a at. c.self.invariant c.args.h a at))

pub returns-clause-changes : goal.returns-clause-changes
returns-clause-changes c =
    rw (← c.self.view_is, c.note_loan.ensures) (ChangesAt-changed c.self.inside.arrays.entries c.args.h (mapped c.args.number))

pub returns-clause-same_content : goal.returns-clause-same_content
returns-clause-same_content c =
    rw (← c.self.view_is) (ap (λ m. block_at m c.args.h) c.note_loan.ensures ∙ block_at-mapped c.self.inside.arrays.entries c.args.h c.args.number)
