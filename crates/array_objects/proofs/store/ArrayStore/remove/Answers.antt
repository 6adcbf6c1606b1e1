use Rattle.std.proofs.Common.{rules, ◌≡◌, Some, None}
use Rattle.array_objects.specs.Stores.{array_at}
use Rattle.std.proofs.lemmas.Option.{none-some}
use Rattle.array_objects.proofs.StoreFacts.{ChangesAt-update, AllFit-update}
use Rattle.array_objects.proofs.store.ArrayStore.remove.Goals as goal

pub invariant_of-self : goal.invariant_of-self
invariant_of-self c =
    AllFit-update c.self.inside.arrays.entries c.remove.new.self.entries c.args.h None c.self.invariant
    (λ a is. absurd (none-some a is)) (λ q. c.remove.ensures.updates.0 q)

pub invariant_of-self-2 : goal.invariant_of-self-2
invariant_of-self-2 c =
    AllFit-update c.self.inside.arrays.entries c.remove.new.self.entries c.args.h None c.self.invariant
    (λ a is. absurd (none-some a is)) (λ q. c.remove.ensures.updates.0 q)

pub returns-clause-changes : goal.returns-clause-changes
returns-clause-changes c =
    rw (← c.self.view_is) (ChangesAt-update c.self.inside.arrays.entries c.remove.new.self.entries c.args.h None (λ q. c.remove.ensures.updates.0 q))

pub returns-clause-fits : goal.returns-clause-fits
returns-clause-fits c =
    let found : array_at c.self.inside.arrays.entries c.args.h ≡ Some c.in_ok-remove.field-0 = search rules in
    c.self.invariant c.args.h c.in_ok-remove.field-0 found
