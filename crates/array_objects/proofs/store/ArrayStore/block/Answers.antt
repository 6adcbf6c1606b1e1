use Rattle.std.proofs.Common.{rules, ◌≡◌, Some}
use Rattle.array_objects.specs.Stores.{array_at}
use Rattle.array_objects.proofs.store.ArrayStore.block.Goals as goal

pub returns-clause-fits : goal.returns-clause-fits
returns-clause-fits c =
    let a = c.in_ok-get.field-0.now in
    let found : array_at c.self.inside.arrays.entries c.args.h ≡ Some a = search rules in
    c.self.invariant c.args.h a found
