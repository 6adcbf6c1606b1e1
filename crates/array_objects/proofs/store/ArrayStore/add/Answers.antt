use Rattle.std.proofs.Common.{◌≡◌, None, subst}
use Rattle.array_objects.specs.declared.arrays.Array.{Array}
use Rattle.array_objects.specs.Stores.{Fits}
use Rattle.array_objects.proofs.StoreFacts.{ChangesAt-update, AllFit-update}
use Rattle.array_objects.proofs.store.ArrayStore.add.Goals as goal

pub invariant_of-self : goal.invariant_of-self
invariant_of-self c =
    AllFit-update c.self.inside.arrays.entries c.insert.new.self.entries c.args.h _ c.self.invariant
    (λ a is. let same : record { block = c.args.block; loan = None } ≡ a = cc in subst (λ (x : Array). Fits x.block) same c.requires.fits)
    (λ q. c.in-Ok.ensures.updates.0 q)

pub returns-in-Ok-clause-changes : goal.returns-in-Ok-clause-changes
returns-in-Ok-clause-changes c =
    rw (← c.self.view_is) (ChangesAt-update c.self.inside.arrays.entries c.insert.new.self.entries c.args.h _ (λ q. c.in-Ok.ensures.updates.0 q))
