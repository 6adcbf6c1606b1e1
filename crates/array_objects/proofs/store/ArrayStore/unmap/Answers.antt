use Rattle.std.proofs.Common.{rules, ◌≡◌, IsTrue, length, subst, sym}
use Rattle.array_objects.specs.Stores.{array_at, changed_at, unmapped, IsOut}
use Rattle.array_objects.proofs.StoreFacts.{AllFit-changed, ChangesAt-changed, Fits-unmapped}
use Rattle.array_objects.proofs.store.ArrayStore.unmap.Goals as goal

pub invariant_of-self : goal.invariant_of-self
invariant_of-self c =
    let m = c.self.inside.arrays.entries in
    let lent = c.args.lent in
    let new : c.take_back.new.arrays.entries ≡ changed_at m lent.array (unmapped c.args.content) = search rules in
    let is_out : IsTrue c.is_out.result = search rules in
    let found : IsOut (array_at m lent.array) lent.number (length lent.elements.bytes) = rw (← c.self.view_is) at c.is_out.ensures.0 is_out in
    let out : IsOut (array_at m lent.array) lent.number (length c.args.content) = subst (λ n. IsOut (array_at m lent.array) lent.number n) (sym c.requires) found in
    rw new (AllFit-changed m lent.array (unmapped c.args.content) c.self.invariant (λ a at. Fits-unmapped m lent.array lent.number c.args.content c.self.invariant out a at))

pub returns-clause-changes : goal.returns-clause-changes
returns-clause-changes c =
    let m = c.self.inside.arrays.entries in
    let new : c.take_back.new.arrays.entries ≡ changed_at m c.args.lent.array (unmapped c.args.content) = search rules in
    rw (← c.self.view_is, new) (ChangesAt-changed m c.args.lent.array (unmapped c.args.content))
