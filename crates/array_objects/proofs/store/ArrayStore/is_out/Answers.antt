use Rattle.std.proofs.Common.{rules, ◌≡◌, Some, None, IsTrue, false, true≢false, length, subst, sym}
use Rattle.array_objects.specs.Stores.{array_at, IsOut}
use Rattle.array_objects.proofs.store.ArrayStore.is_out.Goals as goal

pub returns-in-Some : goal.returns-in-Some
returns-in-Some c =
    let lent = c.args.lent.now in
    let found : array_at c.args.self.now lent.array ≡ Some c.in-Some.array.now = search rules in
    subst (λ o. (IsTrue c.is_out.result → IsOut o lent.number (length lent.elements.bytes)) × (IsOut o lent.number (length lent.elements.bytes) → IsTrue c.is_out.result)) (sym found) c.is_out.ensures

pub returns-in-None : goal.returns-in-None
returns-in-None c =
    let lent = c.args.lent.now in
    let absent : array_at c.args.self.now lent.array ≡ None = search rules in
    subst (λ o. (IsTrue false → IsOut o lent.number (length lent.elements.bytes)) × (IsOut o lent.number (length lent.elements.bytes) → IsTrue false)) (sym absent) ((λ t. absurd (true≢false (sym t))), (λ none. absurd none))
