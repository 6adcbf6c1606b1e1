use Rattle.std.proofs.Common.{List, reverse, subst, sym}
use Rattle.std.specs.List.Sorted.{IsPermutation}
use Rattle.object_store.specs.Ends.{Ended, Ends}
use Rattle.object_store.proofs.Reversed.{reordered}
use Rattle.object_store.proofs.dead.Dead.order.Goals as goal

pub returns-clause-same : goal.returns-clause-same
returns-clause-same c =
    subst (λ (d : Ends). IsPermutation d.list (reverse c.turn_round.new.ended.items)) c.self.view_is
    (subst (λ (items : List Ended). IsPermutation (reverse c.self.inside.ended.items) (reverse items)) (sym c.turn_round.ensures.items)
    (reordered c.self.inside.ended.items c.order_by_handle.new.ended.items c.order_by_handle.ensures.same))
