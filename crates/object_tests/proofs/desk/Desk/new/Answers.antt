use Rattle.std.proofs.Common.{◌-◌, subst, sym, vec_capacity, vec_len}
use Rattle.object_tests.specs.Desks.{IsDesk}
use Rattle.object_tests.proofs.DeskFacts.{first}
use Rattle.object_tests.proofs.desk.Desk.new.Goals as goal

pub invariant_of-result-2 : goal.invariant_of-result-2
invariant_of-result-2 c =
    subst (λ h. IsDesk c.new.result h (vec_capacity c.new-3.result - vec_len c.new-3.result)) (sym c.new-2.ensures.items)
    (first c.new.result (vec_capacity c.new-3.result - vec_len c.new-3.result) c.new.ensures.state c.new.ensures.public c.new.ensures.holds c.new.ensures.dead)
