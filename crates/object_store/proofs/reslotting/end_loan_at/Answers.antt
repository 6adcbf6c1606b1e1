use Rattle.std.proofs.Common.{◌+◌, ◌≡◌, ap, length, sym, subst}
use Rattle.std.specs.Option.{IfSome}
use Rattle.handle_table.specs.HandleMaps.{with_value as with_slot}
use Rattle.object_store.specs.Parts.{Part, end_in}
use Rattle.object_store.proofs.reslotting.end_loan_at.Goals as goal

pub returns-clause-changes : goal.returns-clause-changes
returns-clause-changes c = record { part = c.in-Some.slot.now; there = sym c.in-Some.ensures.value; changed = ap (with_slot c.args.slots.now c.args.h) c.end_loan.ensures.part }

pub returns-clause-count : goal.returns-clause-count
returns-clause-count c =
    subst (λ x. IfSome x (λ (p : Part). c.end_loan.result + length (end_in c.args.number p).loans ≡ length p.loans)) c.in-Some.ensures.value
    (subst (λ (q : Part). c.end_loan.result + length q.loans ≡ length c.in-Some.slot.now.loans) c.end_loan.ensures.part c.end_loan.ensures.count)
