use Rattle.std.proofs.Common.{refl, subst}
use Rattle.turn_lock.specs.Passes.{seen}
use Rattle.device_calls.specs.Working.{IsHandout}
use Rattle.device_calls.proofs.WorkFacts.{has_given}
use Rattle.device_calls.proofs.device.Device.work_or_late.Goals as goal

pub returns-then-give_one-clause-worked : goal.returns-then-give_one-clause-worked
returns-then-give_one-clause-worked g c =
    let history = seen c.take_work.new.pass in
    has_given history c.in-Work.ticket c.in-Work.work c.give_one.new.work (subst (IsHandout history) c.in-Work.is c.in-Ok.ensures.work)
    c.give_one.ensures.rest c.give_one.ensures.seat (c.if-give_one.ensures.gave refl)
