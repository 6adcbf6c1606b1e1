use Rattle.device_calls.proofs.PassFacts.{sees_through}
use Rattle.device_calls.proofs.device.Device.work_with.Goals as goal

pub returns-in-Some-work_or_late-clause-sees : goal.returns-in-Some-work_or_late-clause-sees
returns-in-Some-work_or_late-clause-sees g c =
    let before = c.loop.invariant in
    sees_through c.args.pass.now c.loop.pass c.work_or_late.new.pass before.4 before.5 before.6 before.7 c.work_or_late.ensures.sees
