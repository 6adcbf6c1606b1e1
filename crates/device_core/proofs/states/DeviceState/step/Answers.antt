use Rattle.device_core.proofs.CauseFacts.{full_alone}
use Rattle.device_core.proofs.states.DeviceState.step.Goals as goal

pub returns-in-Err-clause-full_alone : goal.returns-in-Err-clause-full_alone
returns-in-Err-clause-full_alone g c = λ needs some.
    full_alone c.args.call c.in-Err.refused.0 c.args.self.now c.make.new.self
    (record { settled = c.sweep_before.new.self; first = c.sweep_before.ensures.swept; declines = c.in-Err.ensures.declined }) needs some
