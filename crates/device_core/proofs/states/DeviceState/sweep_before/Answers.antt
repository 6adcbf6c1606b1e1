use Rattle.std.proofs.Common.{◌∙◌}
use Rattle.seq_model.specs.Steps.{after}
use Rattle.device_core.proofs.AwakeFacts.{awake_answered, awake_swept}
use Rattle.device_core.proofs.states.DeviceState.sweep_before.Goals as goal

pub returns-clause-awake : goal.returns-clause-awake
returns-clause-awake g c =
    let old = c.args.self.now.parts in
    let new = c.sweep.new.self.parts in
    let going = c.sweep.ensures.swept.ending ∙ c.requires.going in
    awake_answered (after new.history) c.args.call.now
    (awake_swept old new c.args.call.now c.is_device.ensures.parts c.is_device-2.ensures.parts (c.is_device.ensures.state.stands c.requires.going) (c.is_device-2.ensures.state.stands going) c.sweep.ensures.swept.parts c.requires.awake)
