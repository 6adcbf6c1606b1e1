use Rattle.std.proofs.Common.{rules}
use Rattle.plain_journal.proofs.NoteFacts.{open_after}
use Rattle.seq_model.specs.Endings.{reply_to}
use Rattle.plain_device.proofs.device.Device.step.Goals as goal

pub invariant_of-self : goal.invariant_of-self
invariant_of-self g c = (
  open_after c.self.inside.record c.step.new.past c.args.actor c.args.call (reply_to c.self.inside.record c.args.call) c.step.result c.self.invariant.0 c.step.ensures.entered (search rules),
  c.step.ensures.room,
)
