use Rattle.std.proofs.Common.{rules}
use Rattle.past_laws.proofs.Answering.{answered_unless}
use Rattle.plain_device.specs.Views.{past_of}
use Rattle.plain_device.proofs.device.Device.waits_for.Goals as goal

pub returns-clause-answered : goal.returns-clause-answered
returns-clause-answered g c = answered_unless (past_of c.args.self.now) c.args.call.now c.waited_flight.result (search rules)
