use Rattle.std.proofs.Common.{◌∙◌}
use Rattle.device_calls.proofs.CloseFacts.{same_places}
use Rattle.device_calls.proofs.device.Device.close.Goals as goal

pub returns-clause-mine : goal.returns-clause-mine
returns-clause-mine g c = c.close.ensures.mine ∙ same_places c.close.result.parts.history c.close-2.result.journal c.close-2.ensures.journal
