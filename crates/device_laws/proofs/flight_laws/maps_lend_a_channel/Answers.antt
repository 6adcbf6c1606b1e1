use Rattle.device_laws.proofs.PhaseFacts.{map_lends}
use Rattle.device_laws.proofs.flight_laws.maps_lend_a_channel.Goals as goal

pub returns : goal.returns
returns c = map_lends
