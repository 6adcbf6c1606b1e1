use Rattle.device_laws.proofs.FlyFacts.{call_flown, discard_flown, looked_flown, note_flown, render_flown}
use Rattle.device_laws.proofs.flown_laws.kept_flights_are_those_of_the_history.Goals as goal

pub returns : goal.returns
returns c = record { looked = looked_flown; noted = note_flown; others = call_flown; rendered = render_flown; discarded = discard_flown }
