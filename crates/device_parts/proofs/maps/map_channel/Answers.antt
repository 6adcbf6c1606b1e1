use Rattle.device_parts.proofs.UndoFacts.{undone}
use Rattle.device_parts.proofs.maps.map_channel.Goals as goal

pub returns-in_default-map_channel-clause-flights_kept : goal.returns-in_default-map_channel-clause-flights_kept
returns-in_default-map_channel-clause-flights_kept c =
    undone c.args.h c.args.number c.args.channel c.in-Ok.mapping.loan c.args.flights.now c.lend_channel.new.flights c.end_loan.new.self c.requires.granted
    c.in-Ok.ensures.lent c.end_loan.ensures
