use Rattle.std.proofs.Common.{sym, subst}
use Rattle.frame_future.specs.Mapped.{Mapped}
use Rattle.device_parts.specs.Maps.{HasLent}
use Rattle.device_parts.proofs.UndoFacts.{lent_by, none_awaited, undone}
use Rattle.device_parts.proofs.maps.lend_channel.Goals as goal

pub map-requires : goal.map-requires
map-requires c = none_awaited c.args.flights.now.future c.args.h c.args.channel c.requires.granted

pub returns-clause-lent : goal.returns-clause-lent
returns-clause-lent c =
    subst (λ (m : Mapped). HasLent c.args.h c.args.channel c.args.number m c.args.flights.now c.map.new.self) (sym c.in-Ok-mapping_of.ensures.loan)
    (lent_by c.args.h c.args.number c.args.channel c.in-Ok.loan c.args.flights.now c.map.new.self c.in-Ok.ensures.loan c.in-Ok.ensures.lent)

pub returns-in_default-mapping_of-clause-err : goal.returns-in_default-mapping_of-clause-err
returns-in_default-mapping_of-clause-err c =
    undone c.args.h c.args.number c.args.channel c.in-Ok.loan c.args.flights.now c.map.new.self c.end_loan.new.self c.requires.granted
    (lent_by c.args.h c.args.number c.args.channel c.in-Ok.loan c.args.flights.now c.map.new.self c.in-Ok.ensures.loan c.in-Ok.ensures.lent) c.end_loan.ensures
