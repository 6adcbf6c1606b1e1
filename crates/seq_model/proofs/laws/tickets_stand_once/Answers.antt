use Rattle.seq_model.proofs.laws.tickets_stand_once.Goals as goal
use Rattle.seq_model.proofs.Tickets.{tickets_are_places, tickets_stand_once}

pub returns-clause-once : goal.returns-clause-once
returns-clause-once c = tickets_stand_once

pub returns-clause-places : goal.returns-clause-places
returns-clause-places c = tickets_are_places
