use Rattle.tile_claims.specs.Seats.{tile_of, view}
use Rattle.device_calls.proofs.WorkFacts.{gave_one}
use Rattle.device_calls.proofs.work.give_one.Goals as goal

pub returns-clause-gave : goal.returns-clause-gave
returns-clause-gave c = λ gave.
    gave_one (view c.args.work.now.seat) (view c.claim.new.seat) (view c.give.new.seat) (tile_of c.in-Some.claim) (tile_of c.render.new.claim) c.in-Some.ensures.some c.give.ensures.view
