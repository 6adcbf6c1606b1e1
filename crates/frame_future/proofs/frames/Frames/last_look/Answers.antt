use Rattle.std.proofs.Common.{◌≡◌, IfSome, sym, subst}
use Rattle.frame_future.specs.Flights.{Flying, awaited, IsSound}
use Rattle.frame_future.specs.Future.{has_ticket}
use Rattle.frame_future.specs.contracts.frames.Frames.{the_view}
use Rattle.frame_future.proofs.Finds.{flight_here}
use Rattle.frame_future.proofs.frames.Frames.last_look.Goals as goal

pub returns-clause-value : goal.returns-clause-value
returns-clause-value c =
    let found = flight_here (the_view c.self.inside) c.args.self.now (has_ticket c.args.ticket) c.place_at.result c.index.result.now c.self.view_is c.place_at.ensures c.index.ensures in
    subst (λ o. IfSome o (λ (f : Flying). c.last_look.result ≡ (f.looked, awaited f))) (sym found.2) c.last_look.ensures.value

pub returns-clause-sound : goal.returns-clause-sound
returns-clause-sound c =
    let found = flight_here (the_view c.self.inside) c.args.self.now (has_ticket c.args.ticket) c.place_at.result c.index.result.now c.self.view_is c.place_at.ensures c.index.ensures in
    subst (λ o. IfSome o (λ (f : Flying). IsSound f)) (sym found.2) c.last_look.ensures.sound
