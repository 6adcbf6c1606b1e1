use Rattle.std.proofs.Common.{◌≡◌, ◌∙◌, None, sym, ap}
use Rattle.std.specs.Option.{option_map}
use Rattle.frame_future.specs.Flights.{Flying}
use Rattle.frame_future.specs.Future.{flight_of, phase_of}
use Rattle.device_parts.specs.AllParts.{Inside}
use Rattle.device_parts.proofs.TicketFacts.{no_ticket, ticket_flown, ticket_kept, ticket_told}
use Rattle.device_parts.proofs.parts.Parts.ticket.Goals as goal

pub returns-in-Flight-clause-standing : goal.returns-in-Flight-clause-standing
returns-in-Flight-clause-standing c = λ stands.
    ap ticket_kept (sym c.in-Flight.is ∙ c.phase_of.ensures.value ∙ ap (λ s. phase_of s c.args.h) (c.frames.ensures.value ∙ ap (λ (i : Inside). i.flights.future) c.self.view_is))
    ∙ ticket_flown c.args.self.now.flights.future c.args.h ∙ ticket_told c.args.self.now c.args.h c.are_parts.ensures stands

pub returns-in_default : goal.returns-in_default
returns-in_default c =
    let none : None ≡ option_map (λ (f : Flying). f.ticket) (flight_of c.args.self.now.flights.future c.args.h) =
    sym (no_ticket c.phase_of.result c.in_default.not-Flight) ∙ ap ticket_kept (c.phase_of.ensures.value ∙ ap (λ s. phase_of s c.args.h) (c.frames.ensures.value ∙ ap (λ (i : Inside). i.flights.future) c.self.view_is))
    ∙ ticket_flown c.args.self.now.flights.future c.args.h in
    record { flight = none; standing = λ stands. none ∙ ticket_told c.args.self.now c.args.h c.are_parts.ensures stands }
