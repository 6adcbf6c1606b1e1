use Rattle.std.proofs.Common.{◌∙◌, sym, ap, subst}
use Rattle.std.specs.Prelude.{IsSome}
use Rattle.std.specs.List.{slice_get}
use Rattle.std.specs.Option.{is_some, option_map}
use Rattle.frame_future.specs.Future.{Future, flight_at}
use Rattle.device_parts.specs.AllParts.{Inside}
use Rattle.device_parts.proofs.TicketFacts.{first_looked, first_there, none_there}
use Rattle.device_parts.proofs.parts.Parts.first_look.Goals as goal

pub last_look-requires : goal.last_look-requires
last_look-requires c =
    let there = first_there c.self.inside.flights.future.flights c.in-Some.ticket (sym c.in-Some.is ∙ c.first_ticket.ensures) in
    subst (λ (s : Future). IsSome (flight_at s c.in-Some.ticket)) (sym c.frames.ensures.value) (ap is_some there.2)

pub returns-in-Some-clause-look : goal.returns-in-Some-clause-look
returns-in-Some-clause-look c =
    let future = ap (λ (i : Inside). i.flights.future) c.self.view_is in
    first_looked c.args.self.now.flights.future c.frames.result.now c.in-Some.ticket c.last_look.result
    (sym c.in-Some.is ∙ c.first_ticket.ensures ∙ ap (λ (s : Future). option_map (λ f. f.ticket) (slice_get s.flights 0)) future) (c.frames.ensures.value ∙ future) c.last_look.ensures.value

pub returns-in-None-clause-none : goal.returns-in-None-clause-none
returns-in-None-clause-none c =
    none_there c.args.self.now.flights.future.flights (sym c.in-None.is ∙ c.first_ticket.ensures ∙ ap (λ (i : Inside). option_map (λ f. f.ticket) (slice_get i.flights.future.flights 0)) c.self.view_is)
