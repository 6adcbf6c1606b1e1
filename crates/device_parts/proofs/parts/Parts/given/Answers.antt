use Rattle.std.proofs.Common.{◌≡◌, ◌∙◌, ap, refl, subst, sym}
use Rattle.std.specs.Prelude.{IfSome, IsSome}
use Rattle.std.specs.Option.{option_map_or}
use Rattle.frame_future.specs.Flights.{Flying, awaited}
use Rattle.frame_future.specs.Future.{Future, IsKept, flight_at, phase_of}
use Rattle.frame_future.specs.declared.phase.Phase.TheVariants.{Flight}
use Rattle.device_parts.specs.AllParts.{Inside}
use Rattle.device_parts.specs.Looks.{given_of}
use Rattle.device_parts.proofs.LookedFacts.{flying_phase}
use Rattle.device_parts.proofs.parts.Parts.given.Goals as goal

pub last_look-requires : goal.last_look-requires
last_look-requires c =
    let future : Future = c.self.inside.flights.future in
    let phase : phase_of future c.args.frame ≡ Flight c.in-Flight.ticket =
    ap (λ s. phase_of s c.args.frame) (sym c.frames-2.ensures.value) ∙ sym c.phase_of.ensures.value ∙ c.in-Flight.is in
    let flight = flying_phase future c.args.frame c.in-Flight.ticket (subst IsKept c.frames.ensures.value c.are_kept.ensures) phase in
    subst (λ s. IsSome (flight_at s c.in-Flight.ticket)) (sym c.frames-in-Flight.ensures.value) (subst IsSome (sym flight.2) refl)

pub returns-in-Flight : goal.returns-in-Flight
returns-in-Flight c =
    let future : Future = c.self.inside.flights.future in
    let phase : phase_of future c.args.frame ≡ Flight c.in-Flight.ticket =
    ap (λ s. phase_of s c.args.frame) (sym c.frames-2.ensures.value) ∙ sym c.phase_of.ensures.value ∙ c.in-Flight.is in
    let flight = flying_phase future c.args.frame c.in-Flight.ticket (subst IsKept c.frames.ensures.value c.are_kept.ensures) phase in
    let looked : c.last_look.result ≡ (flight.0.looked, awaited flight.0) =
    subst (λ x. IfSome x (λ f. c.last_look.result ≡ (f.looked, awaited f))) (ap (λ s. flight_at s c.in-Flight.ticket) c.frames-in-Flight.ensures.value ∙ flight.2) c.last_look.ensures.value in
    ap (λ r. r.0) looked ∙ sym (ap (λ x. option_map_or (λ (f : Flying). f.looked) x 0) flight.1) ∙ ap (λ (i : Inside). given_of i.flights.future c.args.frame) c.self.view_is
