use Rattle.std.proofs.Common.{◌≡◌, ◌∙◌, refl, sym, ap, subst}
use Rattle.std.specs.Prelude.{IfSome, IsSome, slice_index_or, false}
use Rattle.dev_types.specs.Channels.{number_of_channel}
use Rattle.seq_model.specs.Pictures.{has_channel, tiles_at}
use Rattle.seq_model.specs.Refusals.{phase_at}
use Rattle.seq_model.specs.Steps.{after}
use Rattle.object_store.specs.Phases.{phase_of}
use Rattle.device_parts.specs.AllParts.{Inside}
use Rattle.device_parts.proofs.RecordFacts.{asks_as, flies_as}
use Rattle.device_parts.proofs.records.RecordedRecords.shown.Goals as goal

pub tiles-requires-clause-flies : goal.tiles-requires-clause-flies
tiles-requires-clause-flies c =
    let i = c.self.inside.parts.now in
    let phase = subst (λ (j : Inside). phase_at (after j.history) c.args.h ≡ phase_of c.args.shows) (sym c.self.view_is) c.requires ∙ ap phase_of c.in-Flight.is in
    let flight = flies_as i c.args.h c.in-Flight.ticket c.self.invariant.0 c.self.invariant.1 phase in
    subst IsSome (sym flight.1) refl

pub returns-in-Flight-clause-known : goal.returns-in-Flight-clause-known
returns-in-Flight-clause-known c =
    let i = c.self.inside.parts.now in
    let phase = subst (λ (j : Inside). phase_at (after j.history) c.args.h ≡ phase_of c.args.shows) (sym c.self.view_is) c.requires ∙ ap phase_of c.in-Flight.is in
    let flight = flies_as i c.args.h c.in-Flight.ticket c.self.invariant.0 c.self.invariant.1 phase in
    let tiles = subst (λ o. IfSome o (λ f. c.tiles.result ≡ tiles_at i.history f.ticket)) flight.1 c.tiles.ensures in
    tiles ∙ ap (tiles_at i.history) flight.2 ∙ ap (λ (j : Inside). tiles_at j.history c.in-Flight.ticket) c.self.view_is

pub returns-in-Picture-clause-known : goal.returns-in-Picture-clause-known
returns-in-Picture-clause-known c =
    let i = c.self.inside.parts.now in
    let phase = subst (λ (j : Inside). phase_at (after j.history) c.args.h ≡ phase_of c.args.shows) (sym c.self.view_is) c.requires ∙ ap phase_of c.in-Picture.is in
    λ channel. ap (λ asked. slice_index_or asked (number_of_channel channel) false) c.asked.ensures ∙ asks_as i c.args.h c.in-Picture.ticket c.self.invariant.0 c.self.invariant.1 phase channel
    ∙ ap (λ (j : Inside). has_channel j.history c.in-Picture.ticket channel) c.self.view_is
