use Rattle.std.proofs.Common.{◌≡◌, ◌∙◌, sym, subst}
use Rattle.std.specs.Prelude.{IfSome, IsSome}
use Rattle.frame_future.specs.Future.{Future, flight_of}
use Rattle.seq_model.specs.Pictures.{tiles_at}
use Rattle.device_parts.specs.AllParts.{Inside}
use Rattle.device_parts.specs.Standing.{IsStanding}
use Rattle.device_parts.proofs.RecordFacts.{flies_not, flies_under, look_here}
use Rattle.device_parts.proofs.parts.Parts.tiles.Goals as goal

pub unreachable-requires : goal.unreachable-requires
unreachable-requires c =
    flies_not c.frames-frames.result.now c.args.frame
    (subst (λ (s : Future). IsSome (flight_of s c.args.frame)) (sym c.frames-frames.ensures.value) (subst (λ (i : Inside). IsSome (flight_of i.flights.future c.args.frame)) (sym c.self.view_is) c.requires.flies))
    (λ t is. c.in_default.not-Flight t (c.phase_of.ensures.value ∙ is))

pub last_look-requires : goal.last_look-requires
last_look-requires c =
    flies_under c.frames-frames.result.now c.args.frame c.in-Flight.ticket c.phase_of.ensures.kept
    (subst (λ (s : Future). IsSome (flight_of s c.args.frame)) (sym c.frames-frames.ensures.value) (subst (λ (i : Inside). IsSome (flight_of i.flights.future c.args.frame)) (sym c.self.view_is) c.requires.flies))
    (sym c.phase_of.ensures.value ∙ c.in-Flight.is)

pub returns : goal.returns
returns c =
    let old : Inside = record { objects = c.self.inside.objects; flights = c.self.inside.flights; worlds = c.self.inside.worlds; history = c.self.inside.journal.items; room = c.self.inside.journal.room; builds = c.self.inside.builds } in
    subst (λ (i : Inside). IfSome (flight_of i.flights.future c.args.frame) (λ f. c.last_look.result.1 ≡ tiles_at i.history f.ticket)) c.self.view_is
    (look_here old c.frames-frames.result.now c.args.frame c.in-Flight.ticket c.last_look.result (subst IsStanding (sym c.self.view_is) c.requires.stands) c.frames-frames.ensures.value c.phase_of.ensures.kept
    (sym c.phase_of.ensures.value ∙ c.in-Flight.is) c.last_look.ensures.value)
