use Rattle.std.proofs.Common.{◌∙◌, ap, sym, subst}
use Rattle.frame_future.specs.Future.{Future, phase_of, IsKept}
use Rattle.flight_books.proofs.StopLaws.{flying_unmapped, phase_flies}
use Rattle.flight_books.proofs.books.FlightBooks.stop_flight.Goals as goal

pub discard-requires-clause-unmapped : goal.discard-requires-clause-unmapped
discard-requires-clause-unmapped g c =
    let s = c.args.self.now.future in
    let value = ap (λ (v : Future). phase_of v c.args.frame) (sym c.frames.ensures.value) ∙ sym c.phase_of.ensures.value ∙ c.in-Flight.is in
    let kept = subst (λ (v : Future). IsKept v) c.frames.ensures.value c.phase_of.ensures.kept in
    let flies = phase_flies s c.args.frame c.in-Flight.field-0 value in
    flying_unmapped c.args.frame s flies.0 kept flies.1
