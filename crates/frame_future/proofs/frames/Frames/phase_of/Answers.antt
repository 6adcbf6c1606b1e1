use Rattle.std.proofs.Common.{sym, ap, ◌∙◌}
use Rattle.frame_future.specs.Future.{is_flight_of, is_picture_of}
use Rattle.frame_future.specs.declared.phase.Phase.TheVariants as phase
use Rattle.frame_future.specs.contracts.frames.Frames.{the_view}
use Rattle.frame_future.proofs.Finds.{flight_here, phase_done, phase_empty, phase_flight, picture_here}
use Rattle.frame_future.proofs.Lists.{found_none}
use Rattle.frame_future.proofs.frames.Frames.phase_of.Goals as goal

pub returns-in-Some-clause-value : goal.returns-in-Some-clause-value
returns-in-Some-clause-value c =
    let s = c.args.self.now in
    let f = c.index.result.now in
    let found = flight_here (the_view c.self.inside) s (is_flight_of c.args.frame) c.in-Some.place f c.self.view_is (sym c.flight_of.ensures ∙ c.in-Some.is) c.index.ensures in
    ap phase.Flight c.ticket.ensures ∙ sym (phase_flight s c.args.frame f found.2)

pub returns-in-Some-picture_of-clause-value : goal.returns-in-Some-picture_of-clause-value
returns-in-Some-picture_of-clause-value c =
    let s = c.args.self.now in
    let p = c.index-in-Some-picture_of.result.now in
    let none = found_none (is_flight_of c.args.frame) s.flights (sym c.flight_of.ensures ∙ c.in_default.is) in
    let found = picture_here (the_view c.self.inside) s c.args.frame c.in-Some-picture_of.place p c.self.view_is (sym c.picture_of.ensures ∙ c.in-Some-picture_of.is) c.index-in-Some-picture_of.ensures in
    ap phase.Done c.ticket-in-Some-picture_of.ensures ∙ sym (phase_done s c.args.frame p none found.2)

pub returns-in-None-clause-value : goal.returns-in-None-clause-value
returns-in-None-clause-value c =
    let s = c.args.self.now in
    let none = found_none (is_flight_of c.args.frame) s.flights (sym c.flight_of.ensures ∙ c.in_default.is) in
    sym (phase_empty s c.args.frame none (found_none (is_picture_of c.args.frame) s.pictures (sym c.picture_of.ensures ∙ c.in-None.is)))
