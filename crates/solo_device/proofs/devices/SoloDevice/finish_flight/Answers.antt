use Rattle.std.proofs.Common.{◌≡◌, ◌∙◌, None, ap, refl, subst, sym}
use Rattle.seq_model.specs.Refusals.{phase_at}
use Rattle.seq_model.specs.State.{ticket_in}
use Rattle.seq_model.specs.Steps.{Past, after}
use Rattle.seq_model.specs.declared.calls.Entry.TheVariants.{Finished}
use Rattle.solo_device.specs.Lone.{HeardOn, Lone, lone_of}
use Rattle.solo_device.specs.OneThread.{with_note}
use Rattle.solo_device.proofs.HearFacts.{hears, same_ending, tells}
use Rattle.solo_device.proofs.LandFacts.{noted_lands}
use Rattle.solo_device.proofs.LentFacts.{finished_past, finished_untouched, is_alone, is_going, is_idle, is_in_time, is_lent}
use Rattle.solo_device.proofs.devices.SoloDevice.finish_flight.Goals as goal

pub render_flight-tests-requires-clause-alone : goal.render_flight-tests-requires-clause-alone
render_flight-tests-requires-clause-alone g c =
    is_alone c.args.h c.self.inside.device.parts c.lend_flight.new.self.parts c.in-Some.work c.in-Some.ensures.lent c.self.invariant.untouched c.self.invariant.home c.is_device.ensures.kept

pub render_flight-tests-requires-clause-idle : goal.render_flight-tests-requires-clause-idle
render_flight-tests-requires-clause-idle g c =
    is_idle c.args.h c.self.inside.device.parts c.lend_flight.new.self.parts c.in-Some.work c.in-Some.ensures.lent c.self.invariant.untouched c.self.invariant.home c.is_device.ensures.kept

pub render_flight-tests-requires-clause-in_time : goal.render_flight-tests-requires-clause-in_time
render_flight-tests-requires-clause-in_time g c =
    is_in_time c.args.h c.self.inside.device.parts c.lend_flight.new.self.parts c.in-Some.work c.in-Some.ensures.lent c.self.invariant.untouched c.self.invariant.home c.is_device.ensures.kept

pub render_flight-tests-requires-clause-going : goal.render_flight-tests-requires-clause-going
render_flight-tests-requires-clause-going g c =
    is_going c.args.h c.self.inside.device.parts c.lend_flight.new.self.parts c.in-Some.work c.in-Some.ensures.lent c.self.invariant.untouched c.self.invariant.home c.is_device.ensures.kept

pub return_flight-requires : goal.return_flight-requires
return_flight-requires g c =
    is_lent c.args.h c.self.inside.device.parts c.lend_flight.new.self.parts c.in-Some.work c.in-Some.ensures.lent c.self.invariant.untouched c.self.invariant.home c.is_device.ensures.kept
    c.render_flight-tests.new.work c.render_flight-tests.ensures.rest c.render_flight-tests.ensures.seat c.render_flight-tests.ensures.view c.render_flight-tests.ensures.given

pub invariant_of-self-2 : goal.invariant_of-self-2
invariant_of-self-2 g c = record {
  untouched =
      finished_untouched c.args.h c.self.inside.device.parts c.lend_flight.new.self.parts c.in-Some.work c.in-Some.ensures.lent c.self.invariant.untouched c.self.invariant.home c.is_device.ensures.kept
      c.render_flight-tests.new.work c.render_flight-tests.ensures.rest c.render_flight-tests.ensures.seat c.render_flight-tests.ensures.view c.render_flight-tests.ensures.given
      c.return_flight.new.self.parts c.return_flight.ensures.returned c.settled.new.self.parts c.settled.ensures.swept.parts
      c.is_device.ensures.parts (c.is_device.ensures.state.stands c.self.invariant.going);
  home = c.settled.ensures.home;
  going =
      same_ending c.args.h c.in-Some.work c.render_flight-tests.new.work c.self.inside.device c.lend_flight.new.self c.return_flight.new.self c.settled.new.self
      c.in-Some.ensures.lent c.return_flight.ensures.returned c.in-Some.ensures.rest c.return_flight.ensures.rest c.settled.ensures.swept
      ∙ c.self.invariant.going;
}

pub returns-clause-past : goal.returns-clause-past
returns-clause-past g c =
    finished_past c.args.h c.self.inside.device.parts c.lend_flight.new.self.parts c.in-Some.work c.in-Some.ensures.lent c.self.invariant.untouched c.self.invariant.home c.is_device.ensures.kept
    c.render_flight-tests.new.work c.render_flight-tests.ensures.rest c.render_flight-tests.ensures.seat c.render_flight-tests.ensures.view c.render_flight-tests.ensures.given
    c.return_flight.new.self.parts c.return_flight.ensures.returned c.settled.new.self.parts c.settled.ensures.swept.parts
    c.is_device.ensures.parts (c.is_device.ensures.state.stands c.self.invariant.going)
    ∙ ap (λ (l : Lone). with_note Finished (ticket_in (phase_at l.past c.args.h)) l.past) c.self.view_is

pub returns-clause-told : goal.returns-clause-told
returns-clause-told g c =
    subst (λ (l : Lone). HeardOn l (lone_of c.settled.new.self)) c.self.view_is
    (hears c.self.inside.device c.settled.new.self
    (tells c.args.h c.in-Some.work c.render_flight-tests.new.work c.self.inside.device c.lend_flight.new.self c.return_flight.new.self c.settled.new.self
    c.in-Some.ensures.lent c.return_flight.ensures.returned c.in-Some.ensures.rest c.return_flight.ensures.rest c.settled.ensures.swept))

pub returns-clause-landed : goal.returns-clause-landed
returns-clause-landed g c =
    let history = c.self.inside.device.parts.history in
    subst (λ (p : Past). ticket_in (phase_at p c.args.h) ≡ None)
    (sym (finished_past c.args.h c.self.inside.device.parts c.lend_flight.new.self.parts c.in-Some.work c.in-Some.ensures.lent c.self.invariant.untouched c.self.invariant.home c.is_device.ensures.kept
    c.render_flight-tests.new.work c.render_flight-tests.ensures.rest c.render_flight-tests.ensures.seat c.render_flight-tests.ensures.view c.render_flight-tests.ensures.given
    c.return_flight.new.self.parts c.return_flight.ensures.returned c.settled.new.self.parts c.settled.ensures.swept.parts
    c.is_device.ensures.parts (c.is_device.ensures.state.stands c.self.invariant.going)))
    (noted_lands history (ticket_in (phase_at (after history) c.args.h)) c.args.h refl)
