use Rattle.std.proofs.Common.{◌≡◌, ◌∙◌, None, false, true, refl, sym, ap, subst}
use Rattle.std.specs.Option.{IsSomeAnd, is_some}
use Rattle.frame_future.specs.Flights.{Flying, is_stopped}
use Rattle.frame_future.specs.Future.{AreHome, Future, flight_of}
use Rattle.seq_model.specs.Refusals.{phase_at}
use Rattle.seq_model.specs.State.{ticket_in}
use Rattle.seq_model.specs.Steps.{after}
use Rattle.device_parts.specs.AllParts.{Inside}
use Rattle.device_parts.specs.Lends.{HasLentFlight}
use Rattle.device_parts.specs.Standing.{IsStanding}
use Rattle.device_parts.proofs.LendFacts.{IsLoanable, flies_by, has_lent, lent_parts, lent_stands, loanable, may_take, not_flying}
use Rattle.device_parts.proofs.parts.Parts.lend_flight.Goals as goal

pub returns-in_default : goal.returns-in_default
returns-in_default c =
    let old : Inside = record { objects = c.self.inside.objects; flights = c.self.inside.flights; worlds = c.self.inside.worlds; history = c.self.inside.journal.items; room = c.self.inside.journal.room; builds = c.self.inside.builds } in
    let none : flight_of old.flights.future c.args.h ≡ None = ap (λ (s : Future). flight_of s c.args.h) (sym c.frames-frames.ensures.value)
    ∙ not_flying c.frames-frames.result.now c.args.h (λ t is. c.in_default.not-Flight t (c.phase_of.ensures.value ∙ is)) in
    record {
      lent = tt;
      none = ap (λ (i : Inside). flight_of i.flights.future c.args.h) (sym c.self.view_is) ∙ none;
      same = refl;
      exactly = λ stands. subst (λ (i : Inside). false ≡ is_some (ticket_in (phase_at (after i.history) c.args.h))) c.self.view_is
          (sym (flies_by old c.args.h c.self.invariant (subst IsStanding (sym c.self.view_is) stands) ∙ ap is_some none));
      stands = λ stands. stands;
    }

pub lend-claims-requires : goal.lend-claims-requires
lend-claims-requires c =
    let old : Inside = record { objects = c.self.inside.objects; flights = c.self.inside.flights; worlds = c.self.inside.worlds; history = c.self.inside.journal.items; room = c.self.inside.journal.room; builds = c.self.inside.builds } in
    let x : IsLoanable old c.args.h c.in-Flight.ticket =
    loanable old c.frames-frames.result.now c.args.h c.in-Flight.ticket c.self.invariant c.frames-frames.ensures.books (subst (λ (i : Inside). AreHome i.flights.future) (sym c.self.view_is) c.requires.home)
    c.frames-frames.ensures.value c.phase_of.ensures.kept (sym c.phase_of.ensures.value ∙ c.in-Flight.is) in
    subst (λ o. IsSomeAnd o (λ (f : Flying). (f.home ≡ true) × (is_stopped f ≡ false))) (sym x.there) (x.home, x.going)

pub take_scene-scene-requires : goal.take_scene-scene-requires
take_scene-scene-requires c =
    let old : Inside = record { objects = c.self.inside.objects; flights = c.self.inside.flights; worlds = c.self.inside.worlds; history = c.self.inside.journal.items; room = c.self.inside.journal.room; builds = c.self.inside.builds } in
    let x : IsLoanable old c.args.h c.in-Flight.ticket =
    loanable old c.frames-frames.result.now c.args.h c.in-Flight.ticket c.self.invariant c.frames-frames.ensures.books (subst (λ (i : Inside). AreHome i.flights.future) (sym c.self.view_is) c.requires.home)
    c.frames-frames.ensures.value c.phase_of.ensures.kept (sym c.phase_of.ensures.value ∙ c.in-Flight.is) in
    may_take old c.args.h c.in-Flight.ticket x c.lend-claims.new.self c.lend-claims.ensures.lent

pub invariant_of-self : goal.invariant_of-self
invariant_of-self c =
    let old : Inside = record { objects = c.self.inside.objects; flights = c.self.inside.flights; worlds = c.self.inside.worlds; history = c.self.inside.journal.items; room = c.self.inside.journal.room; builds = c.self.inside.builds } in
    let x : IsLoanable old c.args.h c.in-Flight.ticket =
    loanable old c.frames-frames.result.now c.args.h c.in-Flight.ticket c.self.invariant c.frames-frames.ensures.books (subst (λ (i : Inside). AreHome i.flights.future) (sym c.self.view_is) c.requires.home)
    c.frames-frames.ensures.value c.phase_of.ensures.kept (sym c.phase_of.ensures.value ∙ c.in-Flight.is) in
    lent_parts old c.args.h c.in-Flight.ticket c.self.invariant c.frames-frames.ensures.books x c.lend-claims.new.self c.take_scene-scene.new.flights c.take_scene-scene.result c.lend-claims.ensures.lent c.take_scene-scene.ensures

pub returns-clause-lent : goal.returns-clause-lent
returns-clause-lent c =
    let old : Inside = record { objects = c.self.inside.objects; flights = c.self.inside.flights; worlds = c.self.inside.worlds; history = c.self.inside.journal.items; room = c.self.inside.journal.room; builds = c.self.inside.builds } in
    let x : IsLoanable old c.args.h c.in-Flight.ticket =
    loanable old c.frames-frames.result.now c.args.h c.in-Flight.ticket c.self.invariant c.frames-frames.ensures.books (subst (λ (i : Inside). AreHome i.flights.future) (sym c.self.view_is) c.requires.home)
    c.frames-frames.ensures.value c.phase_of.ensures.kept (sym c.phase_of.ensures.value ∙ c.in-Flight.is) in
    subst (λ (before : Inside). HasLentFlight c.args.h before (record { objects = c.self.inside.objects; flights = c.take_scene-scene.new.flights; worlds = c.self.inside.worlds; history = c.self.inside.journal.items; room = c.self.inside.journal.room; builds = c.self.inside.builds }) c.into_work.result) c.self.view_is
    (has_lent old c.args.h c.in-Flight.ticket c.self.invariant c.frames-frames.ensures.books x c.lend-claims.new.self c.take_scene-scene.new.flights c.take_scene-scene.result c.lend-claims.ensures.lent c.take_scene-scene.ensures
    c.lend-claims.result.0 c.lend-claims.result.1 c.into_work.result c.lend-claims.ensures.held c.into_work.ensures.claims c.into_work.ensures.seat c.into_work.ensures.scene)

pub returns-clause-exactly : goal.returns-clause-exactly
returns-clause-exactly c = λ stands.
    let old : Inside = record { objects = c.self.inside.objects; flights = c.self.inside.flights; worlds = c.self.inside.worlds; history = c.self.inside.journal.items; room = c.self.inside.journal.room; builds = c.self.inside.builds } in
    let x : IsLoanable old c.args.h c.in-Flight.ticket =
    loanable old c.frames-frames.result.now c.args.h c.in-Flight.ticket c.self.invariant c.frames-frames.ensures.books (subst (λ (i : Inside). AreHome i.flights.future) (sym c.self.view_is) c.requires.home)
    c.frames-frames.ensures.value c.phase_of.ensures.kept (sym c.phase_of.ensures.value ∙ c.in-Flight.is) in
    subst (λ (i : Inside). true ≡ is_some (ticket_in (phase_at (after i.history) c.args.h))) c.self.view_is
    (sym (flies_by old c.args.h c.self.invariant (subst IsStanding (sym c.self.view_is) stands) ∙ ap is_some x.flies))

pub returns-clause-stands : goal.returns-clause-stands
returns-clause-stands c = λ stands.
    let old : Inside = record { objects = c.self.inside.objects; flights = c.self.inside.flights; worlds = c.self.inside.worlds; history = c.self.inside.journal.items; room = c.self.inside.journal.room; builds = c.self.inside.builds } in
    let x : IsLoanable old c.args.h c.in-Flight.ticket =
    loanable old c.frames-frames.result.now c.args.h c.in-Flight.ticket c.self.invariant c.frames-frames.ensures.books (subst (λ (i : Inside). AreHome i.flights.future) (sym c.self.view_is) c.requires.home)
    c.frames-frames.ensures.value c.phase_of.ensures.kept (sym c.phase_of.ensures.value ∙ c.in-Flight.is) in
    lent_stands old c.args.h c.in-Flight.ticket c.self.invariant c.frames-frames.ensures.books x c.lend-claims.new.self c.take_scene-scene.new.flights c.take_scene-scene.result c.lend-claims.ensures.lent c.take_scene-scene.ensures (subst IsStanding (sym c.self.view_is) stands)
