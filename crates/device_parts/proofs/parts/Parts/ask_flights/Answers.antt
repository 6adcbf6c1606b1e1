use Rattle.std.proofs.Common.{◌≡◌, ◌∙◌, Err, None, Ok, Option, Result, Some, ap, arith, length, subst}
use Rattle.dev_types.specs.declared.handles.NoMemory.{NoMemory as NoRoom}
use Rattle.device_parts.specs.AllParts.{Inside}
use Rattle.device_parts.specs.Works.{AnswersFor, MovesAt}
use Rattle.device_parts.specs.declared.works.Taken.{Taken}
use Rattle.device_parts.proofs.AboardFacts.{aboard_count}
use Rattle.device_parts.proofs.WorkFacts.{spent_more, up_to}
use Rattle.device_parts.proofs.parts.Parts.ask_flights.Goals as goal

pub ask_at-requires-clause-within : goal.ask_at-requires-clause-within
ask_at-requires-clause-within c =
    let count = aboard_count c.self.inside.flights.future.flights c.self.inside.flights.cargo c.self.invariant.aboard in
    let cargo = ap length c.loop-place.invariant.4 in
    let view = ap (λ (i : Inside). length i.flights.cargo) c.self.view_is in
    omega (arith, count, cargo, view, c.loop-place-test.true, c.flight_count-place-end.ensures, c.loop-place.auto.place-end)

pub loop-place-preserved : goal.loop-place-preserved
loop-place-preserved c =
    let before = c.loop-place.invariant in
    let now : Inside = c.loop-place.self in
    let new : Inside = c.ask_at.new.self in
    let is : c.ask_at.result ≡ Ok None = c.in-Ok-None.is ∙ ap Ok c.in-Ok-None.field-0-is in
    let m = subst (λ (r : Result (Option Taken) NoRoom). MovesAt c.loop-place.place (AnswersFor now.history r) now new) is c.ask_at.ensures.asked in
    let more = spent_more c.args.self.now.flights.future.flights now.flights.future.flights new.flights.future.flights c.loop-place.place m.before m.after before.0 before.1 before.2 m.there m.flights m.moves in (
      more.0,
      more.1,
      more.2,
      m.pictures ∙ before.3,
      m.cargo ∙ before.4,
      m.over ∙ before.5,
      m.rest ∙ ap (λ (i : Inside). record i { flights = new.flights }) before.6,
      c.ask_at.ensures.home,
      λ stands. c.ask_at.ensures.stands (before.8 stands),
    )

pub returns-in-Ok-Some-clause-asked : goal.returns-in-Ok-Some-clause-asked
returns-in-Ok-Some-clause-asked c =
    let before = c.loop-place.invariant in
    let now : Inside = c.loop-place.self in (
      c.loop-place.place,
      up_to c.args.self.now now c.ask_at.new.self c.loop-place.place (Ok (Some c.in-Ok-Some.taken)) before.0 before.1 before.2 before.6
          (subst (λ (r : Result (Option Taken) NoRoom). MovesAt c.loop-place.place (AnswersFor now.history r) now c.ask_at.new.self) (c.in-Ok-Some.is ∙ ap Ok c.in-Ok-Some.field-0-is) c.ask_at.ensures.asked),
    )

pub returns-in-Err-clause-asked : goal.returns-in-Err-clause-asked
returns-in-Err-clause-asked c =
    let before = c.loop-place.invariant in
    let now : Inside = c.loop-place.self in (
      c.loop-place.place,
      up_to c.args.self.now now c.ask_at.new.self c.loop-place.place (Err c.in-Err.none) before.0 before.1 before.2 before.6
          (subst (λ (r : Result (Option Taken) NoRoom). MovesAt c.loop-place.place (AnswersFor now.history r) now c.ask_at.new.self) c.in-Err.is c.ask_at.ensures.asked),
    )
