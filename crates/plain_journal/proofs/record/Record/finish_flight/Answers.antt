use Rattle.std.proofs.Common.{◌≡◌, ◌∙◌, ◌≤◌, ◌++◌, ap, length, rules, subst, sym, arith}
use Rattle.std.specs.List.{filter_map}
use Rattle.seq_model.specs.State.{Done, State}
use Rattle.seq_model.specs.Steps.{Past, step}
use Rattle.seq_model.specs.Told.{end_of_object, gone, told_by}
use Rattle.seq_model.specs.declared.calls.Entry.TheVariants.{Finished}
use Rattle.past_laws.proofs.OpenFacts.{finished_is_open}
use Rattle.plain_journal.proofs.NoteFacts.{as_many, finish_stepped, marks_fit, same_next}
use Rattle.past_laws.specs.Open.{IsOpen}
use Rattle.plain_journal.specs.Whole.{past_in}
use Rattle.plain_journal.proofs.record.Record.finish_flight.Goals as goal

pub sweep_by-requires-clause-marks : goal.sweep_by-requires-clause-marks
sweep_by-requires-clause-marks g c =
    let next = ap (λ (s : State). s.next) c.end_flights.ensures ∙ same_next c.args.ticket (Done c.args.ticket) c.self.inside.stage in
    marks_fit c.self.inside.stage c.self.inside.books c.enter_note.new.self (Finished c.args.ticket) c.end_flights.new.self.next c.self.invariant c.enter_note.ensures next

pub sweep_by-requires-clause-room : goal.sweep_by-requires-clause-room
sweep_by-requires-clause-room g c =
    let same = ap (λ (s : State). length s.objects) c.end_flights.ensures ∙ as_many c.args.ticket (Done c.args.ticket) c.self.inside.stage in
    let room : length c.self.inside.stage.objects ≤ g.C.Client.spare c.args.client.now = search rules in
    omega (arith, same, room)

pub invariant_of-self : goal.invariant_of-self
invariant_of-self g c =
    (finish_stepped c.self.inside.stage c.self.inside.books c.enter_note.new.self c.sweep_by.new.books c.args.ticket c.end_flights.new.self c.sweep_by.new.stage c.self.invariant
    (search rules) (search rules) c.enter_note.ensures c.sweep_by.ensures.books c.end_flights.ensures c.sweep_by.ensures.stage).0.whole

pub returns : goal.returns
unfolding step
returns g c =
    let view : c.args.self.now ≡ past_in c.self.inside.stage c.self.inside.books = search rules in
    let e = Finished c.args.ticket in
    let stepped =
    finish_stepped c.self.inside.stage c.self.inside.books c.enter_note.new.self c.sweep_by.new.books c.args.ticket c.end_flights.new.self c.sweep_by.new.stage c.self.invariant
    (search rules) (search rules) c.enter_note.ensures c.sweep_by.ensures.books c.end_flights.ensures c.sweep_by.ensures.stage in
    let notices = g.C.Client.notices c.args.client.now in
    record {
      entered = stepped.0.past ∙ ap (λ (p : Past). step p e) (sym view);
      «open» = subst IsOpen (sym (ap (λ (p : Past). p.seen) stepped.0.past)) (finished_is_open (past_in c.self.inside.stage c.self.inside.books) c.args.ticket (search rules));
      told =
          c.sweep_by.ensures.told ∙ ap (λ (s : State). notices ++ filter_map end_of_object (gone s c.sweep_by.new.stage)) stepped.1
          ∙ ap (λ ns. notices ++ ns) (stepped.0.told ∙ ap (λ (p : Past). told_by p e) (sym view));
      room = c.sweep_by.ensures.room;
    }
