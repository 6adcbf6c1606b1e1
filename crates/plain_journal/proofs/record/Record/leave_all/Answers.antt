use Rattle.std.proofs.Common.{◌≡◌, ◌∙◌, ◌+◌, ◌++◌, ap, rules, subst, sym}
use Rattle.seq_model.specs.Steps.{Past, step}
use Rattle.seq_model.specs.Told.{told, told_by}
use Rattle.seq_model.specs.declared.calls.Entry.TheVariants.{Left}
use Rattle.plain_journal.proofs.Closings.{ending_over, ending_start, ending_step, seen_more}
use Rattle.plain_journal.proofs.EndFacts.{told_on}
use Rattle.plain_journal.proofs.StepFacts.{was_unseen}
use Rattle.plain_journal.specs.Leaving.{IsEnding}
use Rattle.plain_journal.specs.Unseen.{IsUnseen}
use Rattle.plain_journal.specs.Whole.{past_in}
use Rattle.plain_journal.proofs.record.Record.leave_all.Goals.{then-is_flight, else-is_flight}
use Rattle.plain_journal.proofs.record.Record.leave_all.Goals as goal

pub loop-ticket-init : goal.loop-ticket-init
loop-ticket-init g c =
    let view : past_in c.self.inside.stage c.self.inside.books ≡ c.args.self.now = search rules in
    record {
      ending = ending_start c.args.self.now (search rules) (subst (λ (p : Past). IsUnseen p.seen) view (was_unseen c.self.inside.stage c.self.inside.books c.self.invariant)) (search rules);
      told = λ before. before;
      room = c.requires.room;
    }

pub leave-requires-clause-legal : goal.leave-requires-clause-legal
leave-requires-clause-legal g c =
    subst IsUnseen (seen_more c.loop-ticket.self (Left c.loop-ticket.ticket))
    (ending_step c.args.self.now c.loop-ticket.self c.loop-ticket.ticket c.loop-ticket.invariant.ending (search rules)).unseen

pub loop-ticket-preserved : goal.loop-ticket-preserved
loop-ticket-preserved g c =
    elim c.if-is_flight.branch [
      | then-is_flight w ↦
          let e = Left c.loop-ticket.ticket in
          let next : c.if-is_flight.self ≡ step c.loop-ticket.self e = w.self-is ∙ w.leave.ensures.entered in
          let more = ending_step c.args.self.now c.loop-ticket.self c.loop-ticket.ticket c.loop-ticket.invariant.ending (search rules) in
          record {
            ending = subst (λ (p : Past). IsEnding c.args.self.now p (c.loop-ticket.ticket + 1)) (sym next) more;
            told = λ before.
                ap g.C.Client.notices w.client-is ∙ w.leave.ensures.told ∙ ap (λ ns. ns ++ told_by c.loop-ticket.self e) (c.loop-ticket.invariant.told before)
                ∙ told_on c.loop-ticket.self e c.loop-ticket.invariant.ending.led ∙ ap (λ (p : Past). told p.seen) (sym next);
            room = search rules;
          }
      | else-is_flight w ↦
          record {
            ending = subst (λ (p : Past). IsEnding c.args.self.now p (c.loop-ticket.ticket + 1)) (sym w.self-is) (ending_over c.args.self.now c.loop-ticket.self c.loop-ticket.ticket c.loop-ticket.invariant.ending (search rules));
            told = λ before. ap g.C.Client.notices w.client-is ∙ c.loop-ticket.invariant.told before ∙ ap (λ (p : Past). told p.seen) (sym w.self-is);
            room = search rules;
          }
    ]
