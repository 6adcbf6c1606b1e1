use Rattle.std.proofs.Common.{◌∙◌, ◌++◌, ap, subst, sym}
use Rattle.seq_model.specs.Legal.{Legal}
use Rattle.seq_model.specs.Steps.{Past}
use Rattle.seq_model.specs.Told.{told, told_by}
use Rattle.seq_model.specs.declared.calls.Entry.TheVariants.{Closed}
use Rattle.plain_journal.proofs.Closings.{ending_done}
use Rattle.plain_journal.proofs.EndFacts.{told_on}
use Rattle.plain_journal.proofs.record.Record.finish.Goals as goal

pub returns : goal.returns
returns g c =
    let done = ending_done c.args.self c.leave_all.new.self c.leave_all.ensures.led c.leave_all.ensures.ending in
    let history = c.close.ensures.history ∙ ap (λ (p : Past). p.seen) done.0 in
    record {
      history = history;
      legal = subst Legal (sym history) done.1.legal;
      told = λ before.
          c.close.ensures.told
          ∙ ap (λ ns. ns ++ told_by c.leave_all.new.self Closed) (c.leave_all.ensures.told before)
          ∙ told_on c.leave_all.new.self Closed c.leave_all.ensures.ending.led
          ∙ ap told (sym c.close.ensures.history);
      builds = c.close.ensures.builds;
    }
