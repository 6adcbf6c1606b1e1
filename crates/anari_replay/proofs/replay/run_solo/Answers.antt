use Rattle.std.proofs.Common.{ℕ, subst, sym}
use Rattle.report_text.specs.Reports.{report}
use Rattle.replay_io.specs.Streams.{AppendsPrefix}
use Rattle.seq_model.specs.Histories.{History}
use Rattle.anari_replay.specs.Input.{IsReplay}
use Rattle.anari_replay.specs.Outcome.{IsAfterReplay, IsInPart}
use Rattle.anari_replay.proofs.WriteFacts.{after_replay, in_part}
use Rattle.anari_replay.proofs.replay.run_solo.Goals as goal

pub returns-in-Ok-clause-replayed : goal.returns-in-Ok-clause-replayed
returns-in-Ok-clause-replayed g c = λ after.
    let Is : History → Type 0 = IsReplay (g.S.Source.left c.args.source.now) (g.S.Source.left c.replay.new.source) (g.S.Source.ended c.replay.new.source) in
    let whole = after_replay c.write_report-written.result _ c.write_report-written.ensures.whole c.write_report-written.ensures.whole_in_part
    (subst IsAfterReplay c.of.ensures.status after) in
    subst Is (sym c.of.ensures.history) (c.in-Ok.ensures.replayed whole)

pub returns-in-Ok-clause-written_in_part : goal.returns-in-Ok-clause-written_in_part
returns-in-Ok-clause-written_in_part g c = λ part.
    let Is : History → ℕ → Type 0 = λ history builds. AppendsPrefix (g.K.Sink.written c.args.sink.now) (g.K.Sink.written c.write_report-written.new.sink) (report c.args.print history builds) in
    let written = in_part c.write_report-written.result _ c.write_report-written.ensures.in_part (subst IsInPart c.of.ensures.status part) in
    subst (Is c.of.result.history) (sym c.of.ensures.builds) (subst (λ history. Is history c.in-Ok.replayed.builds) (sym c.of.ensures.history) written)
