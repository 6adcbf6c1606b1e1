use Rattle.std.proofs.Common.{Option, subst, sym}
use Rattle.command_words.specs.Commands.{commanded}
use Rattle.command_words.specs.declared.commands.Command.{Command}
use Rattle.replay_io.specs.Streams.{AppendsPrefix}
use Rattle.anari_replay.proofs.Complete.{completes}
use Rattle.anari_replay.specs.Outcome.{IsInPart}
use Rattle.anari_replay.specs.Output.{IsEnding, output_of}
use Rattle.anari_replay.proofs.replay.run_plain.Goals as goal

pub returns-in-Ok-clause-written_in_part : goal.returns-in-Ok-clause-written_in_part
returns-in-Ok-clause-written_in_part g c =
    subst
    (λ (command : Option Command). IsInPart c.run_command.result.status →
    AppendsPrefix (g.K.Sink.written c.args.sink.now) (g.K.Sink.written c.run_command.new.sink) (output_of command c.run_command.result.history c.run_command.result.builds))
    (sym c.in-Ok.ensures.given) c.run_command.ensures.written_in_part

pub returns-in-Ok-clause-complete : goal.returns-in-Ok-clause-complete
returns-in-Ok-clause-complete g c =
    completes (commanded c.args.words.now) (g.S.Source.left c.args.source.now) (g.S.Source.left c.run_command.new.source) (g.S.Source.ended c.run_command.new.source) c.run_command.result.fault
    (g.S.Source.faults c.args.source.now) (g.S.Source.faults c.run_command.new.source) (g.K.Sink.faults c.args.sink.now) (g.K.Sink.faults c.run_command.new.sink) c.run_command.result.status
    (subst (λ (command : Option Command). IsEnding command c.run_command.result.status) (sym c.in-Ok.ensures.given) c.run_command.ensures.known)
    c.run_command.ensures.read_fault c.run_command.ensures.write_fault c.run_command.ensures.refused
