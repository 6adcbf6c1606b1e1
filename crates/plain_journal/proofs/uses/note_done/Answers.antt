use Rattle.past_laws.proofs.UseFacts.{none_of_these, silent}
use Rattle.seq_model.specs.declared.calls.Reply.TheVariants as reply
use Rattle.plain_journal.proofs.uses.note_done.Goals as goal

pub returns-in_default : goal.returns-in_default
returns-in_default c = λ history actor short fits knows.
    silent history actor c.args.call.now reply.Done c.args.worlds.now
    (none_of_these c.args.call.now c.in_default.not-RenderFrame c.in_default.not-Commit c.in_default.not-UnmapArray) knows
