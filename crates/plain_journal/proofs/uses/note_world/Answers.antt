use Rattle.past_laws.proofs.UseFacts.{not_done, silent}
use Rattle.plain_journal.proofs.uses.note_world.Goals as goal

pub returns-in_default : goal.returns-in_default
returns-in_default c = λ history actor short fits knows.
    silent history actor c.args.call.now c.args.reply.now c.args.worlds.now (not_done c.args.call.now c.args.reply.now c.in_default.not-Done) knows
