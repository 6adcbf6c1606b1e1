use Rattle.std.proofs.Common.{◌∙◌}
use Rattle.past_laws.proofs.UseFacts.{unworlded}
use Rattle.plain_journal.proofs.uses.note_render.Goals as goal

pub returns-in-None : goal.returns-in-None
returns-in-None c = λ history actor f short fits knows. unworlded history actor f c.args.worlds.now (fits.0 ∙ c.in-None.is) knows
