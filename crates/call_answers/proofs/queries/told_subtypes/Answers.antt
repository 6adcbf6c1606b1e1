use Rattle.call_answers.proofs.QueriesTold.{subtypes_told, subtypes_untold}
use Rattle.call_answers.proofs.queries.told_subtypes.Goals as goal

pub returns-in-Ok-clause-told : goal.returns-in-Ok-clause-told
returns-in-Ok-clause-told c = λ past. subtypes_told past c.args.ty c.in-Ok.subtypes c.in-Ok.ensures.value c.in-Ok.ensures.told

pub returns-in-Err-clause-untold : goal.returns-in-Err-clause-untold
returns-in-Err-clause-untold c = λ past. subtypes_untold past c.args.ty c.in-Err.refused c.in-Err.ensures.refused
