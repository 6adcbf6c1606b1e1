use Rattle.std.proofs.Common.{inr, sym, ◌∙◌}
use Rattle.call_answers.proofs.QueriesTold.{info_told, info_untold, no_info}
use Rattle.call_answers.proofs.queries.told_info.Goals as goal

pub returns-in_default-clause-untold : goal.returns-in_default-clause-untold
returns-in_default-clause-untold c = λ past. inr (no_info past c.args.ty c.args.subtype.now c.args.name.now (sym c.kind_of.ensures.value ∙ c.in_default.is))

pub returns-in-Ok-clause-told : goal.returns-in-Ok-clause-told
returns-in-Ok-clause-told c = λ past.
    info_told past c.args.ty c.args.subtype.now c.args.name.now c.in-Some.kind c.in-Ok.info (sym c.kind_of.ensures.value ∙ c.in-Some.is) c.in-Ok.ensures.value

pub returns-in-Err-clause-untold : goal.returns-in-Err-clause-untold
returns-in-Err-clause-untold c = λ past.
    info_untold past c.args.ty c.args.subtype.now c.args.name.now c.in-Some.kind c.in-Err.refused (sym c.kind_of.ensures.value ∙ c.in-Some.is) c.in-Err.ensures.refused
