use Rattle.std.proofs.Common.{inl, inr, sym, ◌∙◌}
use Rattle.call_answers.proofs.QueriesTold.{no_parameters, parameters_told}
use Rattle.call_answers.proofs.queries.told_parameters.Goals as goal

pub returns-in_default-clause-untold : goal.returns-in_default-clause-untold
returns-in_default-clause-untold c = λ past. inr (no_parameters past c.args.ty c.args.subtype.now (sym c.kind_of.ensures.value ∙ c.in_default.is))

pub returns-in-Ok-clause-told : goal.returns-in-Ok-clause-told
returns-in-Ok-clause-told c = λ past.
    parameters_told past c.args.ty c.args.subtype.now c.in-Some.kind c.in-Ok.parameters (sym c.kind_of.ensures.value ∙ c.in-Some.is) c.in-Ok.ensures.value

pub returns-in-Err-clause-untold : goal.returns-in-Err-clause-untold
returns-in-Err-clause-untold c = λ past. inl c.in-Err.ensures.refused
