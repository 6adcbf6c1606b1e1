use Rattle.std.proofs.Common.{◌≡◌, inr, sym, subst, ◌∙◌, Some}
use Rattle.kind_tables.specs.Typed.{AreFit}
use Rattle.seq_model.specs.Answers.{is_done}
use Rattle.device_queries.specs.Properties.{property_at}
use Rattle.call_answers.proofs.PropertiesTold.{asked_is_there, past_is_fit, refusal_replied, unasked_replied, value_replied}
use Rattle.call_answers.proofs.queries.told_property.Goals as goal

pub property-requires : goal.property-requires
property-requires g c =
    asked_is_there (g.S.Standing.past c.args.device.now) (g.S.Objects.objects c.args.device.now) (g.met.S.Standing.agrees c.args.device.now) c.args.h c.args.name.now
    (sym c.refusal_of_asked.ensures ∙ c.in_default.is)

pub returns-in-Some-clause-untold : goal.returns-in-Some-clause-untold
returns-in-Some-clause-untold g c =
    inr (unasked_replied (g.S.Standing.past c.args.device.now) (g.S.Objects.objects c.args.device.now) (g.met.S.Standing.agrees c.args.device.now) c.args.h c.args.name.now
    c.in-Some.refused (sym c.refusal_of_asked.ensures ∙ c.in-Some.is))

pub returns-in-Ok-clause-told : goal.returns-in-Ok-clause-told
returns-in-Ok-clause-told g c =
    let fit : AreFit (g.S.Objects.objects c.args.device.now) =
    past_is_fit (g.S.Standing.past c.args.device.now) (g.S.Objects.objects c.args.device.now) (g.met.S.Standing.agrees c.args.device.now) c.is_legal.ensures.led c.is_legal.ensures.legal in
    value_replied (g.S.Standing.past c.args.device.now) (g.S.Objects.objects c.args.device.now) (g.met.S.Standing.agrees c.args.device.now) c.args.h c.args.name.now
    c.in-Ok.value (sym c.refusal_of_asked.ensures ∙ c.in_default.is) c.in-Ok.ensures.told
    (subst (λ d. property_at (g.S.Objects.objects c.args.device.now) c.args.h d ≡ Some c.in-Ok.value) c.is_done.ensures (c.in-Ok.ensures.value fit))

pub returns-in-Err-clause-untold : goal.returns-in-Err-clause-untold
returns-in-Err-clause-untold g c =
    refusal_replied (g.S.Standing.past c.args.device.now) (g.S.Objects.objects c.args.device.now) (g.met.S.Standing.agrees c.args.device.now) c.args.h c.args.name.now
    c.in-Err.refused (sym c.refusal_of_asked.ensures ∙ c.in_default.is) c.in-Err.ensures.refused
