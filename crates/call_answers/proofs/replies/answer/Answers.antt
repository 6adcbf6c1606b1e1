use Rattle.std.proofs.Common.{◌≡◌, Some, subst, sym}
use Rattle.std.specs.Prelude.{IfOk}
use Rattle.seq_model.specs.Answers.{answer}
use Rattle.seq_model.specs.declared.calls.Call.TheVariants.{GetProperty, ObjectInfo, ParameterInfo, Subtypes}
use Rattle.call_answers.proofs.QueriesTold.{replied_is}
use Rattle.call_answers.proofs.replies.answer.Goals as goal

pub returns-in-GetProperty-clause-answered : goal.returns-in-GetProperty-clause-answered
returns-in-GetProperty-clause-answered g c =
    subst (λ call. IfOk c.replied.result (λ reply. answer (g.S.Standing.past c.args.device.now) call ≡ Some reply)) (sym c.in-GetProperty.is)
    (replied_is (g.S.Standing.past c.args.device.now) (GetProperty c.in-GetProperty.h c.in-GetProperty.name) _ c.told_property.result c.replied.result c.replied.ensures
    c.told_property.ensures.told c.told_property.ensures.untold)

pub returns-in-Subtypes-clause-answered : goal.returns-in-Subtypes-clause-answered
returns-in-Subtypes-clause-answered g c =
    subst (λ call. IfOk c.replied-in-Subtypes.result (λ reply. answer (g.S.Standing.past c.args.device.now) call ≡ Some reply)) (sym c.in-Subtypes.is)
    (replied_is (g.S.Standing.past c.args.device.now) (Subtypes c.in-Subtypes.ty) _ c.told_subtypes.result c.replied-in-Subtypes.result c.replied-in-Subtypes.ensures
    (c.told_subtypes.ensures.told (g.S.Standing.past c.args.device.now)) (c.told_subtypes.ensures.untold (g.S.Standing.past c.args.device.now)))

pub returns-in-ObjectInfo-clause-answered : goal.returns-in-ObjectInfo-clause-answered
returns-in-ObjectInfo-clause-answered g c =
    subst (λ call. IfOk c.replied-in-ObjectInfo.result (λ reply. answer (g.S.Standing.past c.args.device.now) call ≡ Some reply)) (sym c.in-ObjectInfo.is)
    (replied_is (g.S.Standing.past c.args.device.now) (ObjectInfo c.in-ObjectInfo.ty c.in-ObjectInfo.subtype) _ c.told_parameters.result c.replied-in-ObjectInfo.result c.replied-in-ObjectInfo.ensures
    (c.told_parameters.ensures.told (g.S.Standing.past c.args.device.now)) (c.told_parameters.ensures.untold (g.S.Standing.past c.args.device.now)))

pub returns-in-ParameterInfo-clause-answered : goal.returns-in-ParameterInfo-clause-answered
returns-in-ParameterInfo-clause-answered g c =
    subst (λ call. IfOk c.replied-in-ParameterInfo.result (λ reply. answer (g.S.Standing.past c.args.device.now) call ≡ Some reply)) (sym c.in-ParameterInfo.is)
    (replied_is (g.S.Standing.past c.args.device.now) (ParameterInfo c.in-ParameterInfo.ty c.in-ParameterInfo.subtype c.in-ParameterInfo.name) _ c.told_info.result c.replied-in-ParameterInfo.result c.replied-in-ParameterInfo.ensures
    (c.told_info.ensures.told (g.S.Standing.past c.args.device.now)) (c.told_info.ensures.untold (g.S.Standing.past c.args.device.now)))
