use Rattle.std.proofs.Common.{sym, ◌∙◌}
use Rattle.call_answers.proofs.PropertiesTold.{query_refused, refused_unasked}
use Rattle.call_answers.proofs.queries.refusal_of_query.Goals as goal

pub returns-in-Some : goal.returns-in-Some
returns-in-Some g c =
    sym (refused_unasked (g.S.Standing.past c.args.device.now) (g.S.Objects.objects c.args.device.now) (g.met.S.Standing.agrees c.args.device.now) c.args.h c.args.name.now
    c.in-Some.refused (sym c.refusal_of_asked.ensures ∙ c.in-Some.is))

pub returns : goal.returns
returns g c =
    query_refused (g.S.Standing.past c.args.device.now) (g.S.Objects.objects c.args.device.now) c.args.h c.args.name.now _ c.refusal_of_property.result
    (g.met.S.Standing.agrees c.args.device.now) (sym c.refusal_of_asked.ensures ∙ c.in_default.is) c.refusal_of_property.ensures
