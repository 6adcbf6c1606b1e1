use Rattle.std.proofs.Common.{◌≡◌, ◌∙◌, ◌++◌, Some, ap, rules, sym}
use Rattle.seq_model.specs.Answers.{answer}
use Rattle.seq_model.specs.Steps.{step}
use Rattle.seq_model.specs.Told.{told_by}
use Rattle.seq_model.specs.declared.calls.Call.TheVariants.{RenderFrame}
use Rattle.seq_model.specs.declared.calls.Entry.TheVariants.{Called}
use Rattle.seq_model.specs.declared.calls.Reply.TheVariants as reply
use Rattle.plain_journal.proofs.StepFacts.{render_entry, rendered_is}
use Rattle.seq_model.specs.Endings.{reply_to}
use Rattle.past_laws.specs.Worlds.{render_of}
use Rattle.plain_device.proofs.steps.step.Given.{Over}
use Rattle.plain_device.proofs.steps.step.Goals as goal

pub enter_render-requires-clause-answered : goal.enter_render-requires-clause-answered
enter_render-requires-clause-answered g c =
    let answered : answer c.args.past.now c.args.call ≡ Some c.in-Ok.reply = search rules in
    let is : (c.args.call ≡ RenderFrame c.in-Some.h) × (c.in-Ok.reply ≡ reply.Done) =
    rendered_is c.args.actor c.in-Some.h c.args.call c.in-Ok.reply (sym (c.rendered.ensures c.args.actor) ∙ c.in-Some.is) in
    ap (answer c.args.past.now) (sym is.0) ∙ answered ∙ ap Some is.1

pub enter_call-requires-clause-plain : goal.enter_call-requires-clause-plain
enter_call-requires-clause-plain g c = sym (c.rendered.ensures c.args.actor) ∙ c.in-None.is

entry : (g : Over) (c : goal.Joined-call g) → render_of c.args.actor c.in-Some.h ≡ Called c.args.actor c.args.call (reply_to c.args.past.now c.args.call)
entry g c =
    let answered : answer c.args.past.now c.args.call ≡ Some c.in-Ok.reply = search rules in
    render_entry c.args.past.now c.args.actor c.in-Some.h c.args.call c.in-Ok.reply answered
    (rendered_is c.args.actor c.in-Some.h c.args.call c.in-Ok.reply (sym (c.rendered.ensures c.args.actor) ∙ c.in-Some.is))

pub returns-in-Ok-enter_render-clause-entered : goal.returns-in-Ok-enter_render-clause-entered
returns-in-Ok-enter_render-clause-entered g c =
    let entered : c.enter_render.new.self ≡ step c.args.past.now (render_of c.args.actor c.in-Some.h) = search rules in
    entered ∙ ap (step c.args.past.now) (entry g c)

pub returns-in-Ok-enter_render-clause-told : goal.returns-in-Ok-enter_render-clause-told
returns-in-Ok-enter_render-clause-told g c =
    let told : g.C.Client.notices c.enter_render.new.client ≡ g.C.Client.notices c.args.client.now ++ told_by c.args.past.now (render_of c.args.actor c.in-Some.h) = search rules in
    told ∙ ap (λ e. g.C.Client.notices c.args.client.now ++ told_by c.args.past.now e) (entry g c)
