use Rattle.std.proofs.Common.{◌≡◌, ◌∙◌, Some, ap, subst, sym}
use Rattle.std.specs.Prelude.{IfOk, IsSome}
use Rattle.seq_model.specs.Answers.{answer}
use Rattle.seq_model.specs.Steps.{Past, after}
use Rattle.object_steps.proofs.Standings.{led}
use Rattle.object_steps.specs.Resting.{past_of}
use Rattle.device_parts.specs.AllParts.{Inside}
use Rattle.device_parts.proofs.parts.Parts.readiness.Goals as goal

pub answer-requires-clause-answered : goal.answer-requires-clause-answered
answer-requires-clause-answered c =
    let i = c.args.self.now in
    let stored = c.store.ensures ∙ ap (λ (i : Inside). i.objects.stored) c.self.view_is in
    let history = ap (λ (i : Inside). i.history) c.new-recorded.ensures in
    let rested : c.new-device.result ≡ record { stored = i.objects.stored; history = i.history } = c.new-device.ensures ∙ (λ k. record { stored = stored k; history = history k }) in
    let past : past_of c.new-device.result ≡ after i.history = ap past_of rested ∙ led i.objects.stored i.history c.are_parts.ensures.rest in
    subst (λ (past : Past). IsSome (answer past c.args.call.now)) (sym past) c.requires.awake

pub returns-clause-answered : goal.returns-clause-answered
returns-clause-answered c =
    let i = c.args.self.now in
    let stored = c.store.ensures ∙ ap (λ (i : Inside). i.objects.stored) c.self.view_is in
    let history = ap (λ (i : Inside). i.history) c.new-recorded.ensures in
    let rested : c.new-device.result ≡ record { stored = i.objects.stored; history = i.history } = c.new-device.ensures ∙ (λ k. record { stored = stored k; history = history k }) in
    let past : past_of c.new-device.result ≡ after i.history = ap past_of rested ∙ led i.objects.stored i.history c.are_parts.ensures.rest in
    subst (λ (past : Past). IfOk c.answer.result (λ reply. answer past c.args.call.now ≡ Some reply)) past c.answer.ensures.answered
