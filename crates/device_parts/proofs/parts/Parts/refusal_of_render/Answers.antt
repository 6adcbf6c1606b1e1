use Rattle.std.proofs.Common.{◌≡◌, ◌∙◌, ap}
use Rattle.seq_model.specs.Refusals.{first_of, refusal, refusals_of, refusals_of_render}
use Rattle.seq_model.specs.Steps.{Past, after}
use Rattle.object_steps.proofs.Standings.{led}
use Rattle.object_steps.specs.Resting.{past_of}
use Rattle.device_parts.specs.AllParts.{Inside}
use Rattle.device_parts.proofs.parts.Parts.refusal_of_render.Goals as goal

pub returns-clause-refusal : goal.returns-clause-refusal
unfolding refusal refusals_of
returns-clause-refusal c =
    let i = c.args.self.now in
    let stored = c.store.ensures ∙ ap (λ (i : Inside). i.objects.stored) c.self.view_is in
    let history = ap (λ (i : Inside). i.history) c.new-recorded.ensures in
    let rested : c.new-device.result ≡ record { stored = i.objects.stored; history = i.history } = c.new-device.ensures ∙ (λ k. record { stored = stored k; history = history k }) in
    let past : past_of c.new-device.result ≡ after i.history = ap past_of rested ∙ led i.objects.stored i.history c.are_parts.ensures.rest in
    c.refusal_by_walk-refused.ensures ∙ ap (λ (past : Past). first_of (refusals_of_render past c.args.frame)) past
