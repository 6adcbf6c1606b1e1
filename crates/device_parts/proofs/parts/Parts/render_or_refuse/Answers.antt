use Rattle.std.proofs.Common.{◌≡◌, ◌∙◌, ℕ, Option, None, Some, ap, sym}
use Rattle.std.specs.Option.{option_map, option_or}
use Rattle.answered_calls.specs.Tells.{with_given}
use Rattle.seq_model.specs.Answers.{answer}
use Rattle.seq_model.specs.Refusals.{refusal}
use Rattle.seq_model.specs.Steps.{Past, after}
use Rattle.seq_model.specs.declared.calls.Call.TheVariants.{RenderFrame}
use Rattle.seq_model.specs.declared.calls.Reply.TheVariants as reply
use Rattle.dev_types.specs.declared.refusals.Refused.{Refused}
use Rattle.device_parts.specs.Looks.{given_of}
use Rattle.device_parts.proofs.parts.Parts.render_or_refuse.Goals as goal

-- a render that is not refused is done, and one that is refused is denied
render_answer : (past : Past) (f : ℕ) (x : Option Refused) → x ≡ refusal past (RenderFrame f) → answer past (RenderFrame f) ≡ option_or (option_map reply.Denied x) (Some reply.Done)
unfolding answer
render_answer past f x is = ap (λ x. option_or (option_map reply.Denied x) (Some reply.Done)) (sym is)

pub returns-in-None-clause-answered : goal.returns-in-None-clause-answered
returns-in-None-clause-answered c =
    ap (option_map (with_given (given_of c.args.self.now.flights.future c.args.frame)))
    (render_answer (after c.args.self.now.history) c.args.frame None (sym c.in-None.is ∙ c.in_ok-visits.ensures.refusal))

pub enter_told-requires-clause-answered : goal.enter_told-requires-clause-answered
enter_told-requires-clause-answered c =
    render_answer (after c.args.self.now.history) c.args.frame (Some c.in-Some.refused) (sym c.in-Some.is ∙ c.in_ok-visits.ensures.refusal)

pub returns-in-Ok-clause-answered : goal.returns-in-Ok-clause-answered
returns-in-Ok-clause-answered c =
    ap (option_map (with_given (given_of c.args.self.now.flights.future c.args.frame)))
    (render_answer (after c.args.self.now.history) c.args.frame (Some c.in-Some.refused) (sym c.in-Some.is ∙ c.in_ok-visits.ensures.refusal))
    ∙ ap Some (sym c.in-Ok.ensures.told)
