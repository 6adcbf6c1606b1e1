use Rattle.std.proofs.Common.{◌∙◌, ap, subst}
use Rattle.std.specs.Prelude.{OnErr}
use Rattle.device_core.specs.States.{Device}
use Rattle.device_parts.specs.declared.handed.Handed.TheVariants as hand
use Rattle.seq_model.specs.declared.calls.Call.TheVariants.{RenderFrame}
use Rattle.device_calls.specs.Holds.{AddsNotes}
use Rattle.device_calls.specs.Rendering.{RendersAt}
use Rattle.device_calls.specs.Sharing.{given_of}
use Rattle.device_calls.proofs.HoldFacts.{given_stays, made_limit, made_notes, made_tells}
use Rattle.device_calls.proofs.RenderFacts.{renders_at}
use Rattle.device_calls.proofs.state.SharedState.render.Goals as goal

pub returns-clause-made : goal.returns-clause-made
returns-clause-made g c =
    let new = c.step-made.new.self in
    subst (λ (old : Device). RendersAt c.step-made.result c.ticket-ticket.result c.args.actor c.args.h old.parts.history new.parts.history) c.self.view_is
    (renders_at c.step-made.result c.ticket-ticket.result c.args.actor c.args.h c.self.inside.device new c.step-made.ensures.stepped c.is_device.ensures.kept c.ticket-ticket.ensures.flight)

pub returns-clause-noted : goal.returns-clause-noted
returns-clause-noted g c =
    let new = c.step-made.new.self in
    subst (λ (old : Device). OnErr c.step-made.result (AddsNotes old.parts.history new.parts.history)) c.self.view_is
    (made_notes c.step-made.result c.args.actor (RenderFrame c.args.h) hand.Nothing c.self.inside.device new c.step-made.ensures.stepped c.step-made.ensures.declined)

pub returns-clause-given : goal.returns-clause-given
returns-clause-given g c =
    let old = c.self.inside.device in
    let new = c.step-made.new.self in
    given_stays old new c.self.invariant
    (made_tells c.step-made.result c.args.actor (RenderFrame c.args.h) hand.Nothing old new c.step-made.ensures.stepped c.step-made.ensures.declined)
    (made_limit c.step-made.result c.args.actor (RenderFrame c.args.h) hand.Nothing old new c.step-made.ensures.stepped c.step-made.ensures.declined)
    ∙ ap given_of c.self.view_is
