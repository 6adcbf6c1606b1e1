use Rattle.std.proofs.Common.{◌∙◌, Option, ap, inl, subst, sym}
use Rattle.std.specs.Prelude.{IfErr}
use Rattle.std.specs.Option.{option_map_or}
use Rattle.seq_model.specs.Histories.{caller_of}
use Rattle.seq_model.specs.declared.calls.Call.TheVariants.{RenderFrame}
use Rattle.turn_lock.specs.Histories.{AddsOneCall}
use Rattle.turn_lock.specs.Passes.{caller_number, mine}
use Rattle.device_calls.specs.Passes.{HasDeclined}
use Rattle.device_calls.specs.Rendering.{RendersAt}
use Rattle.device_calls.specs.Sharing.{Given}
use Rattle.device_calls.proofs.PassFacts.{call_seen, grown_by, made_declined}
use Rattle.device_calls.proofs.RenderFacts.{is_ticketed, rendered_told, renders_adds}
use Rattle.device_calls.proofs.device.Device.render_frame.Goals as goal

pub leave-requires-clause-history : goal.leave-requires-clause-history
leave-requires-clause-history g c =
    let old = c.enter-held.result.state.parts.history in
    let now = c.render-made.new.self.parts.history in
    subst (λ h. AddsOneCall caller_of (caller_number c.enter-held.new.pass) h now) (sym c.enter-held.ensures.entered)
    (subst (λ n. AddsOneCall caller_of n old now) c.caller.ensures
    (renders_adds c.render-made.result.0 c.render-made.result.1 c.caller.result c.args.h old now c.render-made.ensures.made c.render-made.ensures.noted))

pub ticket_told-requires : goal.ticket_told-requires
ticket_told-requires g c =
    let old = c.enter-held.result.state.parts.history in
    let now = c.render-made.new.self.parts.history in
    is_ticketed c.in-Ok.reply c.in-Ok.out c.render-made.result.1 c.caller.result c.args.h old now
    (subst (λ made. RendersAt made c.render-made.result.1 c.caller.result c.args.h old now) c.in-Ok.is c.render-made.ensures.made)

pub returns-in-Ok-clause-sees : goal.returns-in-Ok-clause-sees
returns-in-Ok-clause-sees g c =
    let old = c.enter-held.result.state.parts.history in
    let now = c.render-made.new.self.parts.history in
    call_seen c.args.pass.now c.leave.new.pass old now c.caller.result
    (c.leave.ensures.caller ∙ c.enter-held.ensures.caller) (c.leave.ensures.share ∙ c.enter-held.ensures.share) (c.leave.ensures.fixed ∙ c.enter-held.ensures.same_fixed)
    c.enter-held.ensures.begins c.leave.ensures.seen
    (renders_adds c.render-made.result.0 c.render-made.result.1 c.caller.result c.args.h old now c.render-made.ensures.made c.render-made.ensures.noted) c.render-made.ensures.legal

pub returns-in-Err-clause-sees : goal.returns-in-Err-clause-sees
returns-in-Err-clause-sees g c =
    let old = c.enter-held.result.state.parts.history in
    let now = c.render-made.new.self.parts.history in
    call_seen c.args.pass.now c.leave.new.pass old now c.caller.result
    (c.leave.ensures.caller ∙ c.enter-held.ensures.caller) (c.leave.ensures.share ∙ c.enter-held.ensures.share) (c.leave.ensures.fixed ∙ c.enter-held.ensures.same_fixed)
    c.enter-held.ensures.begins c.leave.ensures.seen
    (renders_adds c.render-made.result.0 c.render-made.result.1 c.caller.result c.args.h old now c.render-made.ensures.made c.render-made.ensures.noted) c.render-made.ensures.legal

pub returns-in-Ok-clause-made : goal.returns-in-Ok-clause-made
returns-in-Ok-clause-made g c =
    let old = c.enter-held.result.state.parts.history in
    let now = c.render-made.new.self.parts.history in
    let grown = grown_by (mine c.args.pass.now) _ (mine c.leave.new.pass) _ old now c.leave.ensures.mine c.enter-held.ensures.mine c.enter-held.ensures.entered in
    (rendered_told c.in-Ok.reply c.in-Ok.out c.render-made.result.1 c.caller.result c.args.h c.args.pass.now c.leave.new.pass old now c.ticket_told.result c.ticket_told.ensures
    (c.caller.ensures ∙ c.enter-held.ensures.caller) c.enter-held.ensures.begins c.leave.ensures.seen grown
    (subst (λ made. RendersAt made c.render-made.result.1 c.caller.result c.args.h old now) c.in-Ok.is c.render-made.ensures.made)).0

pub returns-in-Ok-clause-refused : goal.returns-in-Ok-clause-refused
returns-in-Ok-clause-refused g c =
    let old = c.enter-held.result.state.parts.history in
    let now = c.render-made.new.self.parts.history in
    let grown = grown_by (mine c.args.pass.now) _ (mine c.leave.new.pass) _ old now c.leave.ensures.mine c.enter-held.ensures.mine c.enter-held.ensures.entered in
    (rendered_told c.in-Ok.reply c.in-Ok.out c.render-made.result.1 c.caller.result c.args.h c.args.pass.now c.leave.new.pass old now c.ticket_told.result c.ticket_told.ensures
    (c.caller.ensures ∙ c.enter-held.ensures.caller) c.enter-held.ensures.begins c.leave.ensures.seen grown
    (subst (λ made. RendersAt made c.render-made.result.1 c.caller.result c.args.h old now) c.in-Ok.is c.render-made.ensures.made)).1

pub returns-in-Err-clause-refused : goal.returns-in-Err-clause-refused
returns-in-Err-clause-refused g c =
    let old = c.enter-held.result.state.parts.history in
    let now = c.render-made.new.self.parts.history in
    let grown = grown_by (mine c.args.pass.now) _ (mine c.leave.new.pass) _ old now c.leave.ensures.mine c.enter-held.ensures.mine c.enter-held.ensures.entered in
    inl (subst (λ made. IfErr made (λ e. HasDeclined (RenderFrame c.args.h) e.0 c.args.pass.now c.leave.new.pass)) c.in-Err.is
    (made_declined c.render-made.result.0 (RenderFrame c.args.h) c.enter-held.result.state.limit c.args.pass.now c.leave.new.pass old now
    (ap (λ (o : Option Given). option_map_or (λ f. f.limit) o 0) c.enter-held.ensures.fixed) c.leave.ensures.seen grown c.render-made.ensures.noted c.render-made.ensures.cause))
