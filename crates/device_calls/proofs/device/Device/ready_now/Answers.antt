use Rattle.std.proofs.Common.{◌∙◌, Option, ap, subst, sym}
use Rattle.std.specs.Option.{option_map_or}
use Rattle.device_parts.specs.declared.handed.Handed.TheVariants as hand
use Rattle.seq_model.specs.Histories.{caller_of}
use Rattle.seq_model.specs.declared.calls.Call.TheVariants.{FrameReady}
use Rattle.turn_lock.specs.Histories.{AddsOneCall}
use Rattle.turn_lock.specs.Passes.{caller_number, mine}
use Rattle.device_calls.specs.Sharing.{Given}
use Rattle.device_calls.proofs.PassFacts.{call_seen, grown_by, made_called, made_declined, notes_mine, some_adds}
use Rattle.device_calls.proofs.ReplyFacts.{are_readiness, ready_made}
use Rattle.device_calls.proofs.device.Device.ready_now.Goals as goal

pub leave-requires-clause-history : goal.leave-requires-clause-history
leave-requires-clause-history g c =
    let old = c.enter-held.result.state.parts.history in
    let now = c.ready-made.new.self.parts.history in
    subst (λ h. AddsOneCall caller_of (caller_number c.enter-held.new.pass) h now) (sym c.enter-held.ensures.entered)
    (subst (λ n. AddsOneCall caller_of n old now) c.caller.ensures
    (some_adds c.ready-made.result c.caller.result (FrameReady c.args.h c.args.wait) hand.Nothing old now c.ready-made.ensures.made c.ready-made.ensures.noted c.ready-made.ensures.waits))

pub returns-in-Some-clause-sees : goal.returns-in-Some-clause-sees
returns-in-Some-clause-sees g c =
    let old = c.enter-held.result.state.parts.history in
    let now = c.ready-made.new.self.parts.history in
    call_seen c.args.pass.now c.leave.new.pass old now c.caller.result
    (c.leave.ensures.caller ∙ c.enter-held.ensures.caller) (c.leave.ensures.share ∙ c.enter-held.ensures.share) (c.leave.ensures.fixed ∙ c.enter-held.ensures.same_fixed)
    c.enter-held.ensures.begins c.leave.ensures.seen
    (some_adds c.ready-made.result c.caller.result (FrameReady c.args.h c.args.wait) hand.Nothing old now c.ready-made.ensures.made c.ready-made.ensures.noted c.ready-made.ensures.waits)
    c.ready-made.ensures.legal

pub returns-in-None-clause-sees : goal.returns-in-None-clause-sees
returns-in-None-clause-sees g c =
    let old = c.enter-held.result.state.parts.history in
    let now = c.ready-made.new.self.parts.history in
    call_seen c.args.pass.now c.leave.new.pass old now c.caller.result
    (c.leave.ensures.caller ∙ c.enter-held.ensures.caller) (c.leave.ensures.share ∙ c.enter-held.ensures.share) (c.leave.ensures.fixed ∙ c.enter-held.ensures.same_fixed)
    c.enter-held.ensures.begins c.leave.ensures.seen
    (some_adds c.ready-made.result c.caller.result (FrameReady c.args.h c.args.wait) hand.Nothing old now c.ready-made.ensures.made c.ready-made.ensures.noted c.ready-made.ensures.waits)
    c.ready-made.ensures.legal

pub returns-in-None-clause-waits : goal.returns-in-None-clause-waits
returns-in-None-clause-waits g c =
    let old = c.enter-held.result.state.parts.history in
    let now = c.ready-made.new.self.parts.history in
    notes_mine c.args.pass.now c.leave.new.pass old now
    (grown_by (mine c.args.pass.now) _ (mine c.leave.new.pass) _ old now c.leave.ensures.mine c.enter-held.ensures.mine c.enter-held.ensures.entered) c.in-None.ensures.waits

pub ready_in-requires : goal.ready_in-requires
ready_in-requires g c =
    let old = c.enter-held.result.state.parts.history in
    let now = c.ready-made.new.self.parts.history in
    let grown = grown_by (mine c.args.pass.now) _ (mine c.leave.new.pass) _ old now c.leave.ensures.mine c.enter-held.ensures.mine c.enter-held.ensures.entered in
    are_readiness c.in-Some.made c.args.h c.args.wait c.args.pass.now c.leave.new.pass
    (made_called c.in-Some.made c.caller.result (FrameReady c.args.h c.args.wait) hand.Nothing c.args.pass.now c.leave.new.pass old now
    (c.caller.ensures ∙ c.enter-held.ensures.caller) c.enter-held.ensures.begins c.leave.ensures.seen grown c.in-Some.ensures.made)

pub returns-in-Some-clause-made : goal.returns-in-Some-clause-made
returns-in-Some-clause-made g c =
    let old = c.enter-held.result.state.parts.history in
    let now = c.ready-made.new.self.parts.history in
    let call = FrameReady c.args.h c.args.wait in
    let grown = grown_by (mine c.args.pass.now) _ (mine c.leave.new.pass) _ old now c.leave.ensures.mine c.enter-held.ensures.mine c.enter-held.ensures.entered in
    (ready_made c.in-Some.made c.args.h c.args.wait c.args.pass.now c.leave.new.pass c.ready_in.result c.ready_in.ensures
    (made_called c.in-Some.made c.caller.result call hand.Nothing c.args.pass.now c.leave.new.pass old now
    (c.caller.ensures ∙ c.enter-held.ensures.caller) c.enter-held.ensures.begins c.leave.ensures.seen grown c.in-Some.ensures.made)
    (made_declined c.in-Some.made call c.enter-held.result.state.limit c.args.pass.now c.leave.new.pass old now
    (ap (λ (o : Option Given). option_map_or (λ f. f.limit) o 0) c.enter-held.ensures.fixed) c.leave.ensures.seen grown c.in-Some.ensures.noted c.in-Some.ensures.cause)).0

pub returns-in-Some-clause-refused : goal.returns-in-Some-clause-refused
returns-in-Some-clause-refused g c =
    let old = c.enter-held.result.state.parts.history in
    let now = c.ready-made.new.self.parts.history in
    let call = FrameReady c.args.h c.args.wait in
    let grown = grown_by (mine c.args.pass.now) _ (mine c.leave.new.pass) _ old now c.leave.ensures.mine c.enter-held.ensures.mine c.enter-held.ensures.entered in
    (ready_made c.in-Some.made c.args.h c.args.wait c.args.pass.now c.leave.new.pass c.ready_in.result c.ready_in.ensures
    (made_called c.in-Some.made c.caller.result call hand.Nothing c.args.pass.now c.leave.new.pass old now
    (c.caller.ensures ∙ c.enter-held.ensures.caller) c.enter-held.ensures.begins c.leave.ensures.seen grown c.in-Some.ensures.made)
    (made_declined c.in-Some.made call c.enter-held.result.state.limit c.args.pass.now c.leave.new.pass old now
    (ap (λ (o : Option Given). option_map_or (λ f. f.limit) o 0) c.enter-held.ensures.fixed) c.leave.ensures.seen grown c.in-Some.ensures.noted c.in-Some.ensures.cause)).1
