use Rattle.std.proofs.Common.{◌∙◌, Option, ap, subst, sym}
use Rattle.std.specs.Option.{option_map_or}
use Rattle.seq_model.specs.Histories.{caller_of}
use Rattle.seq_model.specs.Legal.{Legal}
use Rattle.seq_model.specs.Steps.{after}
use Rattle.turn_lock.proofs.PlaceLaws.{extends-later}
use Rattle.turn_lock.specs.Histories.{AddsOneCall, Extends}
use Rattle.turn_lock.specs.Passes.{caller_number, mine, seen}
use Rattle.device_calls.specs.Sharing.{Given}
use Rattle.device_calls.proofs.PassFacts.{adds_one, grown_by, made_called, made_declined}
use Rattle.device_calls.proofs.device.Device.make.Goals as goal

pub step-made-requires-clause-awake : goal.step-made-requires-clause-awake
step-made-requires-clause-awake g c = c.requires.awake (after c.enter-held.result.state.parts.history)

pub leave-requires-clause-history : goal.leave-requires-clause-history
leave-requires-clause-history g c =
    let old = c.enter-held.result.state.parts.history in
    let now = c.step-made.new.self.parts.history in
    subst (λ h. AddsOneCall caller_of (caller_number c.enter-held.new.pass) h now) (sym c.enter-held.ensures.entered)
    (subst (λ n. AddsOneCall caller_of n old now) c.caller.ensures
    (adds_one c.step-made.result c.caller.result c.args.call c.args.with old now c.step-made.ensures.made c.step-made.ensures.noted))

pub returns-clause-sees : goal.returns-clause-sees
returns-clause-sees g c =
    let old = c.enter-held.result.state.parts.history in
    let now = c.step-made.new.self.parts.history in
    let later : Extends old now = (adds_one c.step-made.result c.caller.result c.args.call c.args.with old now c.step-made.ensures.made c.step-made.ensures.noted).0 in
    record {
      caller = c.leave.ensures.caller ∙ c.enter-held.ensures.caller;
      share = c.leave.ensures.share ∙ c.enter-held.ensures.share;
      fixed = c.leave.ensures.fixed ∙ c.enter-held.ensures.same_fixed;
      later = subst (Extends (seen c.args.pass.now)) (sym c.leave.ensures.seen) (extends-later (seen c.args.pass.now) old now c.enter-held.ensures.begins later);
      legal = subst Legal (sym c.leave.ensures.seen) c.step-made.ensures.legal;
    }

pub returns-clause-made : goal.returns-clause-made
returns-clause-made g c =
    let old = c.enter-held.result.state.parts.history in
    let now = c.step-made.new.self.parts.history in
    let grown = grown_by (mine c.args.pass.now) _ (mine c.leave.new.pass) _ old now c.leave.ensures.mine c.enter-held.ensures.mine c.enter-held.ensures.entered in
    made_called c.step-made.result c.caller.result c.args.call c.args.with c.args.pass.now c.leave.new.pass old now
    (c.caller.ensures ∙ c.enter-held.ensures.caller) c.enter-held.ensures.begins c.leave.ensures.seen grown c.step-made.ensures.made

pub returns-clause-declined : goal.returns-clause-declined
returns-clause-declined g c =
    let old = c.enter-held.result.state.parts.history in
    let now = c.step-made.new.self.parts.history in
    let grown = grown_by (mine c.args.pass.now) _ (mine c.leave.new.pass) _ old now c.leave.ensures.mine c.enter-held.ensures.mine c.enter-held.ensures.entered in
    made_declined c.step-made.result c.args.call c.enter-held.result.state.limit c.args.pass.now c.leave.new.pass old now
    (ap (λ (o : Option Given). option_map_or (λ f. f.limit) o 0) c.enter-held.ensures.fixed) c.leave.ensures.seen grown c.step-made.ensures.noted c.step-made.ensures.cause
