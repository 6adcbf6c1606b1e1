use Rattle.std.proofs.Common.{◌∙◌, subst, sym}
use Rattle.seq_model.specs.Histories.{caller_of}
use Rattle.turn_lock.proofs.PlaceLaws.{adds-notes}
use Rattle.turn_lock.specs.Histories.{AddsOneCall}
use Rattle.turn_lock.specs.Passes.{caller_number, mine}
use Rattle.device_calls.proofs.PassFacts.{grown_by, notes_mine, notes_seen}
use Rattle.device_calls.proofs.device.Device.take_work.Goals as goal

pub leave-requires-clause-history : goal.leave-requires-clause-history
leave-requires-clause-history g c =
    let old = c.enter-held.result.state.parts.history in
    let now = c.take_work-taken.new.self.parts.history in
    let notes = c.take_work-taken.ensures.noted in
    subst (λ h. AddsOneCall caller_of (caller_number c.enter-held.new.pass) h now) (sym c.enter-held.ensures.entered)
    (subst (λ h. AddsOneCall caller_of (caller_number c.enter-held.new.pass) old h) (sym notes.1) (adds-notes caller_of (caller_number c.enter-held.new.pass) old notes.0 notes.2))

pub returns-clause-sees : goal.returns-clause-sees
returns-clause-sees g c =
    notes_seen c.args.pass.now c.leave.new.pass c.enter-held.result.state.parts.history c.take_work-taken.new.self.parts.history
    (c.leave.ensures.caller ∙ c.enter-held.ensures.caller) (c.leave.ensures.share ∙ c.enter-held.ensures.share) (c.leave.ensures.fixed ∙ c.enter-held.ensures.same_fixed)
    c.enter-held.ensures.begins c.leave.ensures.seen c.take_work-taken.ensures.noted c.take_work-taken.ensures.legal

pub returns-clause-mine : goal.returns-clause-mine
returns-clause-mine g c =
    let old = c.enter-held.result.state.parts.history in
    let now = c.take_work-taken.new.self.parts.history in
    notes_mine c.args.pass.now c.leave.new.pass old now
    (grown_by (mine c.args.pass.now) _ (mine c.leave.new.pass) _ old now c.leave.ensures.mine c.enter-held.ensures.mine c.enter-held.ensures.entered) c.take_work-taken.ensures.noted
