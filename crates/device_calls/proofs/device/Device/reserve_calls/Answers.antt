use Rattle.std.proofs.Common.{◌∙◌, [], refl, subst, sym}
use Rattle.std.proofs.lemmas.List.{append-nil}
use Rattle.seq_model.specs.Histories.{caller_of}
use Rattle.turn_lock.proofs.PlaceLaws.{adds-notes}
use Rattle.turn_lock.specs.Histories.{AddsOneCall}
use Rattle.turn_lock.specs.Passes.{caller_number, mine}
use Rattle.device_calls.specs.Holds.{AddsNotes}
use Rattle.device_calls.proofs.PassFacts.{grown_by, notes_mine, notes_seen}
use Rattle.device_calls.proofs.device.Device.reserve_calls.Goals as goal

pub leave-requires-clause-history : goal.leave-requires-clause-history
leave-requires-clause-history g c =
    let old = c.enter-held.result.state.parts.history in
    let now = c.reserve_calls-reserved.new.self.parts.history in
    let none : AddsNotes old now = ([], c.reserve_calls-reserved.ensures.history ∙ sym (append-nil old), refl) in
    subst (λ h. AddsOneCall caller_of (caller_number c.enter-held.new.pass) h now) (sym c.enter-held.ensures.entered)
    (subst (λ h. AddsOneCall caller_of (caller_number c.enter-held.new.pass) old h) (sym none.1) (adds-notes caller_of (caller_number c.enter-held.new.pass) old none.0 none.2))

pub returns-clause-sees : goal.returns-clause-sees
returns-clause-sees g c =
    let old = c.enter-held.result.state.parts.history in
    notes_seen c.args.pass.now c.leave.new.pass old c.reserve_calls-reserved.new.self.parts.history
    (c.leave.ensures.caller ∙ c.enter-held.ensures.caller) (c.leave.ensures.share ∙ c.enter-held.ensures.share) (c.leave.ensures.fixed ∙ c.enter-held.ensures.same_fixed)
    c.enter-held.ensures.begins c.leave.ensures.seen ([], c.reserve_calls-reserved.ensures.history ∙ sym (append-nil old), refl) c.reserve_calls-reserved.ensures.legal

pub returns-clause-mine : goal.returns-clause-mine
returns-clause-mine g c =
    let old = c.enter-held.result.state.parts.history in
    let now = c.reserve_calls-reserved.new.self.parts.history in
    notes_mine c.args.pass.now c.leave.new.pass old now
    (grown_by (mine c.args.pass.now) _ (mine c.leave.new.pass) _ old now c.leave.ensures.mine c.enter-held.ensures.mine c.enter-held.ensures.entered)
    ([], c.reserve_calls-reserved.ensures.history ∙ sym (append-nil old), refl)
