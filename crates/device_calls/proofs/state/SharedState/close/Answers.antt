use Rattle.std.proofs.Common.{sym, subst}
use Rattle.device_calls.specs.Holds.{AddsNotes}
use Rattle.device_calls.specs.Sharing.{IsShared, told_first}
use Rattle.device_calls.proofs.CloseFacts.{close_adds, halts_add, halts_tell}
use Rattle.device_calls.proofs.HoldFacts.{notes_through, tells_through, told_is}
use Rattle.device_calls.proofs.state.SharedState.close.Goals as goal

pub returns-in-Ok-clause-journal : goal.returns-in-Ok-clause-journal
returns-in-Ok-clause-journal g c =
    let old = c.args.self in
    let device = c.loop.device in
    let closed = c.in-Ok.ensures.closed in
    subst (AddsNotes old.parts.history) (sym closed.3)
    (close_adds old.parts.history closed.0.parts.history
    (notes_through old.parts.history device.parts.history closed.0.parts.history c.loop.invariant.3 (halts_add device closed.0 closed.1)))

pub returns-in-Ok-clause-told : goal.returns-in-Ok-clause-told
returns-in-Ok-clause-told g c =
    let old = c.args.self in
    c.in-Ok.ensures.told (told_first old) (c.loop.invariant.4 (told_first old) (told_is old (subst IsShared c.self.view_is c.self.invariant)))

pub loop-preserved : goal.loop-preserved
loop-preserved g c =
    let old = c.args.self in
    let device = c.loop.device in
    let still = c.in-Err.still in
    let halts = c.in-Err.ensures.open_.0 in (
      tt,
      tt,
      c.in-Err.ensures.home,
      notes_through old.parts.history device.parts.history still.parts.history c.loop.invariant.3 (halts_add device still halts),
      tells_through old device still c.loop.invariant.4 (halts_tell device still halts),
    )
