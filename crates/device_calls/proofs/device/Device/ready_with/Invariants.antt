use Rattle.std.proofs.Common.{◌≡◌, false}
use Rattle.turn_lock.specs.Histories.{Extends}
use Rattle.turn_lock.specs.Passes.{IsPassOf, caller_number, fixed, holding, mine, seen, share}
use Rattle.device_calls.proofs.device.Device.ready_with.Given as goal

abbrev pub invariant-loop : goal.invariant-loop
invariant-loop g l =
    (goal.iterator-loop g).can_next l.iterator' × (goal.iterator-loop g).is_finite l.iterator'
    × IsPassOf l.self.turn l.pass × (holding l.pass ≡ false) × (caller_number l.pass ≡ caller_number l.fn.pass) × (share l.pass ≡ share l.fn.pass)
    × (fixed l.pass ≡ fixed l.fn.pass) × Extends (seen l.fn.pass) (seen l.pass) × (mine l.pass ≡ mine l.fn.pass)
