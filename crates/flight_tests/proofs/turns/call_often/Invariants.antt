use Rattle.std.proofs.Common.{◌≡◌, ◌≤◌, false}
use Rattle.turn_lock.specs.Passes.{IsPassOf, holding, share}
use Rattle.flight_tests.proofs.turns.call_often.Given as goal

abbrev pub invariant-loop : goal.invariant-loop
invariant-loop g l = IsPassOf l.turn l.pass × (holding l.pass ≡ false) × (share l.pass ≡ share l.initial.pass) × (l.made ≤ l.counter)
