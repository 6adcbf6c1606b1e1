use Rattle.std.proofs.Common.{◌≡◌, map, take}
use Rattle.serde_json.specs.View.{view}
use Rattle.trace_make.specs.Calls.{whole}
use Rattle.trace_make.proofs.calls.list_of_numbers.Given as goal

-- the numbers so far
abbrev pub invariant-loop-number : goal.invariant-loop-number
invariant-loop-number l = map view l.values.items ≡ map whole (take l.number-index l.numbers)
