use Rattle.std.proofs.Common.{◌≡◌, ◌++◌, map, drop}
use Rattle.serde_json.specs.View.{view}
use Rattle.trace_text.specs.Places.{marks, placed}
use Rattle.trace_text.specs.Reading.{calls_of, checked}
use Rattle.trace_text.proofs.reader.+read_calls.Given as goal

-- from here on the other calls are checked, and they come after those that were read
abbrev pub invariant-loop-value : goal.invariant-loop-value
invariant-loop-value l = record {
  places : checked l.spot.version l.before (placed l.spot.phase l.spot.caller (marks l.spot.version l.loans_left (map view (drop l.value-index l.values))))
      ≡ checked l.spot.version l.initial.before (placed l.spot.phase l.spot.caller (marks l.spot.version l.loans_left (map view l.values)));
  calls : l.calls.items ++ calls_of l.spot.version (marks l.spot.version l.loans_left (map view (drop l.value-index l.values)))
      ≡ l.initial.calls.items ++ calls_of l.spot.version (marks l.spot.version l.loans_left (map view l.values));
}

abbrev pub decreases-read_calls : goal.decreases-read_calls
decreases-read_calls l = l.loans_left
