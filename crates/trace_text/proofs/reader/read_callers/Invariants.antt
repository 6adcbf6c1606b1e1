use Rattle.std.proofs.Common.{◌≡◌, ◌++◌, map, drop}
use Rattle.std.specs.List.{flat_map}
use Rattle.serde_json.specs.View.{view}
use Rattle.trace_text.specs.Places.{caller_places, numbered}
use Rattle.trace_text.specs.Reading.{caller_of, checked}
use Rattle.trace_text.proofs.reader.read_callers.Given as goal

-- from here on the other callers are checked, and they come after those that were read
abbrev pub invariant-loop-value : goal.invariant-loop-value
invariant-loop-value l = record {
  number : l.caller ≡ l.value-index;
  places : checked l.version l.before (flat_map (caller_places l.version l.phase) (numbered l.caller (map view (drop l.value-index l.values))))
      ≡ checked l.version l.initial.before (flat_map (caller_places l.version l.phase) (numbered 0 (map view l.values)));
  callers : l.callers.items ++ map (caller_of l.version) (map view (drop l.value-index l.values)) ≡ map (caller_of l.version) (map view l.values);
}
