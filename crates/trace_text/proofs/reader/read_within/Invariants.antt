use Rattle.std.proofs.Common.{◌≡◌, ◌++◌, map, drop}
use Rattle.std.specs.List.{flat_map}
use Rattle.serde_json.specs.View.{view}
use Rattle.trace_text.specs.Places.{phase_places, numbered}
use Rattle.trace_text.specs.Reading.{phase_of, checked}
use Rattle.trace_text.proofs.reader.read_within.Given as goal

-- from here on the other phases are checked, and they come after those that were read
abbrev pub invariant-loop-value : goal.invariant-loop-value
invariant-loop-value l = record {
  number : l.number ≡ l.value-index;
  places : checked l.version l.before (flat_map (phase_places l.version) (numbered l.number (map view (drop l.value-index l.values))))
      ≡ checked l.version l.initial.before (flat_map (phase_places l.version) (numbered 0 (map view l.values)));
  phases : l.phases.items ++ map (phase_of l.version) (map view (drop l.value-index l.values)) ≡ map (phase_of l.version) (map view l.values);
}
