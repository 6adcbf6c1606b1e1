use Rattle.std.proofs.Common.{◌≡◌, ◌++◌, map, drop}
use Rattle.std.specs.Prelude.{option_map}
use Rattle.serde_json.specs.View.{view}
use Rattle.trace_text.specs.Json.{each, whole_of}
use Rattle.trace_text.proofs.json.wholes.Given as goal

-- what was found so far, before what the rest gives
abbrev pub invariant-loop-value : goal.invariant-loop-value
invariant-loop-value l = option_map (λ rest. l.numbers.items ++ rest) (each whole_of (map view (drop l.value-index l.values))) ≡ each whole_of (map view l.values)
