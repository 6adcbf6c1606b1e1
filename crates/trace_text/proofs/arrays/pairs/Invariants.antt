use Rattle.std.proofs.Common.{◌≡◌, ◌++◌, map, drop}
use Rattle.std.specs.Prelude.{option_map}
use Rattle.serde_json.specs.View.{view}
use Rattle.trace_text.specs.Json.{each}
use Rattle.trace_text.specs.Forms.{pair_of}
use Rattle.trace_text.proofs.arrays.pairs.Given as goal

-- what was found so far, before what the rest gives
abbrev pub invariant-loop-value : goal.invariant-loop-value
invariant-loop-value l = option_map (λ rest. l.pairs.items ++ rest) (each pair_of (map view (drop l.value-index l.values))) ≡ each pair_of (map view l.values)
