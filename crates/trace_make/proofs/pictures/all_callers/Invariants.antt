use Rattle.std.proofs.Common.{◌≡◌, ◌*◌, map}
use Rattle.std.specs.List.{range_with_len}
use Rattle.serde_json.specs.View.{view}
use Rattle.trace_make.specs.Calls.{list}
use Rattle.trace_make.specs.Draws.{state_after}
use Rattle.trace_make.specs.Pictures.{caller_calls}
use Rattle.trace_make.proofs.pictures.all_callers.Given as goal

-- the first q callers
abbrev pub invariant-loop-q : goal.invariant-loop-q
invariant-loop-q l = record {
  callers : map view l.values.items ≡ map list (map (caller_calls l.initial.draws.state l.frames) (range_with_len 0 l.q));
  moved : l.draws.state ≡ state_after l.initial.draws.state (l.frames * l.q);
}
