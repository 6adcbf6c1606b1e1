use Rattle.std.proofs.Common.{◌≡◌, ◌++◌}
use Rattle.std.specs.List.{flat_map, range_with_len}
use Rattle.trace_make.specs.Calls.{written}
use Rattle.trace_make.specs.Draws.{draw, state_after}
use Rattle.trace_make.specs.Pictures.{picture_calls}
use Rattle.trace_make.proofs.pictures.render.Given as goal

-- the pictures so far
abbrev pub invariant-loop-picture : goal.invariant-loop-picture
invariant-loop-picture l = record {
  pictures : written l.calls ≡ written l.initial.calls ++ flat_map (λ f. picture_calls l.camera l.frame (draw l.initial.draws.state f 65536)) (range_with_len 0 l._picture);
  moved : l.draws.state ≡ state_after l.initial.draws.state l._picture;
}
