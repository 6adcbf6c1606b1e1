use Rattle.std.proofs.Common.{◌≡◌, ◌++◌, map, take}
use Rattle.scene_read.specs.Starts.{parameter_starts}
use Rattle.scene_read.proofs.walks.push_parameters.Given as goal

abbrev pub invariant-loop-text : goal.invariant-loop-text
invariant-loop-text g l =
    l.starts.items ≡ l.initial.starts.items ++ parameter_starts (g.O.Objects.objects l.state) l.handle l.spot (map (λ text. text.now) (take l.text-index l.text-items))
