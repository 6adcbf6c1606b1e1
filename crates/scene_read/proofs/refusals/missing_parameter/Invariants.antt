use Rattle.std.proofs.Common.{◌≡◌, drop, map}
use Rattle.std.specs.List.{find}
use Rattle.scene_read.specs.Starts.{visited_object}
use Rattle.scene_read.specs.Tested.{lacks}
use Rattle.scene_read.proofs.refusals.missing_parameter.Given as goal

-- the first one is among those that are left
abbrev pub invariant-loop-text : goal.invariant-loop-text
invariant-loop-text g l =
    find (lacks l.kind (visited_object (g.O.Objects.objects l.state) l.h)) (map (λ text. text.now) (drop l.text-index l.text-items))
    ≡ find (lacks l.kind (visited_object (g.O.Objects.objects l.state) l.h)) (map (λ text. text.now) l.text-items)
