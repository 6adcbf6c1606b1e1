use Rattle.std.proofs.Common.{◌≡◌, drop}
use Rattle.kind_tables.specs.WalkRefusals.{first_out_of_range}
use Rattle.scene_read.specs.Starts.{all_seen}
use Rattle.scene_read.proofs.refusals.first_out_of_range.Given as goal

-- the first one is among those that are left
abbrev pub invariant-loop-visit : goal.invariant-loop-visit
invariant-loop-visit g l =
    first_out_of_range (g.O.Objects.objects l.state) (all_seen (g.O.Objects.objects l.state) (drop l.visit-index l.visits))
    ≡ first_out_of_range (g.O.Objects.objects l.state) (all_seen (g.O.Objects.objects l.state) l.visits)
