use Rattle.std.proofs.Common.{◌≡◌, drop}
use Rattle.kind_tables.specs.WalkRefusals.{first_mapped}
use Rattle.scene_read.specs.Starts.{all_seen}
use Rattle.scene_read.proofs.refusals.first_mapped.Given as goal

-- the first one is among those that are left
abbrev pub invariant-loop-visit : goal.invariant-loop-visit
invariant-loop-visit g l = first_mapped (all_seen (g.O.Objects.objects l.state) (drop l.visit-index l.visit-items)) ≡ first_mapped (all_seen (g.O.Objects.objects l.state) l.visits)
