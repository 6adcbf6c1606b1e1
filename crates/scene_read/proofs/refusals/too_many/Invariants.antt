use Rattle.std.proofs.Common.{◌≡◌, ◌≤◌, ◌+◌, drop}
use Rattle.scene_read.specs.Counted.{count_of}
use Rattle.scene_read.specs.Starts.{all_seen}
use Rattle.scene_read.proofs.refusals.too_many.Given as goal

-- within the limit so far, and what is left makes up the whole
abbrev pub invariant-loop-visit : goal.invariant-loop-visit
invariant-loop-visit g l =
    (l.count ≤ l.most)
    × (l.count + count_of l.limit (g.O.Objects.objects l.state) (all_seen (g.O.Objects.objects l.state) (drop l.visit-index l.visits))
    ≡ count_of l.limit (g.O.Objects.objects l.state) (all_seen (g.O.Objects.objects l.state) l.visits))
