use Rattle.std.proofs.Common.{◌≡◌, drop}
use Rattle.kind_tables.specs.Ranges.{first_broken}
use Rattle.scene_read.specs.Tested.{tests_in}
use Rattle.scene_read.proofs.ranges.first_broken.Given as goal

-- the first one is among those that are left
abbrev pub invariant-loop-name : goal.invariant-loop-name
invariant-loop-name l = first_broken (tests_in (drop l.name-index l.tests)) ≡ first_broken (tests_in l.tests)
