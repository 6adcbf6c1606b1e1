use Rattle.std.proofs.Common.{◌≡◌, ◌≤◌, ◌++◌}
use Rattle.ppm_out.specs.Ppm.{from_top, KeepsFront}
use Rattle.ppm_out.proofs.images.push_rows.Given as goal

-- the rows so far, and those that are left, are all rows
abbrev pub invariant-rows : goal.invariant-rows
invariant-rows l = record {
  below : l.y ≤ l.frame.h;
  whole : l.out.items ++ from_top l.frame.color l.frame.w l.frame.rows l.y ≡ l.initial.out.items ++ from_top l.frame.color l.frame.w l.frame.rows l.frame.h;
  kept : KeepsFront l.initial.out.items l.out.items;
}

abbrev pub decreases-rows : goal.decreases-rows
decreases-rows l = l.y
