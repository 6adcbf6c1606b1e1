use Rattle.std.proofs.Common.{◌≡◌, ◌++◌, length}
use Rattle.ppm_out.specs.Ppm.{shown, KeepsFront}
use Rattle.ppm_out.proofs.images.push_pixels.Given as goal

-- what was added so far, and what is left to add, are the whole
abbrev pub invariant-pixels : goal.invariant-pixels
invariant-pixels l = record {
  whole : l.out.items ++ shown l.color l.pixels ≡ l.initial.out.items ++ shown l.color l.initial.pixels;
  kept : KeepsFront l.initial.out.items l.out.items;
}

abbrev pub decreases-pixels : goal.decreases-pixels
decreases-pixels l = length l.pixels
