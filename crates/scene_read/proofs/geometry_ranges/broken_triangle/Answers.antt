use Rattle.std.proofs.Common.{◌≡◌, refl}
use Rattle.scene_read.proofs.ElementFacts.{count_read}
use Rattle.scene_read.specs.Shaped.{corners_at}
use Rattle.scene_read.proofs.geometry_ranges.broken_triangle.Goals as goal

pub returns : goal.returns
returns c =
    let corners : c.in_ok-numbers.numbers ≡ corners_at c.args.indices.now c.args.k = rw c.in_ok-numbers.was at c.corners_at.ensures in
    rw (c.first_broken.ensures, c.are_numbers-within.ensures, c.are_vertices-placed.ensures, c.count_in.ensures.value, corners, count_read c.args.positions.now) refl
