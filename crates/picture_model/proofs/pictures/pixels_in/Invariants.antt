use Rattle.std.proofs.Common.{◌≡◌, ◌-◌}
use Rattle.picture_model.specs.Pictures.{in_a_row, pixel, row_of}
use Rattle.picture_model.proofs.pictures.pixels_in.Given as goal

abbrev pub invariant-loop-y : goal.invariant-loop-y
invariant-loop-y l = l.out.items ≡ in_a_row (row_of (pixel l.scene l.plane) l.rect) l.rect.y0 (l.y - l.rect.y0)
