use Rattle.std.proofs.Common.{◌≡◌, ◌*◌, length, take}
use Rattle.picture_model.specs.Pictures.{in_a_row, pixel}
use Rattle.flight_tests.proofs.tiles.write_row.Given as goal

abbrev pub invariant-loop-i : goal.invariant-loop-i
invariant-loop-i l = (length l.row ≡ length l.initial.row) × (take (4 * l.i) l.row ≡ in_a_row (λ x. pixel l.scene l.plane x l.y) l.rect.x0 l.i)
