use Rattle.std.proofs.Common.{◌≡◌, ◌++◌, ◌-◌}
use Rattle.picture_model.specs.Pictures.{in_a_row, pixel}
use Rattle.picture_model.proofs.pictures.push_row.Given as goal

abbrev pub invariant-loop-x : goal.invariant-loop-x
invariant-loop-x l = l.out.items ≡ l.initial.out.items ++ in_a_row (λ x. pixel l.scene l.plane x l.y) l.rect.x0 (l.x - l.rect.x0)
