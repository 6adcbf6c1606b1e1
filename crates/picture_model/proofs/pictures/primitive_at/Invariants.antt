use Rattle.std.proofs.Common.{◌≡◌, drop}
use Rattle.picture_model.specs.Shading.{primitive_at}
use Rattle.picture_model.proofs.pictures.primitive_at.Given as goal

abbrev pub invariant-loop-primitive : goal.invariant-loop-primitive
invariant-loop-primitive l = primitive_at (drop l.primitive-index l.primitives) l.place ≡ primitive_at l.primitives l.place
