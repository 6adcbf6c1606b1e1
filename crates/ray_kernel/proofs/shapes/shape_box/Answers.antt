use Rattle.std.proofs.Common.{◌≡◌, to_z, of_z, w64, arith}
use Rattle.std.proofs.lemmas.Int.{ints}
use Rattle.fx_math.specs.declared.scene.Shape.TheVariants.{Triangle, Sphere}
use Rattle.picture_model.specs.Limits.{IsSphereWithin}
use Rattle.ray_kernel.proofs.Holdings.{hit_inside}
use Rattle.ray_kernel.proofs.shapes.shape_box.Goals as goal

pub returns-in-Triangle-clause-hits : goal.returns-in-Triangle-clause-hits
returns-in-Triangle-clause-hits c = λ ray s found.
    let p = c.in-Triangle in
    hit_inside c.corner_box.result ray (Triangle p.a p.b p.c) s (rw p.is at c.requires.within) c.corner_box.ensures (rw p.is at found)

pub returns-in-Sphere-clause-hits : goal.returns-in-Sphere-clause-hits
returns-in-Sphere-clause-hits c = λ ray s found.
    let p = c.in-Sphere in
    let within : IsSphereWithin p.centre p.radius = rw p.is at c.requires.within in
    let least = within.size.from in
    let most = within.size.to in
    let read : to_z w64 (of_z w64 p.radius) ≡ p.radius = omega (arith, ints) in
    hit_inside c.ball_box.result ray (Sphere p.centre p.radius) s within (rw read at c.ball_box.ensures) (rw p.is at found)
