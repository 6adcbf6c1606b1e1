use Rattle.std.proofs.Common.{ap, rules, sym, w64}
use Rattle.std.proofs.lemmas.Int.{to_z-of_z}
use Rattle.device_queries.specs.Extents.{with_shape}
use Rattle.device_queries.proofs.extents.with_shape.Goals as goal

pub returns-in-Sphere : goal.returns-in-Sphere
returns-in-Sphere c =
    rw (c.extended-in-Sphere.ensures, c.extended-wider-in-Sphere.ensures, c.low_corner.ensures, c.high_corner.ensures, to_z-of_z w64 c.in-Sphere.radius (search rules))
    (sym (ap (with_shape c.args.extent) c.in-Sphere.is))
