use Rattle.std.proofs.Common.{refl, rules, w32}
use Rattle.std.proofs.lemmas.Int.{to_z-of_z}
use Rattle.device_queries.proofs.extents.extended.Goals as goal

pub returns : goal.returns
returns c =
    rw (
      to_z-of_z w32 c.min.result (search rules),
      to_z-of_z w32 c.min-2.result (search rules),
      to_z-of_z w32 c.min-3.result (search rules),
      to_z-of_z w32 c.max.result (search rules),
      to_z-of_z w32 c.max-2.result (search rules),
      to_z-of_z w32 c.max-3.result (search rules),
      c.min.ensures.value,
      c.min-2.ensures.value,
      c.min-3.ensures.value,
      c.max.ensures.value,
      c.max-2.ensures.value,
      c.max-3.ensures.value,
      to_z-of_z w32 c.args.extent.low.x (search rules),
      to_z-of_z w32 c.args.extent.low.y (search rules),
      to_z-of_z w32 c.args.extent.low.z (search rules),
      to_z-of_z w32 c.args.extent.high.x (search rules),
      to_z-of_z w32 c.args.extent.high.y (search rules),
      to_z-of_z w32 c.args.extent.high.z (search rules),
      to_z-of_z w32 c.args.corner.x (search rules),
      to_z-of_z w32 c.args.corner.y (search rules),
      to_z-of_z w32 c.args.corner.z (search rules),
    ) refl
