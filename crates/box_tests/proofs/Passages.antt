-- The bounds of a ray's way through a slab.
use Rattle.std.proofs.Common.{◌≡◌, ℕ, ◌*◌, ◌/◌, ◌^◌, ◌<◌, ◌≤◌, pos, neg_ℤ, ◌+ℤ◌, ◌<ℤ◌, Option, Some, None, arith}
use Rattle.std.specs.Prelude.{max, min}
use Rattle.std.specs.Option.{unwrap_or}
use Rattle.fx_math.specs.declared.vectors.Ray.{Ray}
use Rattle.box_tests.specs.Boxes.{AreBounds}
use Rattle.box_tests.specs.Slabs.{AreSlabBounds, IsInverse, IsWayUp}
use Rattle.box_tests.specs.declared.boxes.Box3.{Box3}
use Rattle.box_tests.specs.declared.spans.Bounds.{Bounds}
use Rattle.box_tests.specs.declared.spans.Inverse.{Inverse}
use Rattle.box_tests.specs.declared.spans.Slab.{Slab}
use Rattle.box_tests.proofs.Ways.{entry_below, exit_above, down_behind, down_from, down_to, up_behind, up_from, up_to}

-- a ray never reaches the slab that lies behind it
pub up_none : (slab : Slab) → slab.high <ℤ slab.origin → (d : ℕ) → AreSlabBounds None slab (pos d)
up_none slab h d n m some at = up_behind slab.low slab.high slab.origin d h n m some at

pub down_none : (slab : Slab) → slab.origin <ℤ slab.low → (d : ℕ) → AreSlabBounds None slab (neg_ℤ (pos d))
down_none slab h d n m some at = down_behind slab.low slab.high slab.origin d h n m some at

capped : (a s b c : ℕ) → a ≤ s → min a c ≤ s
capped a s b c h = omega arith

-- a depth number that is at most 2^32 is below a bound where that stops at 2^32
within : (a s : ℕ) → s ≤ a → s ≤ 2 ^ 32 → s ≤ min a (2 ^ 33)
within a s h near = omega arith

pub up_some : (slab : Slab) (near : Option ℕ) (far : ℕ) (inverse : Inverse) (d : ℕ) →
    IsWayUp near slab.origin slab.low → slab.high ≡ slab.origin +ℤ pos far → IsInverse inverse d →
    AreSlabBounds (Some (record { entry = min (unwrap_or near 0 * inverse.below / 2 ^ 32) (2 ^ 33); exit = min (far * inverse.above / 2 ^ 32) (2 ^ 33) })) slab (pos d)
up_some slab None far inverse d from to is n m some at near =
    (omega arith, within _ _ (exit_above far d n m inverse.above some is.above (up_to slab.origin slab.high far d n m to at.to)) near)
up_some slab (Some a) far inverse d from to is n m some at near = (
  capped _ _ 0 _ (entry_below a d n m inverse.below some is.below (up_from slab.origin slab.low a d n m from at.from)),
  within _ _ (exit_above far d n m inverse.above some is.above (up_to slab.origin slab.high far d n m to at.to)) near,
)

pub down_some : (slab : Slab) (near : Option ℕ) (far : ℕ) (inverse : Inverse) (d : ℕ) →
    IsWayUp near slab.high slab.origin → slab.origin ≡ slab.low +ℤ pos far → IsInverse inverse d →
    AreSlabBounds (Some (record { entry = min (unwrap_or near 0 * inverse.below / 2 ^ 32) (2 ^ 33); exit = min (far * inverse.above / 2 ^ 32) (2 ^ 33) })) slab (neg_ℤ (pos d))
down_some slab None far inverse d from to is n m some at near =
    (omega arith, within _ _ (exit_above far d n m inverse.above some is.above (down_to slab.origin slab.low far d n m to at.from)) near)
down_some slab (Some a) far inverse d from to is n m some at near = (
  capped _ _ 0 _ (entry_below a d n m inverse.below some is.below (down_from slab.origin slab.high a d n m from at.to)),
  within _ _ (exit_above far d n m inverse.above some is.above (down_to slab.origin slab.low far d n m to at.from)) near,
)

-- ---- three slabs make a box
abbrev pub slab_x : Box3 → Ray → Slab
slab_x b ray = record { low = b.lo.x; high = b.hi.x; origin = ray.o.x }

abbrev pub slab_y : Box3 → Ray → Slab
slab_y b ray = record { low = b.lo.y; high = b.hi.y; origin = ray.o.y }

abbrev pub slab_z : Box3 → Ray → Slab
slab_z b ray = record { low = b.lo.z; high = b.hi.z; origin = ray.o.z }

pub none_by_x : (b : Box3) (ray : Ray) → AreSlabBounds None (slab_x b ray) ray.d.x → AreBounds None b ray
none_by_x b ray f s hit = f hit.n hit.m hit.inside.some hit.inside.x

pub none_by_y : (b : Box3) (ray : Ray) → AreSlabBounds None (slab_y b ray) ray.d.y → AreBounds None b ray
none_by_y b ray f s hit = f hit.n hit.m hit.inside.some hit.inside.y

pub none_by_z : (b : Box3) (ray : Ray) → AreSlabBounds None (slab_z b ray) ray.d.z → AreBounds None b ray
none_by_z b ray f s hit = f hit.n hit.m hit.inside.some hit.inside.z

pub some_by_all : (b : Box3) (ray : Ray) (x y z : Bounds) → AreSlabBounds (Some x) (slab_x b ray) ray.d.x → AreSlabBounds (Some y) (slab_y b ray) ray.d.y →
    AreSlabBounds (Some z) (slab_z b ray) ray.d.z →
    AreBounds (Some (max (max x.entry y.entry) z.entry, min (min (min x.exit y.exit) z.exit) (2 ^ 32))) b ray
some_by_all b ray x y z f g h s hit =
    let near : 65536 * hit.n / hit.m ≤ 2 ^ 32 = rw hit.depth at hit.near in
    let by_x = f hit.n hit.m hit.inside.some hit.inside.x near in
    let by_y = g hit.n hit.m hit.inside.some hit.inside.y near in
    let by_z = h hit.n hit.m hit.inside.some hit.inside.z near in
    rw hit.depth (record { least = omega (arith, by_x.0, by_y.0, by_z.0); most = omega (arith, by_x.1, by_y.1, by_z.1, near) })

pub none_between : (b : Box3) (ray : Ray) (low high : ℕ) → high < low → AreBounds (Some (low, high)) b ray → AreBounds None b ray
none_between b ray low high h f s hit = let is = f s hit in let p = is.least in let q = is.most in omega arith
