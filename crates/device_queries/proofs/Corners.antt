-- The boxes of primitives within the limits of pictures have room in 32 bits.
use Rattle.std.proofs.Common.{◌≡◌, ◌∙◌, ◌≤◌, ◌+◌, ◌^◌, ℤ, pos, negsuc, ◌+ℤ◌, ◌-ℤ◌, unsigned_abs, List, [], ◌∷◌, All, ap, refl, arith, map}
use Rattle.std.specs.List.{flat_map}
use Rattle.std.proofs.lemmas.Int.{clamps, ints}
use Rattle.std.proofs.lemmas.List.Elements.{All-nil, All-cons, All-head, All-tail}
use Rattle.fx_math.proofs.Sizes.{abs_x, abs_y, abs_z, abs-add, abs-sub, reach_within}
use Rattle.fx_math.specs.Vec3.{reach}
use Rattle.fx_math.specs.declared.scene.Primitive.{Primitive}
use Rattle.fx_math.specs.declared.scene.Shape.{Shape}
use Rattle.fx_math.specs.declared.scene.Shape.TheVariants.{Triangle, Sphere}
use Rattle.fx_math.specs.declared.vectors.Vec3.{Vec3}
use Rattle.kind_tables.proofs.WalkLaws.{each, put_together}
use Rattle.picture_model.specs.Limits.{IsBetween, IsPrimitiveWithin, IsShapeWithin}
use Rattle.seq_model.specs.Properties.{bounds_of, ends_of, greatest_of, least_of}
use Rattle.device_queries.proofs.ExtentFacts.{apart, by_corners}
use Rattle.device_queries.specs.Extents.{clamped, extent_of, nothing, numbers_of}

-- the corners of boxes of shapes within 2^28
abbrev AreCorners : List Vec3 → Type 0
AreCorners points = All (λ p. reach p ≤ 2 ^ 29) points

-- a radius is within 2^28
radius_within : (r : ℤ) → IsBetween 0 (2 ^ 28) r → unsigned_abs r ≤ 2 ^ 28
radius_within (pos r) between = omega (arith, ints, between.to)
radius_within (negsuc r) between = absurd (omega (arith, ints, between.from))

-- the corners of a shape
near : (p : Vec3) → reach p ≤ 2 ^ 28 → reach p ≤ 2 ^ 29
near p within = omega (arith, within)

shape_corners : (shape : Shape) → IsShapeWithin shape → AreCorners (ends_of shape)
shape_corners (Triangle a b c) within =
    All-cons (λ p. reach p ≤ 2 ^ 29) a (b ∷ c ∷ []) (near a within.first)
    (All-cons (λ p. reach p ≤ 2 ^ 29) b (c ∷ []) (near b within.second)
    (All-cons (λ p. reach p ≤ 2 ^ 29) c [] (near c within.third) (All-nil (λ (p : Vec3). reach p ≤ 2 ^ 29))))
shape_corners (Sphere centre radius) within =
    let size : unsigned_abs radius ≤ 2 ^ 28 = radius_within radius within.size in
    let x : unsigned_abs centre.x + unsigned_abs radius ≤ 2 ^ 29 = omega (arith, abs_x centre, within.middle, size) in
    let y : unsigned_abs centre.y + unsigned_abs radius ≤ 2 ^ 29 = omega (arith, abs_y centre, within.middle, size) in
    let z : unsigned_abs centre.z + unsigned_abs radius ≤ 2 ^ 29 = omega (arith, abs_z centre, within.middle, size) in
    let low : Vec3 = record { x = centre.x -ℤ radius; y = centre.y -ℤ radius; z = centre.z -ℤ radius } in
    let high : Vec3 = record { x = centre.x +ℤ radius; y = centre.y +ℤ radius; z = centre.z +ℤ radius } in
    All-cons (λ p. reach p ≤ 2 ^ 29) low (high ∷ [])
    (reach_within low (2 ^ 29) (omega (arith, abs-sub centre.x radius, x)) (omega (arith, abs-sub centre.y radius, y)) (omega (arith, abs-sub centre.z radius, z)))
    (All-cons (λ p. reach p ≤ 2 ^ 29) high []
    (reach_within high (2 ^ 29) (omega (arith, abs-add centre.x radius, x)) (omega (arith, abs-add centre.y radius, y)) (omega (arith, abs-add centre.z radius, z)))
    (All-nil (λ (p : Vec3). reach p ≤ 2 ^ 29)))

-- of all shapes
all_corners : (primitives : List Primitive) → All IsPrimitiveWithin primitives → AreCorners (flat_map (λ p. ends_of p.shape) primitives)
all_corners primitives within =
    put_together (λ p. reach p ≤ 2 ^ 29) (λ (p : Primitive). ends_of p.shape) primitives
    (each IsPrimitiveWithin (λ p. AreCorners (ends_of p.shape)) primitives (λ p within. shape_corners p.shape within.shape) within)

-- a small number is within 32 bits
small_kept : (z : ℤ) → unsigned_abs z ≤ 2 ^ 29 → clamped z ≡ z
small_kept (pos n) small = omega (arith, ints, clamps, small)
small_kept (negsuc n) small = omega (arith, ints, clamps, small)

-- so are the coordinates of corners along an axis
coordinates_kept : (along : Vec3 → ℤ) → ((p : Vec3) → unsigned_abs (along p) ≤ reach p) → (points : List Vec3) → AreCorners points →
    map (λ p. clamped (along p)) points ≡ map along points
coordinates_kept along short [] near = refl
coordinates_kept along short (p ∷ points) near =
    let small : reach p ≤ 2 ^ 29 = All-head (λ (p : Vec3). reach p ≤ 2 ^ 29) p points near in
    let kept : clamped (along p) ≡ along p = small_kept (along p) (omega (arith, short p, small)) in
    ap (λ z. z ∷ map (λ p. clamped (along p)) points) kept
    ∙ ap (λ zs. along p ∷ zs) (coordinates_kept along short points (All-tail (λ (p : Vec3). reach p ≤ 2 ^ 29) p points near))

-- the numbers of their extent are their box
pub numbers_are_bounds : (primitives : List Primitive) → All IsPrimitiveWithin primitives → numbers_of (extent_of primitives) ≡ bounds_of primitives
unfolding bounds_of
numbers_are_bounds primitives within =
    let points : List Vec3 = flat_map (λ (p : Primitive). ends_of p.shape) primitives in
    let near : AreCorners points = all_corners primitives within in
    let x : map (λ p. clamped p.x) points ≡ map (λ p. p.x) points = coordinates_kept (λ p. p.x) abs_x points near in
    let y : map (λ p. clamped p.y) points ≡ map (λ p. p.y) points = coordinates_kept (λ p. p.y) abs_y points near in
    let z : map (λ p. clamped p.z) points ≡ map (λ p. p.z) points = coordinates_kept (λ p. p.z) abs_z points near in
    ap numbers_of (by_corners nothing primitives ∙ apart nothing points)
    ∙ (λ j. least_of (x j) ∷ least_of (y j) ∷ least_of (z j) ∷ greatest_of (x j) ∷ greatest_of (y j) ∷ greatest_of (z j) ∷ [])
