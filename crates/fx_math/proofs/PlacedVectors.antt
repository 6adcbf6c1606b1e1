-- Where a transform takes vectors.
use Rattle.std.proofs.Common.{◌≡◌, ◌+◌, ℕ, ℤ, pos, negsuc, ◌*ℤ◌, suc, ◌-◌, ◌*◌, ◌^◌, ◌<◌, ◌≤◌, FitsSigned, of_z, to_z, unsigned_abs, ◌∙◌, ap, arith}
use Rattle.std.proofs.lemmas.Int.{ints, to_z-of_z}
use Rattle.std.proofs.Math.IntN.{+ℤ_idr}
use Rattle.std.proofs.Math.Nat.{mul-le-mul}
use Rattle.std.specs.Int.{int_div_euclid}
use Rattle.fx_math.specs.declared.transforms.Mat34.{Mat34}
use Rattle.fx_math.specs.declared.transforms.TheConstants.Mat34.{IDENTITY}
use Rattle.fx_math.specs.declared.vectors.Vec3.{Vec3}
use Rattle.fx_math.specs.Mat34.{linear, row, column, placed}
use Rattle.fx_math.specs.Root.{IsRoot}
use Rattle.fx_math.specs.Vec3.{add, dot, reach, scaled_down}
use Rattle.fx_math.proofs.Sizes.{abs-dot, reach-scaled_down, reach_within, same_vec}
use Rattle.fx_math.proofs.SquareRoots.{at_most_of_square}
use mir.Syntax.{w128}

-- a component of the image, as the code computes it
pub floor_of_row : (m : Mat34) (i : ℕ) (v r : Vec3) (n u : ℤ) → FitsSigned w128 n → r ≡ row m i → n ≡ dot r v →
    u ≡ int_div_euclid (to_z w128 (of_z w128 n)) (pos 65536) → u ≡ int_div_euclid (dot (row m i) v) (pos 65536)
floor_of_row m i v r n u f is_row is_dot is_floor =
    is_floor ∙ ap (λ (z : ℤ). int_div_euclid z (pos 65536)) (to_z-of_z w128 n f ∙ is_dot ∙ ap (λ (s : Vec3). dot s v) is_row)

-- how large the image of a direction is
pub reach-linear : (m : Mat34) (v : Vec3) → reach (row m 0) ≤ 2 ^ 31 → reach (row m 1) ≤ 2 ^ 31 → reach (row m 2) ≤ 2 ^ 31 → reach v ≤ 2 ^ 31 →
    reach (linear m v) ≤ 3 * 2 ^ 46
unfolding linear
reach-linear m v p q r h = from_products (reach_within products (3 * 2 ^ 62) (product 0 p) (product 1 q) (product 2 r))
  where
    products : Vec3
    products = record { x = dot (row m 0) v; y = dot (row m 1) v; z = dot (row m 2) v }

    product : (i : ℕ) → reach (row m i) ≤ 2 ^ 31 → unsigned_abs (dot (row m i) v) ≤ 3 * 2 ^ 62
    product i k = let size : reach (row m i) * reach v ≤ 2 ^ 31 * 2 ^ 31 = mul-le-mul k h in omega (arith, abs-dot (row m i) v)

    from_products : reach products ≤ 3 * 2 ^ 62 → reach (scaled_down products) ≤ 3 * 2 ^ 46
    from_products k = omega (arith, reach-scaled_down products)

-- the length of a column is below 2 ^ 32
pub axis_small : (a : Vec3) (d : ℤ) (r : ℕ) → FitsSigned w128 d → reach a ≤ 2 ^ 31 → d ≡ dot a a → IsRoot (unsigned_abs (to_z w128 (of_z w128 d))) r → r < 2 ^ 32
axis_small a d r f h e root =
    let size : reach a * reach a ≤ 2 ^ 31 * 2 ^ 31 = mul-le-mul h h in
    let square : unsigned_abs (to_z w128 (of_z w128 d)) ≡ unsigned_abs (dot a a) = ap unsigned_abs (to_z-of_z w128 d f ∙ e) in
    let within = at_most_of_square r (2 ^ 32 - 1) (omega (arith, root.square_at_most, abs-dot a a)) in
    omega arith

-- ---- the identity
int_div_euclid-multiple : (a : ℤ) → int_div_euclid (pos 65536 *ℤ a) (pos 65536) ≡ a
int_div_euclid-multiple (pos n) = ap pos (omega arith)
int_div_euclid-multiple (negsuc n) = let e : 65536 * suc n ≡ suc (65536 * n + 65535) = omega arith in rw e (ap negsuc (omega arith))

of_multiple : (p a : ℤ) → p ≡ pos 65536 *ℤ a → int_div_euclid p (pos 65536) ≡ a
of_multiple p a e = rw e (int_div_euclid-multiple a)

-- the identity takes each direction to itself
pub linear-identity : (v : Vec3) → linear IDENTITY v ≡ v
unfolding linear scaled_down row dot
linear-identity v =
    same_vec _ v
    (of_multiple _ v.x (omega (arith, ints)))
    (of_multiple _ v.y (omega (arith, ints)))
    (of_multiple _ v.z (omega (arith, ints)))

added_nothing : (v : Vec3) → add v (column IDENTITY 3) ≡ v
unfolding add column
added_nothing v = same_vec _ v (+ℤ_idr v.x) (+ℤ_idr v.y) (+ℤ_idr v.z)

-- and each point
pub placed-identity : (v : Vec3) → placed IDENTITY v ≡ v
unfolding placed
placed-identity v = rw (linear-identity v) (added_nothing v)
