-- What the code reads and keeps in the width of its numbers, where they have room.
use Rattle.std.proofs.Common.{◌≡◌, ℕ, ◌*◌, ◌^◌, ◌<◌, ◌≤◌, ℤ, pos, negsuc, int_div, refl, FitsSigned, w64, to_z, of_z, ◌+ℤ◌, ◌-ℤ◌, ◌*ℤ◌, unsigned_abs, arith, ap, ◌∙◌}
use Rattle.std.proofs.lemmas.Int.{ints, to_z-of_z, to_z_pos, quot_fits}
use Rattle.std.specs.Int.{int_div_euclid}
use Rattle.std.specs.Int.Signed.{mag, shr_z, mag_shr}
use Rattle.std.proofs.Math.Nat.{mul-le-mul}
use Rattle.fx_math.specs.declared.vectors.Vec3.{Vec3}
use Rattle.fx_math.specs.Vec3.{reach}
use Rattle.fx_math.proofs.Sizes.{abs_x, abs_y, abs_z, abs-mul_le}
use mir.Syntax.{w128}

-- a product of two components, as a call reads them
pub read_product : (a b : ℤ) → FitsSigned w64 a → FitsSigned w64 b → to_z w64 (of_z w64 a) *ℤ to_z w64 (of_z w64 b) ≡ a *ℤ b
read_product a b f g = simp to_z-of_z

-- the three products of a scalar product and their sums have room in the width w128
pub record FitWide (p q r : ℤ) : Type 0 where
  pub first : FitsSigned w128 p
  pub second : FitsSigned w128 q
  pub third : FitsSigned w128 r
  pub two : FitsSigned w128 (p +ℤ q)
  pub all : FitsSigned w128 (p +ℤ q +ℤ r)

fit_wide : (m : ℕ) (p q r : ℤ) → m ≤ 2 ^ 124 → unsigned_abs p ≤ m → unsigned_abs q ≤ m → unsigned_abs r ≤ m → FitWide p q r
fit_wide m p q r h k l n = record {
  first = omega (arith, ints);
  second = omega (arith, ints);
  third = omega (arith, ints);
  two = omega (arith, ints);
  all = omega (arith, ints);
}

pub dot_fits : (a b : Vec3) → reach a ≤ 2 ^ 62 → reach b ≤ 2 ^ 62 → FitWide (a.x *ℤ b.x) (a.y *ℤ b.y) (a.z *ℤ b.z)
dot_fits a b p q =
    fit_wide (reach a * reach b) (a.x *ℤ b.x) (a.y *ℤ b.y) (a.z *ℤ b.z)
    (mul-le-mul p q)
    (abs-mul_le a.x b.x _ _ (abs_x a) (abs_x b))
    (abs-mul_le a.y b.y _ _ (abs_y a) (abs_y b))
    (abs-mul_le a.z b.z _ _ (abs_z a) (abs_z b))

-- such a product, where it has room
pub product_room : (a b : ℤ) (m n : ℕ) → FitsSigned w64 a → FitsSigned w64 b → unsigned_abs a ≤ m → unsigned_abs b ≤ n → m * n < 2 ^ 63 →
    unsigned_abs (to_z w64 (of_z w64 a)) * unsigned_abs (to_z w64 (of_z w64 b)) < 2 ^ 63
product_room a b m n f g p q h = let r = mul-le-mul p q in simp to_z-of_z (omega arith)

-- a number that the code keeps
pub kept : (p q : ℤ) → FitsSigned w64 p → p ≡ q → to_z w64 (of_z w64 p) ≡ q
kept p q f e = to_z-of_z w64 p f ∙ e

-- the absolute value of a number, as the code reads it
pub read_abs : (a : ℤ) → FitsSigned w64 a → unsigned_abs (to_z w64 (of_z w64 a)) ≡ unsigned_abs a
read_abs a f = ap unsigned_abs (to_z-of_z w64 a f)

-- a quotient, as the code reads its dividend
pub read_quotient : (a : ℤ) (d : ℕ) → FitsSigned w64 a → int_div (to_z w64 (of_z w64 a)) (pos d) ≡ int_div a (pos d)
read_quotient a d f = ap (λ (b : ℤ). int_div b (pos d)) (to_z-of_z w64 a f)

-- a quotient, as the code reads and keeps it
pub kept_quotient : (a : ℤ) (d : ℕ) → FitsSigned w64 a → 0 < d → d < 2 ^ 63 → to_z w64 (of_z w64 (int_div (to_z w64 (of_z w64 a)) (to_z w64 d))) ≡ int_div a (pos d)
kept_quotient a d f positive room =
    rw (to_z-of_z w64 a f, to_z_pos w64 d room)
    (kept (int_div a (pos d)) _ (quot_fits w64 a (pos d) f (omega (arith, ints))) refl)

-- a shift by 16 bits, as the code reads and keeps it
pub shifted : (a : ℤ) → FitsSigned w64 a → to_z w64 (of_z w64 (shr_z (to_z w64 (of_z w64 a)) 65536)) ≡ int_div_euclid a (pos 65536)
shifted a f = rw (to_z-of_z w64 a f) (kept (shr_z a 65536) _ (record { sfits = small }) (is_floor a))
  where
    small : mag (shr_z a 65536) < 2 ^ 63
    small = omega (arith, mag_shr a 65536, f.sfits)

    is_floor : (b : ℤ) → shr_z b 65536 ≡ int_div_euclid b (pos 65536)
    is_floor (pos n) = refl
    is_floor (negsuc n) = refl

-- the difference of two products, as the code computes it
pub record FitShort (p q : ℤ) : Type 0 where
  pub first : FitsSigned w64 p
  pub second : FitsSigned w64 q
  pub difference : FitsSigned w64 (p -ℤ q)

minor_fits : (a b c d : ℤ) (m n : ℕ) → m * n ≤ 2 ^ 61 → unsigned_abs a ≤ m → unsigned_abs b ≤ n → unsigned_abs c ≤ m → unsigned_abs d ≤ n → FitShort (a *ℤ b) (c *ℤ d)
minor_fits a b c d m n h p q r s =
    let x = abs-mul_le a b m n p q in
    let y = abs-mul_le c d m n r s in
    short_fits (a *ℤ b) (c *ℤ d) (m * n) h x y
  where
    short_fits : (p q : ℤ) (m : ℕ) → m ≤ 2 ^ 61 → unsigned_abs p ≤ m → unsigned_abs q ≤ m → FitShort p q
    short_fits p q m h x y = record { first = omega (arith, ints); second = omega (arith, ints); difference = omega (arith, ints) }

pub cross_fits_x : (a b : Vec3) → reach a * reach b ≤ 2 ^ 61 → FitShort (a.y *ℤ b.z) (a.z *ℤ b.y)
cross_fits_x a b h = minor_fits a.y b.z a.z b.y _ _ h (abs_y a) (abs_z b) (abs_z a) (abs_y b)

pub cross_fits_y : (a b : Vec3) → reach a * reach b ≤ 2 ^ 61 → FitShort (a.z *ℤ b.x) (a.x *ℤ b.z)
cross_fits_y a b h = minor_fits a.z b.x a.x b.z _ _ h (abs_z a) (abs_x b) (abs_x a) (abs_z b)

pub cross_fits_z : (a b : Vec3) → reach a * reach b ≤ 2 ^ 61 → FitShort (a.x *ℤ b.y) (a.y *ℤ b.x)
cross_fits_z a b h = minor_fits a.x b.y a.y b.x _ _ h (abs_x a) (abs_y b) (abs_y a) (abs_x b)
