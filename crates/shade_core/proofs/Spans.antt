-- The offset of a pixel in its row, as the code computes it, and how large it is.
use Rattle.std.proofs.Common.{◌≡◌, ℕ, ◌+◌, ◌*◌, ◌/◌, ◌^◌, ◌<◌, ◌≤◌, pos, ◌+ℤ◌, ◌-ℤ◌, ◌*ℤ◌, unsigned_abs, FitsSigned, to_z, of_z, arith, refl}
use Rattle.std.proofs.Math.Nat.{div-le_self, div-mul-le_self, le_of_mul-le-mul_right, le_refl, mul-le-mul}
use Rattle.std.proofs.lemmas.Int.{ints, to_z-of_z}
use Rattle.std.specs.Int.{int_div_euclid}
use Rattle.fx_math.proofs.Sizes.{abs-mul_le}
use mir.Syntax.{w32, w64}
use Rattle.picture_model.proofs.Numbers.{abs-between, abs-div_euclid, div-mono, div-product, product_within, read_cast, read_count}
use Rattle.picture_model.specs.Limits.{IsSide}
use Rattle.picture_model.specs.Rays.{off_middle}
use Rattle.shade_core.specs.declared.cameras.Lens.{Lens}
use Rattle.shade_core.specs.declared.cameras.Span.{Span}
use Rattle.shade_core.specs.Frames.{IsLensWithin, IsSpanWithin, offset_in, reach_of, right_span, up_span}

-- twice the distance from the middle of the row
half_pixels : (n i : ℕ) → i < n → n ≤ 4096 →
    to_z w64 (of_z w64 (to_z w64 (of_z w64 (to_z w64 (of_z w64 (pos 2 *ℤ to_z w64 i)) +ℤ pos 1)) -ℤ to_z w64 n)) ≡ off_middle n i
half_pixels n i h k = omega (arith, ints)

half_size : (n i : ℕ) → i < n → unsigned_abs (off_middle n i) ≤ n
half_size n i h = omega (arith, ints)

pub offset-is : (span : Span) (i : ℕ) → IsSpanWithin span → i < span.pixels →
    int_div_euclid
    (to_z w64 (of_z w64 (to_z w64 (of_z w64 span.extent) *ℤ to_z w64 (of_z w64 (to_z w64 (of_z w64 (to_z w64 (of_z w64 (pos 2 *ℤ to_z w64 i)) +ℤ pos 1)) -ℤ to_z w64 span.pixels)))))
    (to_z w64 span.divisor) ≡ offset_in span i
unfolding offset_in
offset-is span i within h =
    let extent = within.extent in
    let pixels = within.pixels in
    let size = abs-mul_le span.extent (off_middle span.pixels i) (2 ^ 46) 4096 extent (let half = half_size span.pixels i h in omega arith) in
    let fits : FitsSigned w64 span.extent = omega (arith, ints) in
    let product : FitsSigned w64 (span.extent *ℤ off_middle span.pixels i) = omega (arith, ints) in
    rw (to_z-of_z w64 span.extent fits, half_pixels span.pixels i h pixels, read_count span.divisor (let most = within.most in omega arith), to_z-of_z w64 (span.extent *ℤ off_middle span.pixels i) product) refl

pub offset-size : (span : Span) (i : ℕ) → IsSpanWithin span → i < span.pixels →
    unsigned_abs (offset_in span i) ≤ reach_of span + 1
unfolding offset_in reach_of
offset-size span i within h =
    let some = within.least in
    let quotient = abs-div_euclid (span.extent *ℤ off_middle span.pixels i) span.divisor (omega arith) in
    let size = abs-mul_le span.extent (off_middle span.pixels i) (unsigned_abs span.extent) span.pixels (le_refl _) (half_size span.pixels i h) in
    let smaller = div-mono _ _ span.divisor (omega arith) size in
    omega arith

-- ---- the spans of a window
extent_size : (lens : Lens) → IsLensWithin lens → unsigned_abs (lens.length *ℤ lens.aspect) ≤ unsigned_abs lens.length * 2 ^ 20
extent_size lens within = abs-mul_le lens.length lens.aspect (unsigned_abs lens.length) (2 ^ 20) (le_refl _) (abs-between 1 (2 ^ 20) lens.aspect within.ratio)

-- the extent of a row, as the code computes it
pub wide_extent : (lens : Lens) → IsLensWithin lens →
    to_z w64 (of_z w64 (to_z w64 (of_z w64 (to_z w32 (of_z w32 lens.length))) *ℤ to_z w64 (of_z w64 (to_z w32 (of_z w32 lens.aspect))))) ≡ lens.length *ℤ lens.aspect
wide_extent lens within =
    let length = abs-between 1 (2 ^ 26) lens.length within.opening in
    let aspect = abs-between 1 (2 ^ 20) lens.aspect within.ratio in
    let size = extent_size lens within in
    let fits : FitsSigned w64 (lens.length *ℤ lens.aspect) = omega (arith, ints) in
    rw (read_cast lens.length (omega arith), read_cast lens.aspect (omega arith), to_z-of_z w64 (lens.length *ℤ lens.aspect) fits) refl

pub high_extent : (lens : Lens) → IsLensWithin lens → to_z w64 (of_z w64 (to_z w32 (of_z w32 lens.length))) ≡ lens.length
high_extent lens within = read_cast lens.length (let length = abs-between 1 (2 ^ 26) lens.length within.opening in omega arith)

pub right_span-within : (lens : Lens) (w : ℕ) → IsLensWithin lens → IsSide w → IsSpanWithin (right_span lens w)
unfolding right_span
right_span-within lens w within side =
    let length = abs-between 1 (2 ^ 26) lens.length within.opening in
    let least = mul-le-mul within.unit_least side.least in
    let most = product_within lens.unit w 2 4096 (2 ^ 13) within.unit_most side.most (omega arith) in
    record {
      extent = omega (arith, extent_size lens within);
      pixels = side.most;
      least = omega arith;
      most = omega arith;
    }

-- the quotient of a row's reach by 65536 u, times u
row_reach : (z l u w : ℕ) → 0 < u → 0 < w → z ≤ l * 2 ^ 20 → z * w / (65536 * u * w) * u ≤ 16 * l
row_reach z l u w hu hw h =
    let d = div-mul-le_self (z * w) (65536 * u * w) in
    let row : z * w / (65536 * u * w) * (65536 * u) * w ≤ z * w = omega arith in
    let column = le_of_mul-le-mul_right row hw in
    omega arith

pub right_span-reach : (lens : Lens) (w : ℕ) → IsLensWithin lens → IsSide w → reach_of (right_span lens w) * lens.unit ≤ 16 * unsigned_abs lens.length
unfolding right_span reach_of
right_span-reach lens w within side =
    let some = within.unit_least in
    let wide = side.least in
    row_reach (unsigned_abs (lens.length *ℤ lens.aspect)) (unsigned_abs lens.length) lens.unit w (omega arith) (omega arith) (extent_size lens within)

pub up_span-reach : (lens : Lens) (h : ℕ) → IsLensWithin lens → IsSide h → reach_of (up_span lens h) ≤ unsigned_abs lens.length
unfolding up_span reach_of
up_span-reach lens h within side =
    let some = within.unit_least in
    let high = side.least in
    let factor = div-product (unsigned_abs lens.length) lens.unit h (omega arith) (omega arith) in
    let smaller = div-le_self (unsigned_abs lens.length) lens.unit in
    omega arith
