-- The extent of some primitives is the box of all their corners.
use Rattle.std.proofs.Common.{ℕ, ℤ, ◌+◌, ◌≡◌, ◌∙◌, pos, negsuc, List, [], ◌∷◌, map, refl, sym, ap, arith}
use Rattle.std.specs.Prelude.{fold}
use Rattle.std.specs.Int.{int_max, int_min, saturate_signed, w64}
use Rattle.std.specs.List.{enumerate_from, flat_map, range_with_len}
use Rattle.std.proofs.lemmas.Int.{clamps, ints}
use Rattle.std.proofs.lemmas.List.FromFn.{map-range_with_len_more}
use Rattle.std.proofs.lemmas.List.Sums.{fold-append}
use Rattle.fx_math.specs.declared.scene.Primitive.{Primitive}
use Rattle.fx_math.specs.declared.scene.Shape.{Shape}
use Rattle.fx_math.specs.declared.vectors.Vec3.{Vec3}
use Rattle.seq_model.specs.Properties.{ends_of}
use Rattle.device_queries.specs.Extents.{clamped, with_point, with_primitive, with_shape}
use Rattle.device_queries.specs.declared.extents.Extent.{Extent}

-- what has room in 64 bits is kept within 32 all the same
pub clamped_twice : (z : ℤ) → clamped (saturate_signed w64 z) ≡ clamped z
clamped_twice (pos n) = omega (arith, ints, clamps)
clamped_twice (negsuc n) = omega (arith, ints, clamps)

-- along each axis the points are folded apart
pub apart : (e : Extent) (points : List Vec3) → fold with_point e points ≡ record {
  low = record {
    x = fold int_min e.low.x (map (λ p. clamped p.x) points);
    y = fold int_min e.low.y (map (λ p. clamped p.y) points);
    z = fold int_min e.low.z (map (λ p. clamped p.z) points);
  };
  high = record {
    x = fold int_max e.high.x (map (λ p. clamped p.x) points);
    y = fold int_max e.high.y (map (λ p. clamped p.y) points);
    z = fold int_max e.high.z (map (λ p. clamped p.z) points);
  };
}
apart e [] = refl
apart e (p ∷ points) = apart (with_point e p) points

-- primitive by primitive is corner by corner
pub by_corners : (e : Extent) (primitives : List Primitive) →
    fold with_primitive e primitives ≡ fold with_point e (flat_map (λ p. ends_of p.shape) primitives)
by_corners e [] = refl
by_corners e (p ∷ primitives) =
    by_corners (with_primitive e p) primitives
    ∙ sym (fold-append with_point e (ends_of p.shape) (flat_map (λ (q : Primitive). ends_of q.shape) primitives))

-- what shapes are made of besides has no part in it
pub of_shapes : (f : ℕ × Shape → Primitive) (n : ℕ) (e : Extent) (shapes : List Shape) →
    ((k : ℕ) (s : Shape) → (f (k, s)).shape ≡ s) → fold with_primitive e (map f (enumerate_from n shapes)) ≡ fold with_shape e shapes
of_shapes f n e [] same = refl
of_shapes f n e (s ∷ shapes) same =
    ap (λ (t : Shape). fold with_primitive (with_shape e t) (map f (enumerate_from (n + 1) shapes))) (same n s)
    ∙ of_shapes f (n + 1) (with_shape e s) shapes same

-- one shape more
pub one_more : (f : ℕ → Shape) (k : ℕ) (e : Extent) →
    with_shape (fold with_shape e (map f (range_with_len 0 k))) (f k) ≡ fold with_shape e (map f (range_with_len 0 (k + 1)))
one_more f k e =
    sym (ap (fold with_shape e) (map-range_with_len_more f 0 k k (omega arith))
    ∙ fold-append with_shape e (map f (range_with_len 0 k)) (f k ∷ []))
