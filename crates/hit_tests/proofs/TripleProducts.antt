-- A triangle's fractions by two vector products, and what the tests on them tell of the depth.
use Rattle.std.proofs.Common.{◌≡◌, ℕ, zero, suc, ◌*◌, ◌^◌, ◌<◌, ◌≤◌, ℤ, pos, negsuc, neg_ℤ, to_z, of_z, ◌+ℤ◌, ◌≤ℤ◌, ◌<ℤ◌, int_lt, int_le, Bool, true, false, ◌&&◌, Some, None, Option, arith, refl, ap, sym, ◌∙◌}
use Rattle.std.proofs.lemmas.Bool.Decides.{nat_tests}
use Rattle.std.proofs.lemmas.Int.{ints}
use Rattle.fx_math.proofs.Rings.{triple_turn, triple_exchange}
use Rattle.fx_math.specs.Vec3.{cross, dot, sub}
use Rattle.fx_math.specs.declared.scene.Shape.TheVariants.{Triangle}
use Rattle.fx_math.specs.declared.vectors.Ray.{Ray}
use Rattle.fx_math.specs.declared.vectors.Vec3.{Vec3}
use Rattle.hit_tests.specs.Fractions.{depth_number, turned_by}
use Rattle.picture_model.proofs.DepthLaws.{depth-some}
use Rattle.picture_model.proofs.Numbers.{product_within, read_wide}
use Rattle.picture_model.proofs.Spheres.{to_le}
use lib.Signed.{mag}
use mir.Syntax.{w128}
use Rattle.picture_model.specs.declared.depths.Crossing.{Crossing}
use Rattle.picture_model.specs.Depths.{IsCrossedAt, crossing, crossing_depth, depth, is_crossed, turned}

-- ---- the triple products
neg-neg : (z : ℤ) → neg_ℤ (neg_ℤ z) ≡ z
neg-neg z = omega (arith, ints)

across-is : (d v e2 : Vec3) → neg_ℤ (dot d (cross v e2)) ≡ dot v (cross d e2)
across-is d v e2 = ap neg_ℤ (triple_exchange d v e2) ∙ neg-neg _

along-is : (d v e1 : Vec3) → neg_ℤ (dot d (cross e1 v)) ≡ dot d (cross v e1)
along-is d v e1 = ap neg_ℤ (triple_turn d e1 v ∙ triple_turn e1 v d) ∙ sym (triple_exchange d v e1)

way-is : (v e1 e2 : Vec3) → dot v (cross e1 e2) ≡ dot e2 (cross v e1)
way-is v e1 e2 = triple_turn v e1 e2 ∙ triple_turn e1 e2 v

-- the fractions as the code has them
abbrev pub fractions : Bool → Ray → Vec3 → Vec3 → Vec3 → Crossing
fractions turn ray a b c =
    let across = cross ray.d (sub c a) in
    let along = cross (sub ray.o a) (sub b a) in
    record {
      det = turned_by turn (dot (sub b a) across);
      t = turned_by turn (dot (sub c a) along);
      p = turned_by turn (dot (sub ray.o a) across);
      q = turned_by turn (dot ray.d along);
    }

turned-is : (c : Crossing) (turn : Bool) → int_lt c.det (pos 0) ≡ turn →
    turned c ≡ record { det = turned_by turn c.det; t = turned_by turn c.t; p = turned_by turn c.p; q = turned_by turn c.q }
unfolding turned turned_by
turned-is c true e = rw e refl
turned-is c false e = rw e refl

pub fractions-are : (turn : Bool) (ray : Ray) (a b c : Vec3) → int_lt (dot (sub b a) (cross ray.d (sub c a))) (pos 0) ≡ turn →
    turned (crossing ray a b c) ≡ fractions turn ray a b c
unfolding crossing
fractions-are turn ray a b c e =
    let det = across-is ray.d (sub b a) (sub c a) in
    turned-is _ turn (rw det e)
    ∙ rw (det, way-is (sub ray.o a) (sub b a) (sub c a), across-is ray.d (sub ray.o a) (sub c a), along-is ray.d (sub ray.o a) (sub b a)) refl

-- ---- what the tests tell
none_of : (o : Option ℕ) → ((s : ℕ) → o ≡ Some s → ⊥) → None ≡ o
none_of None f = refl
none_of (Some s) f = absurd (f s refl)

pub missed : (turn : Bool) (ray : Ray) (a b c : Vec3) → int_lt (dot (sub b a) (cross ray.d (sub c a))) (pos 0) ≡ turn →
    ((s : ℕ) → IsCrossedAt (fractions turn ray a b c) s → ⊥) → None ≡ depth ray (Triangle a b c)
missed turn ray a b c e f = none_of _ (λ s found. f s (rw (fractions-are turn ray a b c e) at (depth-some ray (Triangle a b c) s found)))

from_lt : (a b : ℤ) → int_lt a b ≡ true → a <ℤ b
from_lt a b h = grind (arith, ints)

to_lt : (a b : ℤ) → a <ℤ b → int_lt a b ≡ true
to_lt a b h = grind (arith, ints)

crossed_by_sign : (b : Bool) → (((true && b) && true) && true) && true ≡ b
crossed_by_sign true = refl
crossed_by_sign false = refl

-- inside the triangle all goes by t
pub met : (c : Crossing) → pos 0 <ℤ c.det → pos 0 ≤ℤ c.p → pos 0 ≤ℤ c.q → (c.p +ℤ c.q) ≤ℤ c.det → depth_number c.t c.det ≡ crossing_depth c
unfolding crossing_depth depth_number is_crossed
met c det p q sum = rw (to_lt _ _ det, to_le _ _ p, to_le _ _ q, to_le _ _ sum, crossed_by_sign (int_le (pos 0) c.t)) refl

-- twice a product, as a vector product has for its bound
pub cross_within : (r a b m n : ℕ) → r ≤ 2 * (a * b) → a ≤ m → b ≤ n → m * n ≤ 2 ^ 60 → r ≤ 2 ^ 61
cross_within r a b m n s p q h = let e = product_within a b m n (2 ^ 60) p q h in omega arith

-- ---- the code's tests
-- a number whose bits are all zero
pub zero_of : (z : ℤ) → mag z < 2 ^ 127 → of_z w128 z ≡ 0 → z ≡ pos 0
zero_of z h e = sym (read_wide z h) ∙ ap (to_z w128) e

pub zero_turned : (turn : Bool) (z : ℤ) → z ≡ pos 0 → pos 0 <ℤ turned_by turn z → ⊥
unfolding turned_by
zero_turned true z e h = absurd (omega (arith, ints))
zero_turned false z e h = absurd (omega (arith, ints))

pub negative : (z : ℤ) → int_lt z (pos 0) ≡ true → pos 0 ≤ℤ z → ⊥
negative z h k = grind (arith, ints)

pub not_negative : (z : ℤ) → int_lt z (pos 0) ≡ false → pos 0 ≤ℤ z
not_negative z h = grind (arith, ints)

pub not_below : (a b : ℤ) → int_lt a b ≡ false → b ≤ℤ a
not_below a b h = grind (arith, ints)

-- one fraction above one is too much
pub too_far : (det p q : ℤ) → int_lt det p ≡ true → pos 0 ≤ℤ q → (p +ℤ q) ≤ℤ det → ⊥
too_far det p q h k l = grind (arith, ints)

pub sum_too_far : (det p q : ℤ) → int_lt det (p +ℤ q) ≡ true → (p +ℤ q) ≤ℤ det → ⊥
sum_too_far det p q h l = grind (arith, ints)

-- a number that is not zero has a size above zero
pub positive_turned : (turn : Bool) (z : ℤ) → int_lt z (pos 0) ≡ turn → (z ≡ pos 0 → ⊥) → pos 0 <ℤ turned_by turn z
unfolding turned_by
positive_turned turn (pos zero) e f = absurd (f refl)
positive_turned true (pos (suc n)) e f = absurd (grind (arith, ints, nat_tests))
positive_turned false (pos (suc n)) e f = omega (arith, ints)
positive_turned true (negsuc n) e f = omega (arith, ints)
positive_turned false (negsuc n) e f = absurd (grind (arith, ints, nat_tests))
