-- Where a ray meets a triangle's plane: how large the numbers are, and what their negations are as the code computes them.
use Rattle.std.proofs.Common.{◌≡◌, ℕ, ◌*◌, ◌^◌, ◌<◌, ◌≤◌, true, ℤ, pos, neg_ℤ, ◌-ℤ◌, FitsSigned, to_z, of_z, unsigned_abs, arith, ap, ◌∙◌}
use Rattle.std.proofs.lemmas.Int.{ints}
use Rattle.std.proofs.lemmas.Bool.Decides.{nat_tests}
use Rattle.std.proofs.Math.Nat.{mul-le-mul}
use mir.Syntax.{w128}
use Rattle.picture_model.specs.declared.depths.Crossing.{Crossing}
use Rattle.picture_model.specs.Depths.{is_crossed}

-- three times a product, as a scalar product has for its bound
pub dot_within : (z : ℤ) (a b m n : ℕ) → unsigned_abs z ≤ 3 * (a * b) → a ≤ m → b ≤ n → m * n ≤ 2 ^ 94 → unsigned_abs z ≤ 2 ^ 96
dot_within z a b m n s p q h = let r = mul-le-mul p q in omega arith

pub kept : (z : ℤ) → unsigned_abs z ≤ 2 ^ 96 → to_z w128 (of_z w128 z) ≡ z
kept z h = omega (arith, ints)

pub negated_fits : (z : ℤ) → unsigned_abs z ≤ 2 ^ 96 → FitsSigned w128 (pos 0 -ℤ to_z w128 (of_z w128 z))
negated_fits z h = omega (arith, ints)

pub negated : (z : ℤ) → unsigned_abs z ≤ 2 ^ 96 → to_z w128 (of_z w128 (pos 0 -ℤ to_z w128 (of_z w128 z))) ≡ neg_ℤ z
negated z h = omega (arith, ints)

pub abs-neg : (z : ℤ) → unsigned_abs (neg_ℤ z) ≡ unsigned_abs z
abs-neg z = omega (arith, ints)

-- two crossings with the same four numbers
pub same_crossing : (c e : Crossing) → c.det ≡ e.det → c.t ≡ e.t → c.p ≡ e.p → c.q ≡ e.q → c ≡ e
same_crossing c e d t p q =
    ap (λ x. made x c.t c.p c.q) d ∙ ap (λ x. made e.det x c.p c.q) t ∙ ap (λ x. made e.det e.t x c.q) p ∙ ap (λ x. made e.det e.t e.p x) q
  where
    made : ℤ → ℤ → ℤ → ℤ → Crossing
    made det t p q = record { det = det; t = t; p = p; q = q }

-- a crossing that is met has no denominator 0
pub is_crossed-det : (c : Crossing) → is_crossed c ≡ true → 0 < unsigned_abs c.det
unfolding is_crossed
is_crossed-det c h = grind (arith, ints, nat_tests)
