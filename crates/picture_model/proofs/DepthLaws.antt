-- The depth number that `depth` finds is the one that `IsDepth` describes, and where it finds none there is none.
use Rattle.std.proofs.Common.{◌≡◌, ℕ, zero, suc, ◌+◌, ◌*◌, ◌/◌, ◌^◌, ◌<◌, ◌≤◌, ℤ, pos, negsuc, ◌+ℤ◌, ◌*ℤ◌, ◌≤ℤ◌, ◌<ℤ◌, int_lt, unsigned_abs, Bool, true, false, ◌&&◌, cond, leb, Option, Some, None, MatchOption, arith, refl, ap, sym, ◌∙◌, inl, inr}
use Rattle.std.proofs.lemmas.Bool.Decides.{nat_tests}
use Rattle.std.proofs.lemmas.Int.{ints}
use Rattle.std.proofs.lemmas.Nat.{le-div}
use Rattle.std.proofs.Math.Nat.{div-lt_iff_lt-mul, div-mul-le_self, lt-div-mul-add}
use Rattle.fx_math.specs.declared.scene.Shape.{Shape}
use Rattle.fx_math.specs.declared.scene.Shape.TheVariants.{Triangle, Sphere}
use Rattle.fx_math.specs.declared.vectors.Ray.{Ray}
use Rattle.fx_math.specs.declared.vectors.Vec3.{Vec3}
use Rattle.picture_model.proofs.Spheres.{from_le, to_le, below_or_at, first_from-found, found_here, found_later, found_never}
use Rattle.picture_model.proofs.Nearness.{first_from-near}
use Rattle.picture_model.specs.declared.depths.Crossing.{Crossing}
use Rattle.picture_model.specs.Depths.{IsCrossedAt, IsDepth, IsEnteredAt, crossing, crossing_depth, depth, first_from, is_crossed, is_in_ball, sphere_depth, turned}

-- ---- quotients
-- s is n / d rounded down
quotient_within : (n d s : ℕ) → 0 < d → s * d ≤ n → n < (s + 1) * d → n / d ≡ s
quotient_within n d s h l u =
    let least = le-div s n d h l in
    let most = (div-lt_iff_lt-mul h).1 u in
    omega arith

-- the two bounds of a depth number over a positive denominator, on whole numbers
reached_at : (t det : ℤ) → pos 0 ≤ℤ t → pos 0 <ℤ det → (pos (65536 * unsigned_abs t / unsigned_abs det) *ℤ det) ≤ℤ (pos 65536 *ℤ t)
reached_at (pos n) (pos d) h k = let q = div-mul-le_self (65536 * n) d in omega (arith, ints)
reached_at (pos n) (negsuc d) h k = absurd (omega (arith, ints))
reached_at (negsuc n) det h k = absurd (omega (arith, ints))

passed_at : (t det : ℤ) → pos 0 ≤ℤ t → pos 0 <ℤ det → (pos 65536 *ℤ t) <ℤ (pos (65536 * unsigned_abs t / unsigned_abs det + 1) *ℤ det)
passed_at (pos n) (pos d) h k = let some : 0 < d = omega (arith, ints) in let q = lt-div-mul-add {a = 65536 * n} some in omega (arith, ints)
passed_at (pos n) (negsuc d) h k = absurd (omega (arith, ints))
passed_at (negsuc n) det h k = absurd (omega (arith, ints))

depth_at : (t det : ℤ) (s : ℕ) → pos 0 ≤ℤ t → pos 0 <ℤ det → (pos s *ℤ det) ≤ℤ (pos 65536 *ℤ t) → (pos 65536 *ℤ t) <ℤ (pos (s + 1) *ℤ det) →
    65536 * unsigned_abs t / unsigned_abs det ≡ s
depth_at (pos n) (pos d) s h k l u = quotient_within (65536 * n) d s (omega (arith, ints)) (omega (arith, ints)) (omega (arith, ints))
depth_at (pos n) (negsuc d) s h k l u = absurd (omega (arith, ints))
depth_at (negsuc n) det s h k l u = absurd (omega (arith, ints))

-- ---- triangles
record IsMet (c : Crossing) : Type 0 where
  pub det : pos 0 <ℤ c.det
  pub t : pos 0 ≤ℤ c.t
  pub p : pos 0 ≤ℤ c.p
  pub q : pos 0 ≤ℤ c.q
  pub sum : (c.p +ℤ c.q) ≤ℤ c.det

and_first : (a b : Bool) → (a && b) ≡ true → a ≡ true
and_first true b h = refl
and_first false b h = h

and_second : (a b : Bool) → (a && b) ≡ true → b ≡ true
and_second true b h = h
and_second false b h = absurd (cc)

from_lt : (a b : ℤ) → int_lt a b ≡ true → a <ℤ b
from_lt a b h = grind (arith, ints)

to_lt : (a b : ℤ) → a <ℤ b → int_lt a b ≡ true
to_lt a b h = grind (arith, ints)

met : (c : Crossing) → is_crossed c ≡ true → IsMet c
unfolding is_crossed
met c h =
    let four = and_first _ _ h in
    let three = and_first _ _ four in
    let two = and_first _ _ three in
    record {
      det = from_lt _ _ (and_first _ _ two);
      t = from_le _ _ (and_second _ _ two);
      p = from_le _ _ (and_second _ _ three);
      q = from_le _ _ (and_second _ _ four);
      sum = from_le _ _ (and_second _ _ h);
    }

crossed : (c : Crossing) → IsMet c → is_crossed c ≡ true
unfolding is_crossed
crossed c m = rw (to_lt _ _ m.det, to_le _ _ m.t, to_le _ _ m.p, to_le _ _ m.q, to_le _ _ m.sum) refl

record IsGuarded (t u : Bool) (q s : ℕ) : Type 0 where
  pub first : t ≡ true
  pub second : u ≡ true
  pub same : q ≡ s

guarded : (t u : Bool) (q s : ℕ) → cond (t && u) (Some q) None ≡ Some s → IsGuarded t u q s
guarded true true q s e = record { first = refl; second = refl; same = cc }
guarded true false q s e = absurd (cc)
guarded false u q s e = absurd (cc)

open_guard : (t u : Bool) (q : ℕ) → t ≡ true → u ≡ true → cond (t && u) (Some q) None ≡ Some q
open_guard true true q e f = refl
open_guard true false q e f = absurd (cc)
open_guard false u q e f = absurd (cc)

from_leb : (q : ℕ) → leb q (2 ^ 32) ≡ true → q ≤ 2 ^ 32
from_leb q h = grind (arith, nat_tests)

to_leb : (q : ℕ) → q ≤ 2 ^ 32 → leb q (2 ^ 32) ≡ true
to_leb q h = grind (arith, nat_tests)

crossed_at : (c : Crossing) (s : ℕ) → IsMet c → 65536 * unsigned_abs c.t / unsigned_abs c.det ≡ s → s ≤ 2 ^ 32 → IsCrossedAt c s
crossed_at c s m e near = record {
  not_parallel = m.det;
  first = m.p;
  second = m.q;
  third = m.sum;
  ahead = m.t;
  reached = rw e at (reached_at c.t c.det m.t m.det);
  not_passed = rw e at (passed_at c.t c.det m.t m.det);
  near = near;
}

crossing_depth-some : (c : Crossing) (s : ℕ) → crossing_depth c ≡ Some s → IsCrossedAt c s
unfolding crossing_depth
crossing_depth-some c s e =
    let g = guarded (is_crossed c) _ _ s e in
    let near = rw g.same at (from_leb _ g.second) in
    crossed_at c s (met c g.first) g.same near

crossing_depth-at : (c : Crossing) (s : ℕ) → IsCrossedAt c s → crossing_depth c ≡ Some s
unfolding crossing_depth
crossing_depth-at c s at_s =
    let e = depth_at c.t c.det s at_s.ahead at_s.not_parallel at_s.reached at_s.not_passed in
    let hit = crossed c (record { det = at_s.not_parallel; t = at_s.ahead; p = at_s.first; q = at_s.second; sum = at_s.third }) in
    let near = rw (← e) at (to_leb s at_s.near) in
    open_guard (is_crossed c) _ _ hit near ∙ ap Some e

-- ---- spheres
record IsLeast (test : ℕ → Bool) (k s : ℕ) : Type 0 where
  pub passes : test s ≡ true
  pub before : (j : ℕ) → k ≤ j → j < s → test j ≡ false

least_next : (test : ℕ → Bool) (n k s : ℕ) → (first_from test n (suc k) ≡ Some s → IsLeast test (suc k) s) → first_from test (suc n) k ≡ Some s → IsLeast test k s
least_next test n k s later e = by_test (test k) refl
  where
    by_test : (b : Bool) → test k ≡ b → IsLeast test k s
    by_test true h =
        let found : Some k ≡ Some s = sym (found_here test n k h) ∙ e in
        let same : k ≡ s = cc in
        record { passes = rw (← same) h; before = λ j l m. absurd (omega arith) }
    by_test false h =
        let rest = later (sym (found_later test n k h) ∙ e) in
        record {
          passes = rest.passes;
          before = λ j l m. elim (below_or_at k j l) [ inl lt ↦ rest.before j lt m | inr same ↦ rw (← same) h ];
        }

first_from-least : (test : ℕ → Bool) (n k s : ℕ) → first_from test n k ≡ Some s → IsLeast test k s
first_from-least test zero k s e = let none : None ≡ Some s = sym (found_never test k) ∙ e in absurd (cc)
first_from-least test (suc n) k s e = least_next test n k s (first_from-least test n (suc k) s) e

sphere_depth-some : (ray : Ray) (centre : Vec3) (radius : ℤ) (s : ℕ) → sphere_depth ray centre radius ≡ Some s → IsEnteredAt ray centre radius s
unfolding sphere_depth
sphere_depth-some ray centre radius s e =
    let least = first_from-least (is_in_ball ray centre radius) (2 ^ 32 + 1) 0 s e in
    let bound = first_from-near (is_in_ball ray centre radius) (2 ^ 32 + 1) 0 s e in
    record { inside = least.passes; before = λ k l. least.before k (omega arith) l; near = omega arith }

sphere_depth-at : (ray : Ray) (centre : Vec3) (radius : ℤ) (s : ℕ) → IsEnteredAt ray centre radius s → sphere_depth ray centre radius ≡ Some s
unfolding sphere_depth
sphere_depth-at ray centre radius s entered =
    let near = entered.near in
    first_from-found (is_in_ball ray centre radius) (2 ^ 32 + 1) 0 s (omega arith) (omega arith) entered.before entered.inside

-- ---- both
pub depth-some : (ray : Ray) (shape : Shape) (s : ℕ) → depth ray shape ≡ Some s → IsDepth ray shape s
depth-some ray (Triangle a b c) s e = crossing_depth-some (turned (crossing ray a b c)) s e
depth-some ray (Sphere centre radius) s e = sphere_depth-some ray centre radius s e

pub depth-at : (ray : Ray) (shape : Shape) (s : ℕ) → IsDepth ray shape s → depth ray shape ≡ Some s
depth-at ray (Triangle a b c) s d = crossing_depth-at (turned (crossing ray a b c)) s d
depth-at ray (Sphere centre radius) s d = sphere_depth-at ray centre radius s d

matched : (o : Option ℕ) (P : ℕ → Type 0) → ((s : ℕ) → o ≡ Some s → P s) → ((s : ℕ) → P s → o ≡ Some s) → MatchOption o ((s : ℕ) → P s → ⊥) P
matched None P some back = λ s p. let e = back s p in absurd (cc)
matched (Some s) P some back = some s refl

pub depth-is : (ray : Ray) (shape : Shape) → MatchOption (depth ray shape) ((s : ℕ) → IsDepth ray shape s → ⊥) (IsDepth ray shape)
depth-is ray shape = matched (depth ray shape) (IsDepth ray shape) (depth-some ray shape) (depth-at ray shape)
