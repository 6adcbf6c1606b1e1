-- Along a ray the squared distance to a centre falls up to some point and rises from there on. So the first point that is in the ball,
-- or whose successor is no nearer, tells whether and where the ray enters the ball.
use Rattle.std.proofs.Common.{◌≡◌, ℕ, zero, suc, ◌+◌, ◌^◌, ◌<◌, ◌≤◌, ℤ, pos, negsuc, ◌+ℤ◌, ◌*ℤ◌, ◌≤ℤ◌, int_le, Bool, true, false, ◌||◌, nat_lt, ◌-◌, Some, None, arith, ap, sym, ◌∙◌, refl, ◌⊎◌, inl, inr}
use Rattle.std.proofs.lemmas.Int.{ints}
use Rattle.std.proofs.lemmas.Bool.Decides.{nat_tests}
use Rattle.fx_math.proofs.Rings.{*ℤ-+ℤ, dot-add, dot_comm}
use Rattle.fx_math.proofs.Sizes.{same_vec}
use Rattle.fx_math.specs.Vec3.{add, dot, times}
use Rattle.fx_math.specs.declared.vectors.Ray.{Ray}
use Rattle.fx_math.specs.declared.vectors.Vec3.{Vec3}
use Rattle.picture_model.specs.Depths.{distance_at, first_from, from_centre, is_in_ball, is_settled, sphere_depth}

-- ---- the next point of a ray
next_multiple : (d : ℤ) (s : ℕ) → d *ℤ pos (s + 1) ≡ d *ℤ pos s +ℤ d
next_multiple d s = *ℤ-+ℤ d (pos s) (pos 1) ∙ ap (λ z. d *ℤ pos s +ℤ z) (once d)
  where
    once : (d : ℤ) → d *ℤ pos 1 ≡ d
    once d = omega (arith, ints)

from_centre-next : (ray : Ray) (centre : Vec3) (s : ℕ) → from_centre ray centre (s + 1) ≡ add (from_centre ray centre s) ray.d
unfolding from_centre add times
from_centre-next ray centre s =
    let x = next_multiple ray.d.x s in
    let y = next_multiple ray.d.y s in
    let z = next_multiple ray.d.z s in
    same_vec _ _ (rw x (omega (arith, ints))) (rw y (omega (arith, ints))) (rw z (omega (arith, ints)))

-- ---- the distance falls, then rises
square_step : (v d : Vec3) → dot (add v d) (add v d) ≡ dot v v +ℤ dot v d +ℤ dot v d +ℤ dot d d
square_step v d =
    let a = dot-add (add v d) v d in
    let b = dot_comm (add v d) v ∙ dot-add v v d in
    let c = dot_comm (add v d) d ∙ dot-add d v d in
    let e = dot_comm d v in
    omega (arith, ints)

square_sign : (z : ℤ) → pos 0 ≤ℤ (z *ℤ z)
square_sign (pos n) = omega (arith, ints)
square_sign (negsuc n) = omega (arith, ints)

dot_sign : (d : Vec3) → pos 0 ≤ℤ dot d d
unfolding dot
dot_sign d =
    let x = square_sign d.x in
    let y = square_sign d.y in
    let z = square_sign d.z in
    omega (arith, ints)

convex : (v d : Vec3) → dot v v ≤ℤ dot (add v d) (add v d) → dot (add v d) (add v d) ≤ℤ dot (add (add v d) d) (add (add v d) d)
convex v d h =
    let first = square_step v d in
    let second = square_step (add v d) d in
    let along = dot_comm (add v d) d ∙ dot-add d v d in
    let turn = dot_comm d v in
    let turn_next = dot_comm d (add v d) in
    let sign = dot_sign d in
    omega (arith, ints)

le_trans : (a b c : ℤ) → a ≤ℤ b → b ≤ℤ c → a ≤ℤ c
le_trans a b c p q = omega (arith, ints)

same_le : (a : ℤ) → a ≤ℤ a
same_le a = omega (arith, ints)

or_true : (b : Bool) → (b || true) ≡ true
or_true true = refl
or_true false = refl

-- where the next point is no nearer, neither is the one after it
pub distance_at-rises : (ray : Ray) (centre : Vec3) (s : ℕ) → distance_at ray centre s ≤ℤ distance_at ray centre (s + 1) →
    distance_at ray centre (s + 1) ≤ℤ distance_at ray centre (s + 1 + 1)
unfolding distance_at
distance_at-rises ray centre s =
    rw (from_centre-next ray centre (s + 1), from_centre-next ray centre s)
    (convex (from_centre ray centre s) ray.d)

-- from a point on whose successor is no nearer, none is nearer
pub distance_at-from : (ray : Ray) (centre : Vec3) (s n : ℕ) → distance_at ray centre s ≤ℤ distance_at ray centre (s + 1) →
    (distance_at ray centre s ≤ℤ distance_at ray centre (s + n)) × (distance_at ray centre (s + n) ≤ℤ distance_at ray centre (s + n + 1))
distance_at-from ray centre s zero h =
    let e : s + 0 ≡ s = omega arith in
    let same = same_le (distance_at ray centre s) in
    rw e (same, h)
distance_at-from ray centre s (suc n) h =
    let before = distance_at-from ray centre s n h in
    let e : s + suc n ≡ s + n + 1 = omega arith in
    rw e (le_trans _ _ _ before.0 before.1, distance_at-rises ray centre (s + n) before.1)

-- ---- settled points
pub from_le : (a b : ℤ) → int_le a b ≡ true → a ≤ℤ b
from_le a b h = grind (arith, ints)

pub to_le : (a b : ℤ) → a ≤ℤ b → int_le a b ≡ true
to_le a b h = grind (arith, ints)

from_not_le : (a b : ℤ) → int_le a b ≡ false → b ≤ℤ a
from_not_le a b h = grind (arith, ints)

settled_step : (a b e r : ℤ) (p q : Bool) → int_le a r ≡ p → int_le a b ≡ q → (a ≤ℤ b → b ≤ℤ e) → (p || q) ≡ true → (int_le b r || int_le b e) ≡ true
settled_step a b e r p true x y h t = rw (to_le b e (h (from_le a b y))) (or_true (int_le b r))
settled_step a b e r true false x y h t = rw (to_le b r (le_trans b a r (from_not_le a b y) (from_le a r x))) refl
settled_step a b e r false false x y h t = cc

pub is_settled-next : (ray : Ray) (centre : Vec3) (radius : ℤ) (s : ℕ) → is_settled ray centre radius s ≡ true → is_settled ray centre radius (s + 1) ≡ true
unfolding is_settled is_in_ball
is_settled-next ray centre radius s = settled_step _ _ _ _ _ _ refl refl (distance_at-rises ray centre s)

is_settled-on : (ray : Ray) (centre : Vec3) (radius : ℤ) (s n : ℕ) → is_settled ray centre radius s ≡ true → is_settled ray centre radius (s + n) ≡ true
is_settled-on ray centre radius s zero h = let e : s + 0 ≡ s = omega arith in rw e h
is_settled-on ray centre radius s (suc n) h =
    let e : s + suc n ≡ s + n + 1 = omega arith in
    rw e (is_settled-next ray centre radius (s + n) (is_settled-on ray centre radius s n h))

-- before a point that is not settled none is
pub is_settled-before : (ray : Ray) (centre : Vec3) (radius : ℤ) (s k : ℕ) → is_settled ray centre radius s ≡ false → k ≤ s → is_settled ray centre radius k ≡ false
is_settled-before ray centre radius s k h l = by_test (is_settled ray centre radius k) refl
  where
    by_test : (b : Bool) → is_settled ray centre radius k ≡ b → is_settled ray centre radius k ≡ false
    by_test false e = e
    by_test true e =
        let on = is_settled-on ray centre radius k (s - k) e in
        let there : k + (s - k) ≡ s = omega arith in
        absurd (cc (rw there at on))

-- ---- the least number that passes
pub found_here : (test : ℕ → Bool) (n k : ℕ) → test k ≡ true → first_from test (suc n) k ≡ Some k
unfolding first_from
found_here test n k h = rw (h, first_from) refl

pub found_later : (test : ℕ → Bool) (n k : ℕ) → test k ≡ false → first_from test (suc n) k ≡ first_from test n (suc k)
unfolding first_from
found_later test n k h = rw (h, first_from) refl

pub found_never : (test : ℕ → Bool) (k : ℕ) → first_from test zero k ≡ None
unfolding first_from
found_never test k = refl

pub below_or_at : (k s : ℕ) → k ≤ s → (k < s) ⊎ (k ≡ s)
below_or_at k s l = by_test (nat_lt k s) refl
  where
    by_test : (b : Bool) → nat_lt k s ≡ b → (k < s) ⊎ (k ≡ s)
    by_test true e = inl (grind (arith, nat_tests))
    by_test false e = inr (grind (arith, nat_tests))

pub le_or_below : (j s : ℕ) → (j < s) ⊎ (s ≤ j)
le_or_below j s = by_test (nat_lt j s) refl
  where
    by_test : (b : Bool) → nat_lt j s ≡ b → (j < s) ⊎ (s ≤ j)
    by_test true e = inl (grind (arith, nat_tests))
    by_test false e = inr (grind (arith, nat_tests))

pub first_from-found : (test : ℕ → Bool) (n k s : ℕ) → k ≤ s → s < k + n → ((j : ℕ) → j < s → test j ≡ false) → test s ≡ true → first_from test n k ≡ Some s
first_from-found test zero k s l m before h = absurd (omega arith)
first_from-found test (suc n) k s l m before h =
    elim (below_or_at k s l) [
      | inl lt ↦ found_later test n k (before k lt) ∙ first_from-found test n (suc k) s (omega arith) (omega arith) before h
      | inr e ↦ found_here test n k (rw e h) ∙ ap Some e
    ]

pub first_from-none : (test : ℕ → Bool) (n k : ℕ) → ((j : ℕ) → j < k + n → test j ≡ false) → first_from test n k ≡ None
first_from-none test zero k none = found_never test k
first_from-none test (suc n) k none = found_later test n k (none k (omega arith)) ∙ first_from-none test n (suc k) (λ j l. none j (omega arith))

-- ---- the depth number of a sphere
or_false : (p q : Bool) → (p || q) ≡ false → p ≡ false
or_false true q h = h
or_false false q h = refl

or_second : (p q : Bool) → p ≡ false → (p || q) ≡ true → q ≡ true
or_second true q e h = cc
or_second false q e h = h

-- a point that is not settled lies outside
pub is_in_ball-unsettled : (ray : Ray) (centre : Vec3) (radius : ℤ) (s : ℕ) → is_settled ray centre radius s ≡ false → is_in_ball ray centre radius s ≡ false
unfolding is_settled
is_in_ball-unsettled ray centre radius s h = or_false _ _ h

farther : (a d r : ℤ) → a ≤ℤ d → int_le a r ≡ false → int_le d r ≡ false
farther a d r l h = by_test (int_le d r) refl
  where
    by_test : (b : Bool) → int_le d r ≡ b → int_le d r ≡ false
    by_test false e = e
    by_test true e = let near = to_le a r (le_trans a d r l (from_le d r e)) in absurd (cc)

-- behind a point that is settled and lies outside all points lie outside
pub is_in_ball-after : (ray : Ray) (centre : Vec3) (radius : ℤ) (s n : ℕ) → is_settled ray centre radius s ≡ true → is_in_ball ray centre radius s ≡ false → is_in_ball ray centre radius (s + n) ≡ false
unfolding is_settled is_in_ball
is_in_ball-after ray centre radius s n h o =
    farther _ _ _ (distance_at-from ray centre s n (from_le _ _ (or_second _ _ o h))).0 o

pub sphere_depth-found : (ray : Ray) (centre : Vec3) (radius : ℤ) (s : ℕ) → ((k : ℕ) → k < s → is_settled ray centre radius k ≡ false) → s ≤ 2 ^ 32 →
    is_in_ball ray centre radius s ≡ true → Some s ≡ sphere_depth ray centre radius
unfolding sphere_depth
sphere_depth-found ray centre radius s before near h =
    sym (first_from-found (is_in_ball ray centre radius) (2 ^ 32 + 1) 0 s (omega arith) (omega arith) (λ j l. is_in_ball-unsettled ray centre radius j (before j l)) h)

pub sphere_depth-none : (ray : Ray) (centre : Vec3) (radius : ℤ) (s : ℕ) → ((k : ℕ) → k < s → is_settled ray centre radius k ≡ false) → s ≤ 2 ^ 32 →
    (s < 2 ^ 32 → is_settled ray centre radius s ≡ true) → is_in_ball ray centre radius s ≡ false → None ≡ sphere_depth ray centre radius
unfolding sphere_depth
sphere_depth-none ray centre radius s before near settled o =
    sym (first_from-none (is_in_ball ray centre radius) (2 ^ 32 + 1) 0 outside)
  where
    behind : (j : ℕ) → s < 2 ^ 32 → s ≤ j → is_in_ball ray centre radius j ≡ false
    behind j lt l =
        let there : s + (j - s) ≡ j = omega arith in
        rw there at (is_in_ball-after ray centre radius s (j - s) (settled lt) o)

    outside : (j : ℕ) → j < 0 + (2 ^ 32 + 1) → is_in_ball ray centre radius j ≡ false
    outside j l =
        elim (le_or_below j s) [
          | inl lt ↦ is_in_ball-unsettled ray centre radius j (before j lt)
          | inr ge ↦ elim (below_or_at s j ge) [
            | inl lt ↦ behind j (omega arith) ge
            | inr e ↦ rw (← e) o
          ]
        ]
