-- Where a ray meets a triangle's plane, the point of the ray is the point of the triangle.
use Rattle.std.proofs.Common.{◌≡◌, ◌+◌, ◌*◌, ℤ, pos, neg_ℤ, ◌+ℤ◌, ◌-ℤ◌, ◌*ℤ◌, int_lt, Bool, true, false, arith, refl}
use Rattle.std.proofs.lemmas.Int.{ints}
use Rattle.fx_math.proofs.Rings.{Is, Is-add, Is-mul, Is-neg, Is-parts, Is-sub, same_by}
use Rattle.fx_math.specs.Vec3.{cross, dot, sub}
use Rattle.fx_math.specs.declared.vectors.Ray.{Ray}
use Rattle.picture_model.specs.declared.depths.Crossing.{Crossing}
use Rattle.picture_model.specs.Depths.{crossing, turned}
use Rattle.fx_math.specs.declared.vectors.Vec3.{Vec3}
use borrow.Author.Differences.{up, down}

-- a triple product by its first components
expand : (ax ay az bx by bz cx cy cz : ℤ) →
    ax *ℤ (by *ℤ cz -ℤ bz *ℤ cy) +ℤ ay *ℤ (bz *ℤ cx -ℤ bx *ℤ cz) +ℤ az *ℤ (bx *ℤ cy -ℤ by *ℤ cx)
    ≡ ax *ℤ (by *ℤ cz -ℤ bz *ℤ cy) -ℤ bx *ℤ (ay *ℤ cz -ℤ az *ℤ cy) +ℤ cx *ℤ (ay *ℤ bz -ℤ az *ℤ by)
expand ax ay az bx by bz cx cy cz =
    same_by _ _ _ _ _ _
    (Is-add _ _ _ _ _ _ (Is-add _ _ _ _ _ _ (term ax by cz bz cy) (term ay bz cx bx cz)) (term az bx cy by cx))
    (Is-add _ _ _ _ _ _ (Is-sub _ _ _ _ _ _ (term ax by cz bz cy) (term bx ay cz az cy)) (term cx ay bz az by))
    (omega arith)
  where
    product : (a b : ℤ) → Is (a *ℤ b) (up a * up b + down a * down b) (up a * down b + down a * up b)
    product a b = Is-mul a b _ _ _ _ (Is-parts a) (Is-parts b)

    minor : (a b c d : ℤ) → Is (a *ℤ b -ℤ c *ℤ d) (up a * up b + down a * down b + (up c * down d + down c * up d)) (up a * down b + down a * up b + (up c * up d + down c * down d))
    minor a b c d = Is-sub _ _ _ _ _ _ (product a b) (product c d)

    term : (f a b c d : ℤ) → Is (f *ℤ (a *ℤ b -ℤ c *ℤ d))
        (up f * (up a * up b + down a * down b + (up c * down d + down c * up d)) + down f * (up a * down b + down a * up b + (up c * up d + down c * down d)))
        (up f * (up a * down b + down a * up b + (up c * up d + down c * down d)) + down f * (up a * up b + down a * down b + (up c * down d + down c * up d)))
    term f a b c d = Is-mul _ _ _ _ _ _ (Is-parts f) (minor a b c d)

-- Cramer's rule for the first components d, e, f, t of four vectors, over the products of their other components
rule : (d e f t ef tf te df dt de : ℤ) →
    d *ℤ (t *ℤ ef -ℤ e *ℤ tf +ℤ f *ℤ te) +ℤ e *ℤ (d *ℤ tf -ℤ t *ℤ df +ℤ f *ℤ dt) +ℤ f *ℤ (t *ℤ de -ℤ e *ℤ dt -ℤ d *ℤ te)
    ≡ t *ℤ (d *ℤ ef -ℤ e *ℤ df +ℤ f *ℤ de)
rule d e f t ef tf te df dt de =
    same_by _ _ _ _ _ _
    (Is-add _ _ _ _ _ _ (Is-add _ _ _ _ _ _
    (Is-mul d _ _ _ _ _ (Is-parts d) (Is-add _ _ _ _ _ _ (Is-sub _ _ _ _ _ _ (product t ef) (product e tf)) (product f te)))
    (Is-mul e _ _ _ _ _ (Is-parts e) (Is-add _ _ _ _ _ _ (Is-sub _ _ _ _ _ _ (product d tf) (product t df)) (product f dt))))
    (Is-mul f _ _ _ _ _ (Is-parts f) (Is-sub _ _ _ _ _ _ (Is-sub _ _ _ _ _ _ (product t de) (product e dt)) (product d te))))
    (Is-mul t _ _ _ _ _ (Is-parts t) (Is-add _ _ _ _ _ _ (Is-sub _ _ _ _ _ _ (product d ef) (product e df)) (product f de)))
    (omega arith)
  where
    product : (a b : ℤ) → Is (a *ℤ b) (up a * up b + down a * down b) (up a * down b + down a * up b)
    product a b = Is-mul a b _ _ _ _ (Is-parts a) (Is-parts b)

times_opposite : (d a b c e : ℤ) → d *ℤ (a *ℤ b -ℤ c *ℤ e) ≡ neg_ℤ (d *ℤ (e *ℤ c -ℤ b *ℤ a))
times_opposite d a b c e =
    same_by _ _ _ _ _ _
    (Is-mul d _ _ _ _ _ (Is-parts d) (Is-sub _ _ _ _ _ _ (product a b) (product c e)))
    (Is-neg _ _ _ (Is-mul d _ _ _ _ _ (Is-parts d) (Is-sub _ _ _ _ _ _ (product e c) (product b a))))
    (omega arith)
  where
    product : (a b : ℤ) → Is (a *ℤ b) (up a * up b + down a * down b) (up a * down b + down a * up b)
    product a b = Is-mul a b _ _ _ _ (Is-parts a) (Is-parts b)

-- the minors of two vectors behind the first axis
abbrev minor : Vec3 → Vec3 → ℤ
minor a b = a.y *ℤ b.z -ℤ a.z *ℤ b.y

by_first : (a b c : Vec3) → dot a (cross b c) ≡ a.x *ℤ minor b c -ℤ b.x *ℤ minor a c +ℤ c.x *ℤ minor a b
unfolding dot cross
by_first a b c = expand a.x a.y a.z b.x b.y b.z c.x c.y c.z

by_last : (d e t : Vec3) → dot d (cross e t) ≡ t.x *ℤ minor d e -ℤ e.x *ℤ minor d t -ℤ d.x *ℤ minor t e
by_last d e t = let s = by_first d e t in let o = times_opposite d.x e.y t.z e.z t.y in omega (arith, ints)

-- Cramer's rule on the first axis
pub cramer_x : (d e f t : Vec3) →
    d.x *ℤ dot t (cross e f) +ℤ e.x *ℤ dot d (cross t f) +ℤ f.x *ℤ dot d (cross e t) ≡ t.x *ℤ dot d (cross e f)
cramer_x d e f t = rw (by_first t e f, by_first d t f, by_last d e t, by_first d e f) (rule d.x e.x f.x t.x (minor e f) (minor t f) (minor t e) (minor d f) (minor d t) (minor d e))

-- the axes in another order
abbrev turn : Vec3 → Vec3
turn v = record { x = v.y; y = v.z; z = v.x }

triple_turned : (a b c : Vec3) → dot (turn a) (cross (turn b) (turn c)) ≡ dot a (cross b c)
unfolding dot cross
triple_turned a b c = omega (arith, ints)

pub cramer_y : (d e f t : Vec3) →
    d.y *ℤ dot t (cross e f) +ℤ e.y *ℤ dot d (cross t f) +ℤ f.y *ℤ dot d (cross e t) ≡ t.y *ℤ dot d (cross e f)
cramer_y d e f t = rw (triple_turned t e f, triple_turned d t f, triple_turned d e t, triple_turned d e f) at (cramer_x (turn d) (turn e) (turn f) (turn t))

pub cramer_z : (d e f t : Vec3) →
    d.z *ℤ dot t (cross e f) +ℤ e.z *ℤ dot d (cross t f) +ℤ f.z *ℤ dot d (cross e t) ≡ t.z *ℤ dot d (cross e f)
cramer_z d e f t = rw (triple_turned t e f, triple_turned d t f, triple_turned d e t, triple_turned d e f) at (cramer_y (turn d) (turn e) (turn f) (turn t))

-- ---- the fractions of a crossing
times_neg : (x a : ℤ) → x *ℤ neg_ℤ a ≡ neg_ℤ (x *ℤ a)
times_neg x a = same_by _ _ _ _ _ _ (Is-mul x (neg_ℤ a) _ _ _ _ (Is-parts x) (Is-neg a _ _ (Is-parts a))) (Is-neg (x *ℤ a) _ _ (Is-mul x a _ _ _ _ (Is-parts x) (Is-parts a))) (omega arith)

-- on one axis: from a corner the ray's point is as far as the triangle's
abbrev pub Meets : Crossing → ℤ → ℤ → ℤ → ℤ → Type 0
Meets c d e f t = t *ℤ c.det +ℤ d *ℤ c.t ≡ e *ℤ c.p +ℤ f *ℤ c.q

meets_by : (d e f t def tef dtf det : ℤ) → d *ℤ tef +ℤ e *ℤ dtf +ℤ f *ℤ det ≡ t *ℤ def →
    t *ℤ neg_ℤ def +ℤ d *ℤ tef ≡ e *ℤ neg_ℤ dtf +ℤ f *ℤ neg_ℤ det
meets_by d e f t def tef dtf det h = rw (times_neg t def, times_neg e dtf, times_neg f det) (omega (arith, ints, h))

meets_neg : (d e f t det tt p q : ℤ) → t *ℤ det +ℤ d *ℤ tt ≡ e *ℤ p +ℤ f *ℤ q → t *ℤ neg_ℤ det +ℤ d *ℤ neg_ℤ tt ≡ e *ℤ neg_ℤ p +ℤ f *ℤ neg_ℤ q
meets_neg d e f t det tt p q h = rw (times_neg t det, times_neg d tt, times_neg e p, times_neg f q) (omega (arith, ints, h))

meets_turned_by : (turn : Bool) (c : Crossing) (d e f t : ℤ) → int_lt c.det (pos 0) ≡ turn → Meets c d e f t → Meets (turned c) d e f t
unfolding turned
meets_turned_by true c d e f t s h = rw s (meets_neg d e f t c.det c.t c.p c.q h)
meets_turned_by false c d e f t s h = rw s h

pub meets_x : (ray : Ray) (a b c : Vec3) → Meets (turned (crossing ray a b c)) ray.d.x (sub b a).x (sub c a).x (sub ray.o a).x
unfolding crossing
meets_x ray a b c = meets_turned_by _ (crossing ray a b c) _ _ _ _ refl (meets_by ray.d.x (sub b a).x (sub c a).x (sub ray.o a).x (dot ray.d (cross (sub b a) (sub c a))) (dot (sub ray.o a) (cross (sub b a) (sub c a))) (dot ray.d (cross (sub ray.o a) (sub c a))) (dot ray.d (cross (sub b a) (sub ray.o a)))
    (cramer_x ray.d (sub b a) (sub c a) (sub ray.o a)))

pub meets_y : (ray : Ray) (a b c : Vec3) → Meets (turned (crossing ray a b c)) ray.d.y (sub b a).y (sub c a).y (sub ray.o a).y
unfolding crossing
meets_y ray a b c = meets_turned_by _ (crossing ray a b c) _ _ _ _ refl (meets_by ray.d.y (sub b a).y (sub c a).y (sub ray.o a).y (dot ray.d (cross (sub b a) (sub c a))) (dot (sub ray.o a) (cross (sub b a) (sub c a))) (dot ray.d (cross (sub ray.o a) (sub c a))) (dot ray.d (cross (sub b a) (sub ray.o a)))
    (cramer_y ray.d (sub b a) (sub c a) (sub ray.o a)))

pub meets_z : (ray : Ray) (a b c : Vec3) → Meets (turned (crossing ray a b c)) ray.d.z (sub b a).z (sub c a).z (sub ray.o a).z
unfolding crossing
meets_z ray a b c = meets_turned_by _ (crossing ray a b c) _ _ _ _ refl (meets_by ray.d.z (sub b a).z (sub c a).z (sub ray.o a).z (dot ray.d (cross (sub b a) (sub c a))) (dot (sub ray.o a) (cross (sub b a) (sub c a))) (dot ray.d (cross (sub ray.o a) (sub c a))) (dot ray.d (cross (sub b a) (sub ray.o a)))
    (cramer_z ray.d (sub b a) (sub c a) (sub ray.o a)))
