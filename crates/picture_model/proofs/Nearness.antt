-- Every hit has a depth number within the greatest one, and what shading sees of it is within the limits.
use Rattle.std.proofs.Common.{◌≡◌, ℕ, zero, suc, ◌+◌, ◌^◌, ◌<◌, ◌≤◌, Bool, true, false, ◌&&◌, cond, List, [], ◌∷◌, All, Option, Some, None, length, get_or, fold, arith, refl, sym, subst, ◌∙◌, leb}
use Rattle.std.proofs.lemmas.Bool.Decides.{nat_tests}
use Rattle.std.proofs.lemmas.Int.{ints}
use Rattle.std.proofs.lemmas.List.Elements.{All-filter}
use Rattle.std.specs.List.{cons_option, find}
use Rattle.std.specs.Option.{ForSome, option_map}
use Rattle.fx_math.specs.declared.vectors.Ray.{Ray}
use Rattle.fx_math.specs.declared.scene.Lighting.{Lighting}
use Rattle.fx_math.specs.declared.scene.Place.{Place}
use Rattle.fx_math.specs.declared.scene.Shape.{Shape}
use Rattle.fx_math.specs.declared.scene.Shape.TheVariants.{Triangle, Sphere}
use Rattle.picture_model.proofs.Spheres.{found_here, found_later, found_never}
use Rattle.picture_model.specs.declared.depths.Crossing.{Crossing}
use Rattle.picture_model.specs.declared.records.Blend.{Blend}
use Rattle.picture_model.specs.declared.records.Hit.{Hit}
use Rattle.picture_model.specs.declared.records.HitRow.{HitRow}
use Rattle.fx_math.specs.declared.scene.Primitive.{Primitive}
use Rattle.picture_model.specs.Depths.{crossing, crossing_depth, depth, first_from, is_crossed, is_in_ball, sphere_depth, turned}
use Rattle.picture_model.specs.Hits.{all_hits, hit_after, is_nearer, nearer, nearest, nearest_of}
use Rattle.picture_model.specs.Limits.{IsBlendWithin, IsHitRowWithin, IsPrimitiveWithin}
use Rattle.picture_model.specs.Shading.{blend_any, blend_hit, hit_row, primitive_at, unblended}

-- ---- facts on each element
all_nil : {X : Type 0} (P : X → Type 0) → All P []
all_nil P = λ k d l. absurd (omega arith)

all_cons_at : {X : Type 0} (P : X → Type 0) (x : X) (xs : List X) → P x → All P xs → (k : ℕ) (d : X) → k < suc (length xs) → P (get_or (x ∷ xs) k d)
all_cons_at P x xs p h zero d l = p
all_cons_at P x xs p h (suc k) d l = h k d (omega arith)

all_cons : {X : Type 0} (P : X → Type 0) (x : X) (xs : List X) → P x → All P xs → All P (x ∷ xs)
all_cons P x xs p h = all_cons_at P x xs p h

all_head : {X : Type 0} (P : X → Type 0) (x : X) (xs : List X) → All P (x ∷ xs) → P x
all_head P x xs h = h 0 x (omega arith)

all_tail : {X : Type 0} (P : X → Type 0) (x : X) (xs : List X) → All P (x ∷ xs) → All P xs
all_tail P x xs h = λ k d l. h (suc k) d (omega arith)

-- ---- depths
guarded_near : (t u : Bool) (q s : ℕ) → leb q (2 ^ 32) ≡ u → cond (t && u) (Some q) None ≡ Some s → s ≤ 2 ^ 32
guarded_near true true q s h e = let same : q ≡ s = cc in let near : q ≤ 2 ^ 32 = grind (arith, nat_tests) in omega arith
guarded_near true false q s h e = absurd (cc)
guarded_near false u q s h e = absurd (cc)

crossing_depth-near : (c : Crossing) (s : ℕ) → crossing_depth c ≡ Some s → s ≤ 2 ^ 32
unfolding crossing_depth
crossing_depth-near c s e = guarded_near (is_crossed c) _ _ s refl e

first_from-next : (test : ℕ → Bool) (n k s : ℕ) → (first_from test n (suc k) ≡ Some s → s < suc k + n) → first_from test (suc n) k ≡ Some s → s < k + suc n
first_from-next test n k s later e = by_test (test k) refl
  where
    by_test : (b : Bool) → test k ≡ b → s < k + suc n
    by_test true h = let same : Some k ≡ Some s = sym (found_here test n k h) ∙ e in let is : k ≡ s = cc in omega arith
    by_test false h = let bound = later (sym (found_later test n k h) ∙ e) in omega arith

pub first_from-near : (test : ℕ → Bool) (n k s : ℕ) → first_from test n k ≡ Some s → s < k + n
first_from-near test zero k s e = let none : None ≡ Some s = sym (found_never test k) ∙ e in absurd (cc)
first_from-near test (suc n) k s e = first_from-next test n k s (first_from-near test n (suc k) s) e

depth-near : (ray : Ray) (shape : Shape) (s : ℕ) → depth ray shape ≡ Some s → s ≤ 2 ^ 32
unfolding sphere_depth
depth-near ray (Triangle a b c) s e = crossing_depth-near (turned (crossing ray a b c)) s e
depth-near ray (Sphere centre radius) s e = let bound = first_from-near (is_in_ball ray centre radius) (2 ^ 32 + 1) 0 s e in omega arith

-- ---- hits
abbrev IsNear : Hit → Type 0
IsNear h = h.depth ≤ 2 ^ 32

one_near : (d : Option ℕ) (place : Place) (hs : List Hit) → ForSome d (λ s. s ≤ 2 ^ 32) → All IsNear hs →
    All IsNear (cons_option (option_map (λ s. record { depth = s; place = place }) d) hs)
one_near None place hs near rest = rest
one_near (Some s) place hs near rest = all_cons IsNear _ hs (near s refl) rest

all_hits-near : (ray : Ray) (ps : List (Place × Shape)) → All IsNear (all_hits ray ps)
all_hits-near ray [] = all_nil IsNear
all_hits-near ray (p ∷ ps) = one_near (depth ray p.1) p.0 (all_hits ray ps) (λ s e. depth-near ray p.1 s e) (all_hits-near ray ps)

nearer_near : (a b : Option Hit) → ForSome a IsNear → ForSome b IsNear → ForSome (nearer a b) IsNear
nearer_near None b p q = q
nearer_near (Some a) None p q = p
nearer_near (Some a) (Some b) p q = elim (is_nearer b a) as (λ t. ForSome (cond t (Some b) (Some a)) IsNear) [ true ↦ q | false ↦ p ]

nearest_of-near : (hs : List Hit) → All IsNear hs → ForSome (nearest_of hs) IsNear
nearest_of-near [] h = λ x e. absurd (cc)
nearest_of-near (x ∷ xs) h = nearer_near (Some x) (nearest_of xs) (λ y e. let same : x ≡ y = cc in subst IsNear same (all_head IsNear x xs h)) (nearest_of-near xs (all_tail IsNear x xs h))

pub nearest-near : (ray : Ray) (ps : List (Place × Shape)) → ForSome (nearest ray ps) IsNear
unfolding nearest
nearest-near ray ps = nearest_of-near (all_hits ray ps) (all_hits-near ray ps)

pub hit_after-near : (ray : Ray) (ps : List (Place × Shape)) (last : Hit) → ForSome (hit_after ray ps last) IsNear
unfolding hit_after
hit_after-near ray ps last = nearest_of-near _ (All-filter (is_nearer last) IsNear (all_hits ray ps) (all_hits-near ray ps))

-- ---- what shading sees
found_within : {X : Type 0} (P : X → Type 0) (test : X → Bool) (xs : List X) → All P xs → ForSome (find test xs) P
found_within P test [] h = λ x e. absurd (cc)
found_within P test (x ∷ xs) h =
    elim (test x) as (λ b. ForSome (cond b (Some x) (find test xs)) P)
    [ true ↦ λ y e. let same : x ≡ y = cc in subst P same (all_head P x xs h) | false ↦ found_within P test xs (all_tail P x xs h) ]

row_within : (h : Hit) (o : Option Primitive) → h.depth ≤ 2 ^ 32 → ForSome o IsPrimitiveWithin →
    ForSome (option_map (λ p. record { depth = h.depth; shape = p.shape; color = p.color; opacity = p.opacity }) o) IsHitRowWithin
row_within h None near within = λ x e. absurd (cc)
row_within h (Some p) near within =
    let w = within p refl in
    λ x e. let same : record { depth = h.depth; shape = p.shape; color = p.color; opacity = p.opacity } ≡ x = cc in subst IsHitRowWithin same (record { depth = near; shape = w.shape; color = w.color; opacity = w.opacity })

pub hit_row-within : (ps : List Primitive) (h : Hit) → All IsPrimitiveWithin ps → h.depth ≤ 2 ^ 32 → ForSome (hit_row ps h) IsHitRowWithin
hit_row-within ps h within near = row_within h (primitive_at ps h.place) near (found_within IsPrimitiveWithin _ ps within)

pub unblended-within : IsBlendWithin unblended
unfolding unblended
unblended-within = record {
  red = record { sign = omega (arith, ints); size = omega arith };
  green = record { sign = omega (arith, ints); size = omega arith };
  blue = record { sign = omega (arith, ints); size = omega arith };
  rest = omega arith;
}

pub fold-cons_option : (lighting : Lighting) (ray : Ray) (b : Blend) (row : Option HitRow) (rows : List HitRow) →
    fold (blend_hit lighting ray) b (cons_option row rows) ≡ fold (blend_hit lighting ray) (blend_any lighting ray b row) rows
fold-cons_option lighting ray b None rows = refl
fold-cons_option lighting ray b (Some row) rows = refl
