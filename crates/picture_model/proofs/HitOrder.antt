-- Hits are in one order, and the nearest of some is the same however they are grouped.
use Rattle.std.proofs.Common.{◌≡◌, ℕ, ◌+◌, ◌<◌, ◌≤◌, Bool, true, false, List, [], ◌∷◌, ◌++◌, Option, Some, None, arith, refl, ap, sym, ◌∙◌, cond, length, get_or, drop, map, add-one, drop-cons, suc}
use Rattle.std.proofs.lemmas.List.{drop_all}
use Rattle.std.specs.List.{cons_option, filter, filter_map}
use Rattle.std.proofs.lemmas.Bool.Decides.{nat_tests}
use Rattle.fx_math.specs.declared.scene.Place.{Place}
use Rattle.picture_model.specs.declared.records.Hit.{Hit}
use Rattle.picture_model.specs.Hits.{behind, is_lower, is_nearer, nearer, nearest_of}

pub is_lower-trans : (a b c : Place) → is_lower a b ≡ true → is_lower b c ≡ true → is_lower a c ≡ true
unfolding is_lower
is_lower-trans a b c p q = grind (arith, nat_tests)

-- what is not above is below
pub is_lower-trans_not : (a b c : Place) → is_lower b a ≡ false → is_lower c b ≡ false → is_lower c a ≡ false
unfolding is_lower
is_lower-trans_not a b c p q = grind (arith, nat_tests)

pub is_nearer-trans : (a b c : Hit) → is_nearer a b ≡ true → is_nearer b c ≡ true → is_nearer a c ≡ true
unfolding is_nearer
is_nearer-trans a b c p q = grind (arith, nat_tests, is_lower-trans a.place b.place c.place)

pub is_nearer-trans_not : (a b c : Hit) → is_nearer b a ≡ false → is_nearer c b ≡ false → is_nearer c a ≡ false
unfolding is_nearer
is_nearer-trans_not a b c p q = grind (arith, nat_tests, is_lower-trans_not a.place b.place c.place)

pub nearer-none : (h : Option Hit) → nearer h None ≡ h
nearer-none None = refl
nearer-none (Some a) = refl

-- the four tests that may come up when three hits are compared
nearer-assoc_tests : (a b c : Hit) (ba cb ca : Bool) → is_nearer b a ≡ ba → is_nearer c b ≡ cb → is_nearer c a ≡ ca → nearer (nearer (Some a) (Some b)) (Some c) ≡ nearer (Some a) (nearer (Some b) (Some c))
nearer-assoc_tests a b c true true true p q r = grind (arith, p, q, r)
nearer-assoc_tests a b c true true false p q r = absurd (cc (is_nearer-trans c b a q p))
nearer-assoc_tests a b c true false ca p q r = grind (arith, p, q, r)
nearer-assoc_tests a b c false true ca p q r = grind (arith, p, q, r)
nearer-assoc_tests a b c false false true p q r = absurd (cc (is_nearer-trans_not a b c p q))
nearer-assoc_tests a b c false false false p q r = grind (arith, p, q, r)

pub nearer-assoc : (a b c : Option Hit) → nearer (nearer a b) c ≡ nearer a (nearer b c)
nearer-assoc None b c = refl
nearer-assoc (Some a) None c = refl
nearer-assoc (Some a) (Some b) None = nearer-none (nearer (Some a) (Some b))
nearer-assoc (Some a) (Some b) (Some c) = nearer-assoc_tests a b c _ _ _ refl refl refl

pub nearest_of-cons_option : (h : Option Hit) (hs : List Hit) → nearest_of (cons_option h hs) ≡ nearer h (nearest_of hs)
nearest_of-cons_option None hs = refl
nearest_of-cons_option (Some h) hs = refl

pub nearest_of-append : (xs ys : List Hit) → nearest_of (xs ++ ys) ≡ nearer (nearest_of xs) (nearest_of ys)
nearest_of-append [] ys = refl
nearest_of-append (x ∷ xs) ys = ap (nearer (Some x)) (nearest_of-append xs ys) ∙ sym (nearer-assoc (Some x) (nearest_of xs) (nearest_of ys))

-- what a loop over the list keeps: at one more element, and past the last one
pub nearest_of-step : {X : Type 0} (f : X → Option Hit) (xs : List X) (i : ℕ) (d : X) (best : Option Hit) → i < length xs →
    nearer (nearer best (f (get_or xs i d))) (nearest_of (filter_map f (drop (i + 1) xs))) ≡ nearer best (nearest_of (filter_map f (drop i xs)))
nearest_of-step f xs i d best h =
    rw (add-one, drop-cons xs i d, nearest_of-cons_option (f (get_or xs i d)) (filter_map f (drop (suc i) xs)))
    (nearer-assoc best (f (get_or xs i d)) (nearest_of (filter_map f (drop (suc i) xs))))

pub nearest_of-end : {X : Type 0} (f : X → Option Hit) (xs : List X) (i : ℕ) (best : Option Hit) → length xs ≤ i →
    best ≡ nearer best (nearest_of (filter_map f (drop i xs)))
nearest_of-end f xs i best h = rw (drop_all i xs h) (sym (nearer-none best))

pub filter_map-map : {X Y Z : Type 0} (f : Y → Option Z) (g : X → Y) (xs : List X) → filter_map f (map g xs) ≡ filter_map (λ x. f (g x)) xs
filter_map-map f g [] = refl
filter_map-map f g (x ∷ xs) = ap (cons_option (f (g x))) (filter_map-map f g xs)

-- the hits behind one of the hits, primitive by primitive
pub filter-filter_map : {X : Type 0} (f : X → Option Hit) (last : Hit) (xs : List X) →
    filter (is_nearer last) (filter_map f xs) ≡ filter_map (λ x. behind last (f x)) xs
filter-filter_map f last [] = refl
filter-filter_map f last (x ∷ xs) = first (f x) (is_nearer last) (filter-filter_map f last xs)
  where
    first : (h : Option Hit) (test : Hit → Bool) → filter (is_nearer last) (filter_map f xs) ≡ filter_map (λ x. behind last (f x)) xs →
        filter (is_nearer last) (cons_option h (filter_map f xs)) ≡ cons_option (behind last h) (filter_map (λ x. behind last (f x)) xs)
    first None test e = e
    first (Some h) test e =
        elim (is_nearer last h) as (λ b. cond b (h ∷ filter (is_nearer last) (filter_map f xs)) (filter (is_nearer last) (filter_map f xs)) ≡ cons_option (cond b (Some h) None) (filter_map (λ x. behind last (f x)) xs))
        [ true ↦ ap (λ hs. h ∷ hs) e | false ↦ e ]
