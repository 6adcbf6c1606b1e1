-- The nearest of some hits is the same in any order, and so is the best hit of some items.
use Rattle.std.proofs.Common.{◌≡◌, ℕ, ◌<◌, ◌≤◌, Bool, true, false, List, [], ◌∷◌, ◌++◌, All, Option, Some, None, IsPermutation, filter_map, arith, refl, ap, sym, ◌∙◌}
use Rattle.std.specs.Option.{ForSome}
use Rattle.std.proofs.lemmas.Bool.Decides.{nat_tests}
use Rattle.std.proofs.lemmas.List.Elements.{All-cons, All-head, All-nil, All-tail, All-weaker, filter_map-append}
use Rattle.std.proofs.lemmas.List.Sorted.{All-permutation, IsPermutation-sym}
use Rattle.fx_math.specs.declared.scene.Place.{Place}
use Rattle.bvh_build.specs.declared.trees.Item.{Item}
use Rattle.picture_model.specs.Hits.{is_lower, is_nearer, nearer, nearest_of}
use Rattle.picture_model.specs.declared.records.Hit.{Hit}
use Rattle.picture_model.proofs.HitOrder.{is_nearer-trans, nearer-assoc, nearest_of-append, nearest_of-cons_option}
use Rattle.ray_kernel.specs.Searches.{IsEntry, Query, best_in, candidate}

-- ---- two hits
-- of two places that are not the same, one is lower
record SamePlace (a b : Place) : Type 0 where
  inst : a.inst ≡ b.inst
  surf : a.surf ≡ b.surf
  prim : a.prim ≡ b.prim

places : (a b : Place) → is_lower a b ≡ false → is_lower b a ≡ false → SamePlace a b
unfolding is_lower
places a b p q = record { inst = grind (arith, nat_tests); surf = grind (arith, nat_tests); prim = grind (arith, nat_tests) }

same_place : (a b : Place) → SamePlace a b → a ≡ b
same_place a b s = λ i. record { inst = s.inst i; surf = s.surf i; prim = s.prim i }

record SameHit (a b : Hit) : Type 0 where
  depth : a.depth ≡ b.depth
  above : is_lower a.place b.place ≡ false
  below : is_lower b.place a.place ≡ false

hits : (a b : Hit) → is_nearer a b ≡ false → is_nearer b a ≡ false → SameHit a b
unfolding is_nearer
hits a b p q = record { depth = grind (arith, nat_tests); above = grind (arith, nat_tests); below = grind (arith, nat_tests) }

same_hit : (a b : Hit) → SameHit a b → a ≡ b
same_hit a b s = let place = same_place a.place b.place (places a.place b.place s.above s.below) in λ i. record { depth = s.depth i; place = place i }

is_lower-not_itself : (a : Place) → is_lower a a ≡ false
unfolding is_lower
is_lower-not_itself a = grind (arith, nat_tests)

is_nearer-not_itself : (a : Hit) → is_nearer a a ≡ false
unfolding is_nearer
is_nearer-not_itself a = grind (arith, nat_tests, is_lower-not_itself a.place)

pub is_nearer-by_depth : (a b : Hit) → a.depth < b.depth → is_nearer a b ≡ true
unfolding is_nearer
is_nearer-by_depth a b h = grind (arith, nat_tests)

comm_tests : (a b : Hit) (ab ba : Bool) → is_nearer a b ≡ ab → is_nearer b a ≡ ba → nearer (Some a) (Some b) ≡ nearer (Some b) (Some a)
comm_tests a b true true p q = let twice = is_nearer-trans a b a p q in let never = is_nearer-not_itself a in absurd (cc)
comm_tests a b true false p q = rw (p, q) refl
comm_tests a b false true p q = rw (p, q) refl
comm_tests a b false false p q = rw (p, q) (ap Some (same_hit a b (hits a b p q)))

pub nearer-comm : (a b : Option Hit) → nearer a b ≡ nearer b a
nearer-comm None None = refl
nearer-comm None (Some b) = refl
nearer-comm (Some a) None = refl
nearer-comm (Some a) (Some b) = comm_tests a b _ _ refl refl

nearer-itself : (a : Option Hit) → nearer a a ≡ a
nearer-itself None = refl
nearer-itself (Some a) = let never = is_nearer-not_itself a in rw never refl

-- ---- the nearest of what some elements give
-- none of them is nearer than it
passed_over : {X : Type 0} (f : X → Option Hit) (xs : List X) → All (λ x. nearer (f x) (nearest_of (filter_map f xs)) ≡ nearest_of (filter_map f xs)) xs
passed_over f [] = All-nil _
passed_over f (x ∷ xs) =
    let rest = nearest_of (filter_map f xs) in
    rw (nearest_of-cons_option (f x) (filter_map f xs))
    (All-cons (λ y. nearer (f y) (nearer (f x) rest) ≡ nearer (f x) rest) x xs
    (sym (nearer-assoc (f x) (f x) rest) ∙ ap (λ h. nearer h rest) (nearer-itself (f x)))
    (All-weaker (λ y. nearer (f y) rest ≡ rest) (λ y. nearer (f y) (nearer (f x) rest) ≡ nearer (f x) rest)
    (λ y e. sym (nearer-assoc (f y) (f x) rest) ∙ ap (λ h. nearer h rest) (nearer-comm (f y) (f x)) ∙ nearer-assoc (f x) (f y) rest ∙ ap (nearer (f x)) e)
    xs (passed_over f xs)))

-- where none of them is nearer than a hit, neither is the nearest
pub none_nearer : {X : Type 0} (f : X → Option Hit) (xs : List X) (best : Option Hit) → All (λ x. nearer (f x) best ≡ best) xs → nearer (nearest_of (filter_map f xs)) best ≡ best
none_nearer f [] best h = refl
none_nearer f (x ∷ xs) best h =
    rw (nearest_of-cons_option (f x) (filter_map f xs))
    (nearer-assoc (f x) (nearest_of (filter_map f xs)) best ∙ ap (nearer (f x)) (none_nearer f xs best (All-tail (λ y. nearer (f y) best ≡ best) x xs h)) ∙ All-head (λ y. nearer (f y) best ≡ best) x xs h)

pub nearest_of-permutation : {X : Type 0} (f : X → Option Hit) (xs ys : List X) → IsPermutation xs ys → nearest_of (filter_map f xs) ≡ nearest_of (filter_map f ys)
nearest_of-permutation f xs ys p =
    let a = nearest_of (filter_map f xs) in
    let b = nearest_of (filter_map f ys) in
    let over_ys = All-permutation (λ x. nearer (f x) a ≡ a) xs ys p (passed_over f xs) in
    let over_xs = All-permutation (λ x. nearer (f x) b ≡ b) ys xs (IsPermutation-sym xs ys p) (passed_over f ys) in
    sym (none_nearer f ys a over_ys) ∙ nearer-comm b a ∙ none_nearer f xs b over_xs

-- ---- the best hit of some items
pub best_in-append : (q : Query) (xs ys : List Item) → best_in q (xs ++ ys) ≡ nearer (best_in q xs) (best_in q ys)
best_in-append q xs ys = ap nearest_of (filter_map-append (candidate q) xs ys) ∙ nearest_of-append (filter_map (candidate q) xs) (filter_map (candidate q) ys)

pub best_in-permutation : (q : Query) (xs ys : List Item) → IsPermutation xs ys → best_in q xs ≡ best_in q ys
best_in-permutation q xs ys p = nearest_of-permutation (candidate q) xs ys p

-- items that have nothing nearer than the best hit change nothing
pub best_in-idle : (q : Query) (items : List Item) (best : Option Hit) → All (λ item. nearer (candidate q item) best ≡ best) items → nearer best (best_in q items) ≡ best
best_in-idle q items best h = nearer-comm best (best_in q items) ∙ none_nearer (candidate q) items best h

behind_entry : (hit : Option Hit) (entry : ℕ) (h : Hit) → ForSome hit (λ k. entry ≤ k.depth) → h.depth < entry → nearer hit (Some h) ≡ Some h
behind_entry None entry h low far = refl
behind_entry (Some k) entry h low far = let least = low k refl in let first = is_nearer-by_depth h k (omega arith) in rw first refl

-- what is entered behind the best hit holds no nearer one
pub beyond : (q : Query) (items : List Item) (entry : ℕ) (h : Hit) → IsEntry q items entry → h.depth < entry → nearer (Some h) (best_in q items) ≡ Some h
beyond q items entry h low far =
    best_in-idle q items (Some h) (All-weaker (λ item. ForSome (candidate q item) (λ k. entry ≤ k.depth)) (λ item. nearer (candidate q item) (Some h) ≡ Some h)
    (λ item least. behind_entry (candidate q item) entry h least far) items low)
