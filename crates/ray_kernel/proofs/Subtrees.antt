-- What the span of a ray in the first box of a tree says of all hits in the tree.
use Rattle.std.proofs.Common.{◌≡◌, ℕ, ◌<◌, ◌≤◌, Bool, true, false, List, [], ◌∷◌, All, Option, Some, None, length, get_or, option_map, slice_get, arith, refl, ap}
use Rattle.std.specs.Option.{ForSome}
use Rattle.std.proofs.lemmas.Bool.Decides.{nat_tests}
use Rattle.std.proofs.lemmas.List.Elements.{All-cons, All-nil}
use Rattle.fx_math.specs.declared.scene.Place.{Place}
use Rattle.fx_math.specs.declared.scene.Shape.{Shape}
use Rattle.fx_math.specs.declared.vectors.Ray.{Ray}
use Rattle.box_tests.proofs.Nesting.{box_in-refl, hit_wider}
use Rattle.box_tests.specs.Boxes.{AreBounds, IsBoxIn, IsHitInside}
use Rattle.box_tests.specs.declared.boxes.Box3.{Box3}
use Rattle.bvh_build.specs.Trees.{Bvh, IsNested, a_fork, a_leaf, flat, leaves}
use Rattle.bvh_build.specs.declared.trees.Item.{Item}
use Rattle.bvh_build.specs.declared.trees.Node.{Node}
use Rattle.bvh_build.specs.declared.trees.Node.TheVariants.{Leaf, Fork}
use Rattle.picture_model.specs.Depths.{depth}
use Rattle.picture_model.specs.Hits.{behind, hit_with, is_nearer, nearer}
use Rattle.picture_model.specs.declared.records.Hit.{Hit}
use Rattle.ray_kernel.proofs.Holdings.{hit_inside}
use Rattle.ray_kernel.proofs.Nearers.{best_in-idle, beyond}
use Rattle.ray_kernel.specs.Searches.{IsBranchFrom, IsIdle, IsItemOf, IsPart, Query, bounds_of, candidate, hit_with_some, wanted}
use Rattle.ray_kernel.specs.declared.searches.Branch.{Branch}

-- ---- boxes
-- the first node's box holds the boxes of all leaves
pub boxes_in : (tree : Bvh) (n : Node) (rest : List Node) → n ∷ rest ≡ flat tree → IsNested tree → All (λ item. IsBoxIn item.bounds (bounds_of n)) (leaves tree)
boxes_in (a_leaf item) n rest laid nested =
    let same : n ≡ Leaf item = cc in
    rw same (All-cons (λ i. IsBoxIn i.bounds item.bounds) item [] (box_in-refl item.bounds) (All-nil (λ i. IsBoxIn i.bounds item.bounds)))
boxes_in (a_fork bounds first second) n rest laid nested =
    let same : n ≡ Fork bounds (length (flat first)) = cc in
    rw same nested.0

-- ---- the hit with an item's primitive
behind_tests : (last k h : Hit) (test : Bool) → is_nearer last k ≡ test → behind last (Some k) ≡ Some h → (k ≡ h) × (is_nearer last h ≡ true)
behind_tests last k h true t e =
    let found : Some k ≡ Some h = rw t at e in
    let same : k ≡ h = cc in
    (same, rw same at t)
behind_tests last k h false t e = let none : None ≡ Some h = rw t at e in absurd (cc)

-- what is wanted is a hit
wanted_is : (after hit : Option Hit) (h : Hit) → wanted after hit ≡ Some h → hit ≡ Some h
wanted_is None hit h e = e
wanted_is (Some last) None h e = absurd (cc)
wanted_is (Some last) (Some k) h e = ap Some (behind_tests last k h _ refl e).0

depth_order : (a b : Hit) → is_nearer a b ≡ true → a.depth ≤ b.depth
unfolding is_nearer
depth_order a b h = grind (arith, nat_tests)

-- and does not lie before the hit behind which hits are wanted
wanted_behind : (after hit : Option Hit) (last h : Hit) → after ≡ Some last → wanted after hit ≡ Some h → last.depth ≤ h.depth
wanted_behind None hit last h same e = absurd (cc)
wanted_behind (Some l) None last h same e = absurd (cc)
wanted_behind (Some l) (Some k) last h same e =
    let it : l ≡ last = cc in
    rw it at (depth_order l h (behind_tests l k h _ refl e).1)

hit_depth : (d : Option ℕ) (place : Place) (h : Hit) → option_map (λ s. record { depth = s; place = place }) d ≡ Some h → d ≡ Some h.depth
hit_depth None place h e = absurd (cc)
hit_depth (Some s) place h e = ap (λ o. option_map (λ k. k.depth) o) e

hit_with_depth : (ray : Ray) (p : Place × Shape) (h : Hit) → hit_with ray p ≡ Some h → depth ray p.1 ≡ Some h.depth
hit_with_depth ray p h e = hit_depth (depth ray p.1) p.0 h e

pub candidate_inside : (q : Query) (item : Item) (b : Box3) (h : Hit) → IsItemOf q item → IsBoxIn item.bounds b → candidate q item ≡ Some h → IsHitInside b q.ray h.depth
candidate_inside q item b h is within found =
    let hit = wanted_is q.after (hit_with_some q.ray (slice_get q.placed item.index)) h found in
    let at = hit_with_depth q.ray is.primitive h (rw is.is at hit) in
    hit_wider item.bounds b q.ray h.depth within (hit_inside item.bounds q.ray is.primitive.1 h.depth is.within is.holds at)

pub candidate_behind : (q : Query) (item : Item) (last h : Hit) → q.after ≡ Some last → candidate q item ≡ Some h → last.depth ≤ h.depth
candidate_behind q item last h after found = wanted_behind q.after (hit_with_some q.ray (slice_get q.placed item.index)) last h after found

-- ---- all hits in a tree, by its first node
inside : (q : Query) (tree : Bvh) (n : Node) (rest : List Node) → n ∷ rest ≡ flat tree → IsPart q tree → All (λ item. ForSome (candidate q item) (λ h. IsHitInside (bounds_of n) q.ray h.depth)) (leaves tree)
inside q tree n rest laid part = λ k d l h found. candidate_inside q _ (bounds_of n) h (part.items k d l) (boxes_in tree n rest laid part.nested k d l) found

no_hit : (hit best : Option Hit) → ((h : Hit) → hit ≡ Some h → ⊥) → nearer hit best ≡ best
no_hit None best never = refl
no_hit (Some h) best never = absurd (never h refl)

pub missed : (q : Query) (n : Node) (rest : List Node) (best : Option Hit) → AreBounds None (bounds_of n) q.ray → IsIdle q (n ∷ rest) best
missed q n rest best bounds = λ tree laid part.
    best_in-idle q (leaves tree) best (λ k d l. no_hit _ best (λ h found. bounds h.depth (inside q tree n rest laid part k d l h found)))

pub too_far : (q : Query) (n : Node) (rest : List Node) (h : Hit) (low high : ℕ) → AreBounds (Some (low, high)) (bounds_of n) q.ray → h.depth < low → IsIdle q (n ∷ rest) (Some h)
too_far q n rest h low high bounds far = λ tree laid part.
    beyond q (leaves tree) low h (λ k d l hit found. (bounds hit.depth (inside q tree n rest laid part k d l hit found)).least) far

pub too_near : (q : Query) (n : Node) (rest : List Node) (best : Option Hit) (last : Hit) (low high : ℕ) → q.after ≡ Some last → AreBounds (Some (low, high)) (bounds_of n) q.ray → high < last.depth →
    IsIdle q (n ∷ rest) best
too_near q n rest best last low high after bounds near = λ tree laid part.
    best_in-idle q (leaves tree) best (λ k d l. no_hit _ best (λ h found.
    let most = (bounds h.depth (inside q tree n rest laid part k d l h found)).most in
    let least = candidate_behind q (get_or (leaves tree) k d) last h after found in
    absurd (omega arith)))

pub entered : (q : Query) (n : Node) (rest : List Node) (branch : Branch) (low high : ℕ) → AreBounds (Some (low, high)) (bounds_of n) q.ray → branch.nodes.now ≡ n ∷ rest → branch.entry ≡ low →
    IsBranchFrom q (n ∷ rest) branch
entered q n rest branch low high bounds same entry = record {
  same = same;
  entry = λ tree laid part k d l h found. rw entry (bounds h.depth (inside q tree n rest laid part k d l h found)).least;
}
