-- A whole tree has an item for each primitive, and its best hit is the answer.
use Rattle.std.proofs.Common.{◌≡◌, ℕ, suc, ◌+◌, ◌<◌, ◌≤◌, List, [], ◌∷◌, All, Option, Some, None, length, filter_map, slice_get, arith, refl, ap, ap₂, sym, ◌∙◌}
use Rattle.std.specs.List.{AllZip, cons_option}
use Rattle.std.proofs.lemmas.List.Elements.{All-cons, All-head, All-nil, All-tail}
use Rattle.std.proofs.lemmas.List.Sorted.{All-permutation}
use Rattle.fx_math.specs.declared.scene.Place.{Place}
use Rattle.fx_math.specs.declared.scene.Shape.{Shape}
use Rattle.fx_math.specs.declared.vectors.Ray.{Ray}
use Rattle.box_tests.specs.declared.boxes.Box3.{Box3}
use Rattle.bvh_build.specs.Trees.{Bvh, IsTreeOf, a_fork, a_leaf, flat, leaves, levels, numbered}
use Rattle.bvh_build.specs.declared.trees.Node.{Node}
use Rattle.picture_model.proofs.HitOrder.{filter-filter_map}
use Rattle.picture_model.specs.Hits.{hit_after, hit_with, nearest, nearest_of}
use Rattle.picture_model.specs.Limits.{IsShapeWithin}
use Rattle.picture_model.specs.declared.records.Hit.{Hit}
use Rattle.ray_kernel.proofs.Nearers.{best_in-permutation}
use Rattle.ray_kernel.specs.Searches.{IsItemOf, IsPart, IsTreeFor, Query, answer, answer_of, best_in, candidate, hit_with_some, wanted}
use Rattle.ray_kernel.specs.Shapes.{IsHolding}

pub some_nodes : (tree : Bvh) → 0 < length (flat tree)
some_nodes (a_leaf item) = omega arith
some_nodes (a_fork bounds first second) = omega arith

-- the answer, primitive by primitive
answer_wanted : (ray : Ray) (placed : List (Place × Shape)) (after : Option Hit) → answer_of ray placed after ≡ nearest_of (filter_map (λ p. wanted after (hit_with ray p)) placed)
unfolding nearest hit_after
answer_wanted ray placed None = refl
answer_wanted ray placed (Some last) = ap nearest_of (filter-filter_map (hit_with ray) last placed)

-- the numbered boxes have the hits of the primitives from `first` on
numbered_hits : (q : Query) (first : ℕ) (boxes : List Box3) (placed : List (Place × Shape)) → AllZip (λ b p. IsHolding b p.1) boxes placed →
    ((k h : ℕ) → h ≡ first + k → slice_get q.placed h ≡ slice_get placed k) →
    filter_map (candidate q) (numbered first boxes) ≡ filter_map (λ p. wanted q.after (hit_with q.ray p)) placed
numbered_hits q first [] [] hold at = refl
numbered_hits q first [] (p ∷ ps) hold at = absurd hold
numbered_hits q first (b ∷ bs) [] hold at = absurd hold
numbered_hits q first (b ∷ bs) (p ∷ ps) hold at =
    let here : slice_get q.placed first ≡ Some p = at 0 first (omega arith) in
    ap₂ cons_option (ap (λ o. wanted q.after (hit_with_some q.ray o)) here) (numbered_hits q (suc first) bs ps hold.1 (λ k h e. at (suc k) h (omega arith)))

numbered_items : (q : Query) (first : ℕ) (boxes : List Box3) (placed : List (Place × Shape)) → AllZip (λ b p. IsHolding b p.1) boxes placed → All (λ p. IsShapeWithin p.1) placed →
    ((k h : ℕ) → h ≡ first + k → slice_get q.placed h ≡ slice_get placed k) → All (IsItemOf q) (numbered first boxes)
numbered_items q first [] placed hold within at = All-nil (IsItemOf q)
numbered_items q first (b ∷ bs) [] hold within at = absurd hold
numbered_items q first (b ∷ bs) (p ∷ ps) hold within at =
    All-cons (IsItemOf q) (record { bounds = b; index = first }) (numbered (suc first) bs)
    (record { primitive = p; is = at 0 first (omega arith); within = All-head (λ p. IsShapeWithin p.1) p ps within; holds = hold.0 })
    (numbered_items q (suc first) bs ps hold.1 (All-tail (λ p. IsShapeWithin p.1) p ps within) (λ k h e. at (suc k) h (omega arith)))

from_zero : (placed : List (Place × Shape)) (k h : ℕ) → h ≡ 0 + k → slice_get placed h ≡ slice_get placed k
from_zero placed k h e = let same : h ≡ k = omega arith in ap (slice_get placed) same

numbered_best : (q : Query) (boxes : List Box3) → AllZip (λ b p. IsHolding b p.1) boxes q.placed → best_in q (numbered 0 boxes) ≡ answer q
numbered_best q boxes hold = ap nearest_of (numbered_hits q 0 boxes q.placed hold (from_zero q.placed)) ∙ sym (answer_wanted q.ray q.placed q.after)

-- a tree over all primitives
pub record IsWhole (q : Query) (nodes : List Node) : Type 0 where
  pub tree : Bvh
  pub laid : nodes ≡ flat tree
  pub part : IsPart q tree
  pub low : levels tree ≤ 21
  pub finds : best_in q (leaves tree) ≡ answer q

whole_of : (q : Query) (nodes : List Node) (boxes : List Box3) → IsTreeOf nodes boxes → AllZip (λ b p. IsHolding b p.1) boxes q.placed → All (λ p. IsShapeWithin p.1) q.placed → 0 < length nodes → IsWhole q nodes
whole_of q nodes [] of hold within some = let none : length nodes ≡ 0 = ap length of in absurd (omega arith)
whole_of q nodes (b ∷ bs) of hold within some = record {
  tree = of.tree;
  laid = of.laid;
  part = record { items = All-permutation (IsItemOf q) (numbered 0 (b ∷ bs)) (leaves of.tree) of.each (numbered_items q 0 (b ∷ bs) q.placed hold within (from_zero q.placed)); nested = of.nested };
  low = of.low;
  finds = sym (best_in-permutation q (numbered 0 (b ∷ bs)) (leaves of.tree) of.each) ∙ numbered_best q (b ∷ bs) hold;
}

pub whole : (q : Query) (nodes : List Node) → IsTreeFor nodes q.placed → All (λ p. IsShapeWithin p.1) q.placed → 0 < length nodes → IsWhole q nodes
whole q nodes tree within some = whole_of q nodes tree.boxes tree.tree tree.hold within some

none_of : (q : Query) (boxes : List Box3) → IsTreeOf [] boxes → AllZip (λ b p. IsHolding b p.1) boxes q.placed → None ≡ answer q
none_of q [] of hold = numbered_best q [] hold
none_of q (b ∷ bs) of hold = let some = some_nodes of.tree in let none : 0 ≡ length (flat of.tree) = ap length of.laid in absurd (omega arith)

-- without nodes there is no hit
pub none_at_all : (q : Query) → IsTreeFor [] q.placed → None ≡ answer q
none_at_all q tree = none_of q tree.boxes tree.tree tree.hold
