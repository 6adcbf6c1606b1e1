-- What a search may say of the nodes in the first box of which it has the span of the ray.
use Rattle.std.proofs.Common.{◌≡◌, ◌<◌, true, ℕ, List, [], ◌∷◌, Option, Some, None, length, get_or, nat_lt, arith, refl}
use Rattle.std.proofs.lemmas.Bool.Decides.{nat_tests}
use Rattle.fx_math.specs.declared.vectors.Ray.{Ray}
use Rattle.box_tests.specs.Boxes.{AreBounds}
use Rattle.box_tests.specs.declared.boxes.Box3.{Box3}
use Rattle.bvh_build.specs.declared.trees.Node.{Node}
use Rattle.picture_model.specs.declared.records.Hit.{Hit}
use Rattle.ray_kernel.specs.Searches.{IsBranchFrom, IsIdle, Query, bounds_of}
use Rattle.ray_kernel.specs.Walks.{is_before, is_beyond}
use Rattle.ray_kernel.specs.declared.searches.Branch.{Branch}
use Rattle.ray_kernel.proofs.Subtrees.{entered, missed, too_far, too_near}

-- the span of the query's ray in the first node's box
pub record IsSpanAt (q : Query) (nodes : List Node) (d : Node) (span : Option (ℕ × ℕ)) : Type 0 where
  pub some : 0 < length nodes
  pub bounds : AreBounds span (bounds_of (get_or nodes 0 d)) q.ray

pub span_at : (q : Query) (nodes : List Node) (d : Node) (found span : Option (ℕ × ℕ)) (box : Box3) (ray : Ray) → 0 < length nodes → box ≡ bounds_of (get_or nodes 0 d) → ray ≡ q.ray →
    AreBounds found box ray → found ≡ span → IsSpanAt q nodes d span
span_at q nodes d found span box ray some first same bounds is = record { some = some; bounds = rw (is, first, same) at bounds }

pub missed_at : (q : Query) (nodes : List Node) (d : Node) (best : Option Hit) → IsSpanAt q nodes d None → IsIdle q nodes best
missed_at q [] d best s = absurd (omega arith)
missed_at q (n ∷ rest) d best s = missed q n rest best s.bounds

pub test_is : (m n : ℕ) → nat_lt m n ≡ true → m < n
test_is m n h = grind (arith, nat_tests)

pub beyond_at : (q : Query) (nodes : List Node) (d : Node) (best : Option Hit) (low high : ℕ) → IsSpanAt q nodes d (Some (low, high)) → is_beyond low best ≡ true → IsIdle q nodes best
beyond_at q [] d best low high s far = absurd (omega arith)
beyond_at q (n ∷ rest) d None low high s far = absurd cc
beyond_at q (n ∷ rest) d (Some h) low high s far = too_far q n rest h low high s.bounds (test_is h.depth low far)

before_by : (q : Query) (n : Node) (rest : List Node) (best after : Option Hit) (low high : ℕ) → q.after ≡ after → AreBounds (Some (low, high)) (bounds_of n) q.ray → is_before high after ≡ true →
    IsIdle q (n ∷ rest) best
before_by q n rest best None low high is bounds near = absurd cc
before_by q n rest best (Some last) low high is bounds near = too_near q n rest best last low high is bounds (test_is high last.depth near)

pub before_at : (q : Query) (nodes : List Node) (d : Node) (best : Option Hit) (low high : ℕ) → IsSpanAt q nodes d (Some (low, high)) → is_before high q.after ≡ true → IsIdle q nodes best
before_at q [] d best low high s near = absurd (omega arith)
before_at q (n ∷ rest) d best low high s near = before_by q n rest best q.after low high refl s.bounds near

pub entered_at : (q : Query) (nodes : List Node) (d : Node) (branch : Branch) (low high : ℕ) → IsSpanAt q nodes d (Some (low, high)) → branch.nodes.now ≡ nodes → branch.entry ≡ low → IsBranchFrom q nodes branch
entered_at q [] d branch low high s same entry = absurd (omega arith)
entered_at q (n ∷ rest) d branch low high s same entry = entered q n rest branch low high s.bounds same entry
