-- How many leaves wait: each is searched at most once.
use Rattle.std.proofs.Common.{◌≡◌, ℕ, ◌+◌, ◌/◌, ◌≤◌, List, [], ◌∷◌, ◌++◌, Option, Some, None, length, take, drop, option_to_list, arith, ap, sym, ◌∙◌, length-append}
use Rattle.std.proofs.lemmas.List.{take-append-drop}
use Rattle.std.proofs.lemmas.List.Sorted.{length_permutation}
use Rattle.std.proofs.lemmas.List.Sums.{sum_by-append, sum_by_push}
use Rattle.std.proofs.lemmas.Slice.Zip.{AllZip-long}
use Rattle.box_tests.specs.declared.boxes.Box3.{Box3}
use Rattle.bvh_build.proofs.Growths.{length-numbered, nodes_of}
use Rattle.bvh_build.specs.Trees.{IsTreeOf, leaves, numbered}
use Rattle.bvh_build.specs.declared.trees.Item.{Item}
use Rattle.bvh_build.specs.declared.trees.Node.{Node}
use Rattle.bvh_build.specs.declared.trees.Node.TheVariants.{Leaf, Fork}
use Rattle.picture_model.specs.declared.records.Hit.{Hit}
use Rattle.ray_kernel.proofs.SearchLaws.{fork_at}
use Rattle.ray_kernel.proofs.Waits.{popped}
use Rattle.ray_kernel.specs.Searches.{IsReached, IsSearch, IsTreeFor, Query}
use Rattle.ray_kernel.specs.Shapes.{IsHolding}
use Rattle.ray_kernel.specs.Walks.{leaves_in}
use Rattle.ray_kernel.specs.declared.searches.Branch.{Branch}

abbrev half : Branch → ℕ
half b = (length b.nodes.now + 1) / 2

reached_leaves : (q : Query) (nodes : List Node) (best : Option Hit) (branch : Option Branch) → IsReached q nodes best branch → leaves_in (option_to_list branch) ≤ (length nodes + 1) / 2
reached_leaves q nodes best None idle = omega arith
reached_leaves q nodes best (Some branch) from = let same = ap length from.same in omega arith

-- ---- start
tree_leaves : (nodes : List Node) (boxes : List Box3) → IsTreeOf nodes boxes → (length nodes + 1) / 2 ≤ length boxes
tree_leaves nodes [] of = let none = ap length of in omega arith
tree_leaves nodes (b ∷ bs) of =
    let laid = ap length of.laid in
    let odd = nodes_of of.tree in
    let each = length_permutation (numbered 0 (b ∷ bs)) (leaves of.tree) of.each in
    let long = length-numbered 0 (b ∷ bs) in
    omega arith

pub leaves_start : (q : Query) (nodes : List Node) (root : Option Branch) → IsTreeFor nodes q.placed → IsReached q nodes None root → leaves_in (option_to_list root) ≤ length q.placed
leaves_start q nodes root tree from =
    let most = reached_leaves q nodes None root from in
    let few = tree_leaves nodes tree.boxes tree.tree in
    let long = AllZip-long (λ b p. IsHolding b p.1) tree.boxes q.placed tree.hold in
    omega arith

-- ---- steps
pub leaves_passed : (ws : List Branch) (x : Branch) → leaves_in ws ≤ leaves_in (ws ++ (x ∷ []))
leaves_passed ws x = let sum = sum_by_push half ws x in omega arith

pub leaves_leaf : (ws : List Branch) (x : Branch) (item : Item) (rest : List Node) → x.nodes.now ≡ Leaf item ∷ rest → leaves_in ws + 1 ≤ leaves_in (ws ++ (x ∷ []))
leaves_leaf ws x item rest is =
    let sum = sum_by_push half ws x in
    let long = ap length is in
    omega arith

-- both children together have the leaves of their fork
children_leaves : (q : Query) (ws : List Branch) (x : Branch) (best : Option Hit) (b : Box3) (n : ℕ) (rest : List Node) → IsSearch q (ws ++ (x ∷ [])) best → x.nodes.now ≡ Fork b n ∷ rest →
    (length (take n rest) + 1) / 2 + (length (drop n rest) + 1) / 2 ≤ half x
children_leaves q ws x best b n rest s is =
    let f = fork_at q ws x best b n rest (popped q ws x best s) is in
    let left = ap length f.left in
    let right = ap length f.right in
    let odd_left = nodes_of f.first in
    let odd_right = nodes_of f.second in
    let all = sym (length-append (take n rest) (drop n rest)) ∙ ap length (take-append-drop n rest) in
    let long = ap length is in
    omega arith

fork_leaves : (ws : List Branch) (x : Branch) (ps qs : List Branch) → leaves_in ps + leaves_in qs ≤ half x → leaves_in (ws ++ (ps ++ qs)) ≤ leaves_in (ws ++ (x ∷ []))
fork_leaves ws x ps qs fits =
    let all = sum_by-append half ws (ps ++ qs) in
    let new = sum_by-append half ps qs in
    let old = sum_by_push half ws x in
    omega arith

pub leaves_fork : (q : Query) (ws : List Branch) (x : Branch) (best : Option Hit) (b : Box3) (n : ℕ) (rest : List Node) (first second : Option Branch) → IsSearch q (ws ++ (x ∷ [])) best →
    x.nodes.now ≡ Fork b n ∷ rest → IsReached q (take n rest) best first → IsReached q (drop n rest) best second →
    leaves_in (ws ++ (option_to_list first ++ option_to_list second)) ≤ leaves_in (ws ++ (x ∷ []))
leaves_fork q ws x best b n rest first second s is one two =
    let fits = children_leaves q ws x best b n rest s is in
    let left = reached_leaves q (take n rest) best first one in
    let right = reached_leaves q (drop n rest) best second two in
    fork_leaves ws x (option_to_list first) (option_to_list second) (omega arith)

pub leaves_fork_far : (q : Query) (ws : List Branch) (x : Branch) (best : Option Hit) (b : Box3) (n : ℕ) (rest : List Node) (first second : Option Branch) → IsSearch q (ws ++ (x ∷ [])) best →
    x.nodes.now ≡ Fork b n ∷ rest → IsReached q (take n rest) best first → IsReached q (drop n rest) best second →
    leaves_in (ws ++ (option_to_list second ++ option_to_list first)) ≤ leaves_in (ws ++ (x ∷ []))
leaves_fork_far q ws x best b n rest first second s is one two =
    let fits = children_leaves q ws x best b n rest s is in
    let left = reached_leaves q (take n rest) best first one in
    let right = reached_leaves q (drop n rest) best second two in
    fork_leaves ws x (option_to_list second) (option_to_list first) (omega arith)
