-- A search through a tree from its start, step by step, to its end.
use Rattle.std.proofs.Common.{◌≡◌, ℕ, suc, ◌+◌, ◌<◌, ◌≤◌, max, List, [], ◌∷◌, ◌++◌, All, Option, Some, None, length, take, drop, option_to_list, sum_by, arith, refl, ap, sym, ◌∙◌, append_assoc, append-nil, length-append, length-drop, take-append-drop}
use Rattle.std.specs.List.{AllZip}
use Rattle.std.proofs.Math.Seq.{drop-append_seam, take-append_seam}
use Rattle.std.proofs.lemmas.List.Elements.{All-drop, All-head, All-same, All-take}
use Rattle.std.proofs.lemmas.List.Sums.{sum_by-append, sum_by_push}
use Rattle.std.proofs.lemmas.Slice.Zip.{AllZip-long}
use Rattle.box_tests.specs.declared.boxes.Box3.{Box3}
use Rattle.bvh_build.specs.Trees.{Bvh, a_fork, a_leaf, flat, leaves, levels}
use Rattle.bvh_build.specs.declared.trees.Item.{Item}
use Rattle.bvh_build.specs.declared.trees.Node.{Node}
use Rattle.bvh_build.specs.declared.trees.Node.TheVariants.{Leaf, Fork}
use Rattle.picture_model.proofs.HitOrder.{nearer-none, nearest_of-cons_option}
use Rattle.picture_model.specs.Hits.{nearer}
use Rattle.picture_model.specs.Limits.{IsShapeWithin}
use Rattle.picture_model.specs.declared.records.Hit.{Hit}
use Rattle.ray_kernel.proofs.Nearers.{beyond}
use Rattle.ray_kernel.proofs.Starts.{none_at_all, some_nodes, whole}
use Rattle.ray_kernel.proofs.Waits.{IsOpen, IsPopped, exchanged, low_few, popped, reached, settled, some_levels}
use Rattle.ray_kernel.specs.Searches.{IsBranch, IsItemOf, IsPart, IsReached, IsSearch, IsTreeFor, Query, all_leaves, answer, best_in, candidate}
use Rattle.ray_kernel.specs.declared.searches.Branch.{Branch}

-- ---- start and end
-- a search of a tree with nodes begins with what is reached of all of them
pub starts : (q : Query) (nodes : List Node) (root : Option Branch) → IsTreeFor nodes q.placed → All (λ p. IsShapeWithin p.1) q.placed → IsReached q nodes None root → 0 < length nodes →
    IsSearch q (option_to_list root) None
starts q nodes None of within idle some =
    let w = whole q nodes of within some in
    record { trees = []; each = tt; low = tt; finds = sym (idle w.tree w.laid w.part) ∙ w.finds }
starts q nodes (Some root) of within from some =
    let w = whole q nodes of within some in
    record {
      trees = w.tree ∷ [];
      each = (record { laid = from.same ∙ w.laid; part = w.part; entry = from.entry w.tree w.laid w.part }, tt);
      low = (w.low, tt);
      finds = ap (best_in q) (append-nil (leaves w.tree)) ∙ w.finds;
    }

pub starts_empty : (q : Query) → IsTreeFor [] q.placed → IsSearch q [] None
starts_empty q of = record { trees = []; each = tt; low = tt; finds = none_at_all q of }

ended : (q : Query) (best : Option Hit) (trees : List Bvh) → AllZip (IsBranch q) [] trees → nearer best (best_in q (all_leaves trees)) ≡ answer q → best ≡ answer q
ended q best [] each finds = sym (nearer-none best) ∙ finds
ended q best (t ∷ trees) each finds = absurd each

pub ends : (q : Query) (best : Option Hit) → IsSearch q [] best → best ≡ answer q
ends q best s = ended q best s.trees s.each s.finds

-- ---- steps: the last branch that waits is taken out
-- it is entered behind the best hit
pub passed : (q : Query) (ws : List Branch) (x : Branch) (h : Hit) → IsSearch q (ws ++ (x ∷ [])) (Some h) → h.depth < x.entry → IsSearch q ws (Some h)
passed q ws x h s far =
    let p = popped q ws x (Some h) s in
    settled q ws (Some h) (Some h) (leaves p.tree) (levels p.tree) (beyond q (leaves p.tree) x.entry h p.branch.entry far) p.left

-- a leaf
leaves_of : (tree : Bvh) (item : Item) (rest : List Node) → Leaf item ∷ rest ≡ flat tree → leaves tree ≡ item ∷ []
leaves_of (a_leaf i) item rest laid = let same : i ≡ item = cc in ap (λ k. k ∷ []) same
leaves_of (a_fork bounds first second) item rest laid = absurd (cc)

pub leaf_is : (q : Query) (ws : List Branch) (x : Branch) (best : Option Hit) (item : Item) (rest : List Node) → IsSearch q (ws ++ (x ∷ [])) best → x.nodes.now ≡ Leaf item ∷ rest → IsItemOf q item
leaf_is q ws x best item rest s first =
    let p = popped q ws x best s in
    let one = leaves_of p.tree item rest (sym first ∙ p.branch.laid) in
    All-head (IsItemOf q) item [] (All-same (IsItemOf q) (item ∷ []) (leaves p.tree) (sym one) p.branch.part.items)

best_in_one : (q : Query) (item : Item) → best_in q (item ∷ []) ≡ candidate q item
best_in_one q item = nearest_of-cons_option (candidate q item) [] ∙ nearer-none (candidate q item)

pub leaf_searched : (q : Query) (ws : List Branch) (x : Branch) (best : Option Hit) (item : Item) (rest : List Node) → IsSearch q (ws ++ (x ∷ [])) best → x.nodes.now ≡ Leaf item ∷ rest →
    IsSearch q ws (nearer best (candidate q item))
leaf_searched q ws x best item rest s first =
    let p = popped q ws x best s in
    let one = leaves_of p.tree item rest (sym first ∙ p.branch.laid) in
    settled q ws best (nearer best (candidate q item)) (leaves p.tree) (levels p.tree) (ap (nearer best) (ap (best_in q) one ∙ best_in_one q item)) p.left

-- a fork's children
pub record IsFork (q : Query) (tree : Bvh) (n : ℕ) (rest : List Node) : Type 0 where
  pub first : Bvh
  pub second : Bvh
  pub left : take n rest ≡ flat first
  pub right : drop n rest ≡ flat second
  pub items : leaves tree ≡ leaves first ++ leaves second
  pub high : levels tree ≡ suc (max (levels first) (levels second))
  pub one : IsPart q first
  pub two : IsPart q second

halves : {X : Type 0} (P : X → Type 0) (xs ys : List X) → All P (xs ++ ys) → All P xs × All P ys
halves P xs ys all = (
  All-same P xs (take (length xs) (xs ++ ys)) (sym (take-append_seam xs ys)) (All-take P (length xs) (xs ++ ys) all),
  All-same P ys (drop (length xs) (xs ++ ys)) (sym (drop-append_seam xs ys)) (All-drop P (length xs) (xs ++ ys) all),
)

fork_of : (q : Query) (tree : Bvh) (b : Box3) (n : ℕ) (rest : List Node) → Fork b n ∷ rest ≡ flat tree → IsPart q tree → IsFork q tree n rest
fork_of q (a_leaf item) b n rest laid part = absurd (cc)
fork_of q (a_fork bounds first second) b n rest laid part =
    let count : n ≡ length (flat first) = cc in
    let nodes : rest ≡ flat first ++ flat second = cc in
    let items = halves (IsItemOf q) (leaves first) (leaves second) part.items in
    record {
      first = first;
      second = second;
      left = rw (nodes, count) (take-append_seam (flat first) (flat second));
      right = rw (nodes, count) (drop-append_seam (flat first) (flat second));
      items = refl;
      high = refl;
      one = record { items = items.0; nested = part.nested.1 };
      two = record { items = items.1; nested = part.nested.2 };
    }

pub fork_at : (q : Query) (ws : List Branch) (x : Branch) (best : Option Hit) (b : Box3) (n : ℕ) (rest : List Node) (p : IsPopped q ws x best) → x.nodes.now ≡ Fork b n ∷ rest → IsFork q p.tree n rest
fork_at q ws x best b n rest p first = fork_of q p.tree b n rest (sym first ∙ p.branch.laid) p.branch.part

-- both have nodes
pub record IsSplit (n : ℕ) (rest : List Node) : Type 0 where
  pub fits : n ≤ length rest
  pub first : 0 < length (take n rest)
  pub second : 0 < length (drop n rest)

pub fork_is : (q : Query) (ws : List Branch) (x : Branch) (best : Option Hit) (b : Box3) (n : ℕ) (rest : List Node) → IsSearch q (ws ++ (x ∷ [])) best → x.nodes.now ≡ Fork b n ∷ rest → IsSplit n rest
fork_is q ws x best b n rest s first =
    let f = fork_at q ws x best b n rest (popped q ws x best s) first in
    let some_first : 0 < length (take n rest) = rw f.left (some_nodes f.first) in
    let some_second : 0 < length (drop n rest) = rw f.right (some_nodes f.second) in
    let left = length-drop n rest in
    record { fits = omega arith; first = some_first; second = some_second }

-- both are reached, one after the other
both : (q : Query) (ws : List Branch) (best : Option Hit) (s t : Bvh) (left right : List Node) (one two : Option Branch) (most : ℕ) →
    IsOpen q ws best (leaves s ++ leaves t) most → max (levels s) (levels t) < most → left ≡ flat s → right ≡ flat t → IsPart q s → IsPart q t →
    IsReached q left best one → IsReached q right best two → IsSearch q (ws ++ (option_to_list one ++ option_to_list two)) best
both q ws best s t left right one two most o low laid_s laid_t part_s part_t from_s from_t =
    let some = some_levels s in
    let next = reached q ws best s (leaves t) most (max (levels s) (levels t)) left one o (omega arith) low laid_s part_s from_s in
    let last = reached q (ws ++ option_to_list one) best t [] (max (levels s) (levels t)) 0 right two (rw (append-nil (leaves t)) next) (omega arith) (omega arith) laid_t part_t from_t in
    rw (← append_assoc ws (option_to_list one) (option_to_list two)) (settled q ((ws ++ option_to_list one) ++ option_to_list two) best best [] 0 (nearer-none best) last)

pub fork_searched : (q : Query) (ws : List Branch) (x : Branch) (best : Option Hit) (b : Box3) (n : ℕ) (rest : List Node) (first second : Option Branch) → IsSearch q (ws ++ (x ∷ [])) best →
    x.nodes.now ≡ Fork b n ∷ rest → IsReached q (take n rest) best first → IsReached q (drop n rest) best second →
    IsSearch q (ws ++ (option_to_list first ++ option_to_list second)) best
fork_searched q ws x best b n rest first second s is one two =
    let p = popped q ws x best s in
    let f = fork_at q ws x best b n rest p is in
    let high = f.high in
    both q ws best f.first f.second (take n rest) (drop n rest) first second (levels p.tree) (rw f.items at p.left) (omega arith) f.left f.right f.one f.two one two

pub fork_searched_far : (q : Query) (ws : List Branch) (x : Branch) (best : Option Hit) (b : Box3) (n : ℕ) (rest : List Node) (first second : Option Branch) → IsSearch q (ws ++ (x ∷ [])) best →
    x.nodes.now ≡ Fork b n ∷ rest → IsReached q (take n rest) best first → IsReached q (drop n rest) best second →
    IsSearch q (ws ++ (option_to_list second ++ option_to_list first)) best
fork_searched_far q ws x best b n rest first second s is one two =
    let p = popped q ws x best s in
    let f = fork_at q ws x best b n rest p is in
    let high = f.high in
    both q ws best f.second f.first (drop n rest) (take n rest) second first (levels p.tree) (exchanged q ws best (leaves f.first) (leaves f.second) (levels p.tree) (rw f.items at p.left)) (omega arith) f.right f.left f.two f.one two one

-- ---- sizes
pub room : (q : Query) (ws : List Branch) (best : Option Hit) → IsSearch q ws best → length ws ≤ 21
room q ws best s =
    let long = AllZip-long (IsBranch q) ws s.trees s.each in
    let few = low_few 21 s.trees s.low in
    omega arith

-- without the last branch, fewer nodes wait
pub fewer : (q : Query) (ws : List Branch) (x : Branch) (best : Option Hit) → IsSearch q (ws ++ (x ∷ [])) best → sum_by (λ b. length b.nodes.now) ws < sum_by (λ b. length b.nodes.now) (ws ++ (x ∷ []))
fewer q ws x best s =
    let p = popped q ws x best s in
    let some : 0 < length x.nodes.now = rw p.branch.laid (some_nodes p.tree) in
    let sum = sum_by_push (λ b. length b.nodes.now) ws x in
    omega arith

reached_size : (q : Query) (nodes : List Node) (best : Option Hit) (branch : Option Branch) → IsReached q nodes best branch → sum_by (λ b. length b.nodes.now) (option_to_list branch) ≤ length nodes
reached_size q nodes best None idle = omega arith
reached_size q nodes best (Some branch) from = let same = ap length from.same in omega arith

-- what is reached of two parts of some nodes has no more nodes than they are
children_fit : (q : Query) (best : Option Hit) (n : ℕ) (rest : List Node) (first second : Option Branch) → IsReached q (take n rest) best first → IsReached q (drop n rest) best second →
    sum_by (λ b. length b.nodes.now) (option_to_list first) + sum_by (λ b. length b.nodes.now) (option_to_list second) ≤ length rest
children_fit q best n rest first second one two =
    let size_one = reached_size q (take n rest) best first one in
    let size_two = reached_size q (drop n rest) best second two in
    let all = sym (length-append (take n rest) (drop n rest)) ∙ ap length (take-append-drop n rest) in
    omega arith

fewer_by : (ws : List Branch) (x : Branch) (b : Box3) (n : ℕ) (rest : List Node) (ps qs : List Branch) → x.nodes.now ≡ Fork b n ∷ rest →
    sum_by (λ b. length b.nodes.now) ps + sum_by (λ b. length b.nodes.now) qs ≤ length rest →
    sum_by (λ b. length b.nodes.now) (ws ++ (ps ++ qs)) < sum_by (λ b. length b.nodes.now) (ws ++ (x ∷ []))
fewer_by ws x b n rest ps qs is fits =
    let all = sum_by-append (λ b. length b.nodes.now) ws (ps ++ qs) in
    let new = sum_by-append (λ b. length b.nodes.now) ps qs in
    let old = sum_by_push (λ b. length b.nodes.now) ws x in
    let long = ap length is in
    omega arith

-- and so with the children of a fork in its place
pub fewer_fork : (q : Query) (ws : List Branch) (x : Branch) (best : Option Hit) (b : Box3) (n : ℕ) (rest : List Node) (first second : Option Branch) →
    x.nodes.now ≡ Fork b n ∷ rest → IsReached q (take n rest) best first → IsReached q (drop n rest) best second →
    sum_by (λ b. length b.nodes.now) (ws ++ (option_to_list first ++ option_to_list second)) < sum_by (λ b. length b.nodes.now) (ws ++ (x ∷ []))
fewer_fork q ws x best b n rest first second is one two = fewer_by ws x b n rest (option_to_list first) (option_to_list second) is (children_fit q best n rest first second one two)

pub fewer_fork_far : (q : Query) (ws : List Branch) (x : Branch) (best : Option Hit) (b : Box3) (n : ℕ) (rest : List Node) (first second : Option Branch) →
    x.nodes.now ≡ Fork b n ∷ rest → IsReached q (take n rest) best first → IsReached q (drop n rest) best second →
    sum_by (λ b. length b.nodes.now) (ws ++ (option_to_list second ++ option_to_list first)) < sum_by (λ b. length b.nodes.now) (ws ++ (x ∷ []))
fewer_fork_far q ws x best b n rest first second is one two =
    let fits = children_fit q best n rest first second one two in
    fewer_by ws x b n rest (option_to_list second) (option_to_list first) is (omega arith)
