-- One step of a search, as the code takes it: the last branch that waits was taken out.
use Rattle.std.proofs.Common.{◌≡◌, ◌<◌, ◌≤◌, ◌+◌, ◌-◌, ◌^◌, ◌⊎◌, inl, inr, min, IsSome, true, false, ℕ, List, [], ◌∷◌, ◌++◌, Option, Some, None, length, take, drop, get_or, if◌then◌else◌, arith, ap}
use Rattle.std.proofs.Math.Seq.{take-length}
use Rattle.std.proofs.lemmas.List.{length-append}
use Rattle.std.proofs.lemmas.List.Sums.{sum_by_push}
use Rattle.std.specs.Option.{option_to_list}
use Rattle.box_tests.specs.declared.boxes.Box3.{Box3}
use Rattle.bvh_build.specs.declared.trees.Node.{Node}
use Rattle.bvh_build.specs.declared.trees.Node.TheVariants.{Fork}
use Rattle.picture_model.specs.declared.records.Hit.{Hit}
use Rattle.ray_kernel.specs.Searches.{IsReached, IsSearch, IsTreeFor, Query, answer}
use Rattle.ray_kernel.specs.Walks.{is_beyond, is_first, leaves_in, nodes_in, pushed}
use Rattle.ray_kernel.specs.declared.searches.Branch.{Branch}
use Rattle.ray_kernel.proofs.Leaves.{leaves_fork, leaves_fork_far}
use Rattle.ray_kernel.proofs.Reaches.{test_is}
use Rattle.ray_kernel.proofs.SearchLaws.{fewer, fewer_fork, fewer_fork_far, fork_searched, fork_searched_far, passed, ends, room, starts_empty}

pub starts_none : (q : Query) (nodes : List Node) → length nodes ≡ 0 → IsTreeFor nodes q.placed → IsSearch q [] None
starts_none q [] h tree = starts_empty q tree
starts_none q (n ∷ rest) h tree = absurd (omega arith)

pub ends_none : (q : Query) (ws : List Branch) (best : Option Hit) → (0 < length ws → false ≡ true) → IsSearch q ws best → best ≡ answer q
ends_none q [] best none s = ends q best s
ends_none q (x ∷ ws) best none s = absurd (cc (none (omega arith)))

-- the branch that was taken out has nodes
pub some_nodes : (q : Query) (ws : List Branch) (x : Branch) (best : Option Hit) → IsSearch q (ws ++ (x ∷ [])) best → 0 < length x.nodes.now
some_nodes q ws x best s =
    let less = fewer q ws x best s in
    let sum = sum_by_push (λ (b : Branch). length b.nodes.now) ws x in
    omega arith

pub few_wait : (q : Query) (ws : List Branch) (x : Branch) (best : Option Hit) → IsSearch q (ws ++ (x ∷ [])) best → length ws ≤ 62
few_wait q ws x best s =
    let most = room q (ws ++ (x ∷ [])) best s in
    let both = length-append ws (x ∷ []) in
    omega arith

pub passed_over : (q : Query) (ws : List Branch) (x : Branch) (best : Option Hit) → IsSearch q (ws ++ (x ∷ [])) best → is_beyond x.entry best ≡ true → IsSearch q ws best
passed_over q ws x None s far = absurd cc
passed_over q ws x (Some h) s far = passed q ws x h s (test_is h.depth x.entry far)

-- a list by its first element
pub first_is : (nodes : List Node) (d n : Node) → 0 < length nodes → get_or nodes 0 d ≡ n → nodes ≡ n ∷ drop 1 nodes
first_is [] d n some is = absurd (omega arith)
first_is (m ∷ rest) d n some is = ap (λ x. x ∷ rest) is

pub rest_is : (nodes : List Node) → 0 < length nodes → take (length nodes - 1) (drop 1 nodes) ≡ drop 1 nodes
rest_is [] some = absurd (omega arith)
rest_is (m ∷ rest) some = let e : length (m ∷ rest) - 1 ≡ length rest = omega arith in rw e (take-length rest)

pub fork_pushed : (q : Query) (ws : List Branch) (x : Branch) (best : Option Hit) (b : Box3) (n : ℕ) (rest : List Node) (first second : Option Branch) → IsSearch q (ws ++ (x ∷ [])) best →
    x.nodes.now ≡ Fork b n ∷ rest → IsReached q (take n rest) best first → IsReached q (drop n rest) best second → IsSearch q (pushed ws first second) best
fork_pushed q ws x best b n rest first second s is one two =
    elim (is_first first second) as (λ near. IsSearch q (if near then ws ++ (option_to_list second ++ option_to_list first) else ws ++ (option_to_list first ++ option_to_list second)) best) [
      | true ↦ fork_searched_far q ws x best b n rest first second s is one two
      | false ↦ fork_searched q ws x best b n rest first second s is one two
    ]

pub fewer_pushed : (q : Query) (ws : List Branch) (x : Branch) (best : Option Hit) (b : Box3) (n : ℕ) (rest : List Node) (first second : Option Branch) →
    x.nodes.now ≡ Fork b n ∷ rest → IsReached q (take n rest) best first → IsReached q (drop n rest) best second → nodes_in (pushed ws first second) < nodes_in (ws ++ (x ∷ []))
fewer_pushed q ws x best b n rest first second is one two =
    elim (is_first first second) as (λ near. nodes_in (if near then ws ++ (option_to_list second ++ option_to_list first) else ws ++ (option_to_list first ++ option_to_list second)) < nodes_in (ws ++ (x ∷ []))) [
      | true ↦ fewer_fork_far q ws x best b n rest first second is one two
      | false ↦ fewer_fork q ws x best b n rest first second is one two
    ]

pub leaves_pushed : (q : Query) (ws : List Branch) (x : Branch) (best : Option Hit) (b : Box3) (n : ℕ) (rest : List Node) (first second : Option Branch) → IsSearch q (ws ++ (x ∷ [])) best →
    x.nodes.now ≡ Fork b n ∷ rest → IsReached q (take n rest) best first → IsReached q (drop n rest) best second → leaves_in (pushed ws first second) ≤ leaves_in (ws ++ (x ∷ []))
leaves_pushed q ws x best b n rest first second s is one two =
    elim (is_first first second) as (λ near. leaves_in (if near then ws ++ (option_to_list second ++ option_to_list first) else ws ++ (option_to_list first ++ option_to_list second)) ≤ leaves_in (ws ++ (x ∷ []))) [
      | true ↦ leaves_fork_far q ws x best b n rest first second s is one two
      | false ↦ leaves_fork q ws x best b n rest first second s is one two
    ]

-- a hit was tested at least once
pub counted_next : (best new : Option Hit) (first before after : ℕ) → first ≤ before → before ≤ after → (IsSome best → min (first + 1) (2 ^ 64 - 1) ≤ before) →
    (new ≡ best) ⊎ (min (before + 1) (2 ^ 64 - 1) ≤ after) → IsSome new → min (first + 1) (2 ^ 64 - 1) ≤ after
counted_next best new first before after from to had (inl same) some = let most = had (rw same at some) in omega arith
counted_next best new first before after from to had (inr more) some = omega arith
