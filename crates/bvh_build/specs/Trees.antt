-- A tree of boxes, which lies flat in the order of a walk through it.
use Rattle.std.specs.Prelude.{ℕ, suc, ⊤, ◌≡◌, ◌≤◌, max, List, [], ◌∷◌, ◌++◌, All, length}
use Rattle.std.specs.List.Sorted.{IsPermutation}
use Rattle.box_tests.specs.declared.boxes.Box3.{Box3}
use Rattle.box_tests.specs.Boxes.{IsBoxIn}
use Rattle.bvh_build.specs.declared.trees.Item.{Item}
use Rattle.bvh_build.specs.declared.trees.Node.{Node}
use Rattle.bvh_build.specs.declared.trees.Node.TheVariants.{Leaf, Fork}

-- a leaf, or a box with two trees
pub data Bvh : Type 0 where
  a_leaf : Item → Bvh
  a_fork : Box3 → Bvh → Bvh → Bvh

-- its nodes: a fork, how many nodes its first child has, and those of both children
abbrev pub flat : Bvh → List Node
flat (a_leaf item) = Leaf item ∷ []
flat (a_fork bounds first second) = Fork bounds (length (flat first)) ∷ (flat first ++ flat second)

-- the items of its leaves
abbrev pub leaves : Bvh → List Item
leaves (a_leaf item) = item ∷ []
leaves (a_fork bounds first second) = leaves first ++ leaves second

-- how many nodes stand above one another
abbrev pub levels : Bvh → ℕ
levels (a_leaf item) = 1
levels (a_fork bounds first second) = suc (max (levels first) (levels second))

-- each leaf's box lies in the boxes of all forks above it
abbrev pub IsNested : Bvh → Type 0
IsNested (a_leaf item) = ⊤
IsNested (a_fork bounds first second) = All (λ item. IsBoxIn item.bounds bounds) (leaves first ++ leaves second) × IsNested first × IsNested second

-- the nodes of a tree that has each item in one leaf
pub record IsTreeOver (items : List Item) (nodes : List Node) (most : ℕ) : Type 0 where
  pub tree : Bvh
  pub laid : nodes ≡ flat tree
  pub each : IsPermutation items (leaves tree)
  pub nested : IsNested tree
  pub low : levels tree ≤ most

-- the nodes of such a tree were added
pub record IsGrowth (items : List Item) (before after : List Node) (most : ℕ) : Type 0 where
  pub added : List Node
  pub is : after ≡ before ++ added
  pub grown : IsTreeOver items added most

-- boxes with their numbers, from `first` on
abbrev pub numbered : ℕ → List Box3 → List Item
numbered first [] = []
numbered first (b ∷ bs) = record { bounds = b; index = first } ∷ numbered (suc first) bs

-- the tree of these boxes
abbrev pub IsTreeOf : List Node → List Box3 → Type 0
IsTreeOf nodes [] = nodes ≡ []
IsTreeOf nodes (b ∷ bs) = IsTreeOver (numbered 0 (b ∷ bs)) nodes 21
