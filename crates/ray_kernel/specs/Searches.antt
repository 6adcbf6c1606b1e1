-- A search through a tree of boxes for the nearest hit behind a given one, if one is given.
use Rattle.std.specs.Prelude.{Option, Some, None, ℕ, zero, suc, ⊤, ◌≡◌, ◌≤◌, List, [], ◌∷◌, ◌++◌, All, slice_get}
use Rattle.std.specs.List.{AllZip, filter_map}
use Rattle.std.specs.Option.{ForSome}
use Rattle.fx_math.specs.declared.vectors.Ray.{Ray}
use Rattle.fx_math.specs.declared.scene.Place.{Place}
use Rattle.fx_math.specs.declared.scene.Shape.{Shape}
use Rattle.box_tests.specs.declared.boxes.Box3.{Box3}
use Rattle.bvh_build.specs.Trees.{Bvh, IsNested, IsTreeOf, flat, leaves, levels}
use Rattle.bvh_build.specs.declared.trees.Item.{Item}
use Rattle.bvh_build.specs.declared.trees.Node.{Node}
use Rattle.bvh_build.specs.declared.trees.Node.TheVariants.{Leaf, Fork}
use Rattle.picture_model.specs.declared.records.Hit.{Hit}
use Rattle.picture_model.specs.Limits.{IsShapeWithin}
use Rattle.picture_model.specs.Hits.{behind, hit_after, hit_with, nearer, nearest, nearest_of}
use Rattle.ray_kernel.specs.Shapes.{IsHolding}
use Rattle.ray_kernel.specs.declared.searches.Branch.{Branch}

-- the nodes of a tree of boxes, one for each primitive, each of which holds the shape of its primitive
pub record IsTreeFor (nodes : List Node) (placed : List (Place × Shape)) : Type 0 where
  pub boxes : List Box3
  pub tree : IsTreeOf nodes boxes
  pub hold : AllZip (λ b p. IsHolding b p.1) boxes placed

-- what is asked: the nearest hit of the ray with the primitives, or the nearest of those behind a given one
pub record Query : Type 0 where
  pub ray : Ray
  pub placed : List (Place × Shape)
  pub after : Option Hit

-- its answer
abbrev pub answer_of : Ray → List (Place × Shape) → Option Hit → Option Hit
answer_of ray placed None = nearest ray placed
answer_of ray placed (Some last) = hit_after ray placed last

abbrev pub answer : Query → Option Hit
answer q = answer_of q.ray q.placed q.after

-- a hit, where it is behind the given one, if one is given
abbrev pub wanted : Option Hit → Option Hit → Option Hit
wanted None hit = hit
wanted (Some last) hit = behind last hit

-- the hit with a primitive, if there is such a primitive
abbrev pub hit_with_some : Ray → Option (Place × Shape) → Option Hit
hit_with_some ray None = None
hit_with_some ray (Some p) = hit_with ray p

-- the hit with the primitive of an item, where it is wanted
abbrev pub candidate : Query → Item → Option Hit
candidate q item = wanted q.after (hit_with_some q.ray (slice_get q.placed item.index))

-- the nearest hit that is wanted with the primitives of these items
abbrev pub best_in : Query → List Item → Option Hit
best_in q items = nearest_of (filter_map (candidate q) items)

-- the item's box holds the shape of its primitive, which keeps to its limits
pub record IsItemOf (q : Query) (item : Item) : Type 0 where
  pub primitive : Place × Shape
  pub is : slice_get q.placed item.index ≡ Some primitive
  pub within : IsShapeWithin primitive.1
  pub holds : IsHolding item.bounds primitive.1

-- a tree, or a part of one, over primitives of the query
pub record IsPart (q : Query) (tree : Bvh) : Type 0 where
  pub items : All (IsItemOf q) (leaves tree)
  pub nested : IsNested tree

-- no hit that is wanted with the primitives of these items has a depth below `entry`
abbrev pub IsEntry : Query → List Item → ℕ → Type 0
IsEntry q items entry = All (λ item. ForSome (candidate q item) (λ h. entry ≤ h.depth)) items

-- a branch that waits is a part of the tree, with a depth at which a ray may enter it
pub record IsBranch (q : Query) (branch : Branch) (tree : Bvh) : Type 0 where
  pub laid : branch.nodes.now ≡ flat tree
  pub part : IsPart q tree
  pub entry : IsEntry q (leaves tree) branch.entry

-- the items of all these trees
abbrev pub all_leaves : List Bvh → List Item
all_leaves [] = []
all_leaves (t ∷ ts) = leaves t ++ all_leaves ts

-- the first has at most so many levels, the next one less, and so on
abbrev pub AreLow : ℕ → List Bvh → Type 0
AreLow most [] = ⊤
AreLow zero (t ∷ ts) = ⊥
AreLow (suc most) (t ∷ ts) = (levels t ≤ suc most) × AreLow most ts

-- a search on its way: the best hit so far, or one in the branches that wait, is the answer
pub record IsSearch (q : Query) (waiting : List Branch) (best : Option Hit) : Type 0 where
  pub trees : List Bvh
  pub each : AllZip (IsBranch q) waiting trees
  pub low : AreLow 21 trees
  pub finds : nearer best (best_in q (all_leaves trees)) ≡ answer q

-- the box of a node
abbrev pub bounds_of : Node → Box3
bounds_of (Leaf item) = item.bounds
bounds_of (Fork bounds n) = bounds

-- nothing that is wanted in these nodes is nearer than the best hit
abbrev pub IsIdle : Query → List Node → Option Hit → Type 0
IsIdle q nodes best = (tree : Bvh) → nodes ≡ flat tree → IsPart q tree → nearer best (best_in q (leaves tree)) ≡ best

-- a branch of these nodes, to be entered at a depth that no wanted hit in it is below
pub record IsBranchFrom (q : Query) (nodes : List Node) (branch : Branch) : Type 0 where
  pub same : branch.nodes.now ≡ nodes
  pub entry : (tree : Bvh) → nodes ≡ flat tree → IsPart q tree → IsEntry q (leaves tree) branch.entry

-- what is found of these nodes: a branch, or that they need no search
abbrev pub IsReached : Query → List Node → Option Hit → Option Branch → Type 0
IsReached q nodes best None = IsIdle q nodes best
IsReached q nodes best (Some branch) = IsBranchFrom q nodes branch
