-- Branches that wait, with the trees that they are of: the last one taken out, and others put behind.
use Rattle.std.proofs.Common.{◌≡◌, ℕ, zero, suc, ◌+◌, ◌<◌, ◌≤◌, List, [], ◌∷◌, ◌++◌, Option, Some, None, length, option_to_list, arith, refl, ap, sym, ◌∙◌, append_assoc, append-nil, length-append}
use Rattle.std.specs.List.{AllZip}
use Rattle.bvh_build.specs.Trees.{Bvh, a_fork, a_leaf, flat, leaves, levels}
use Rattle.bvh_build.specs.declared.trees.Item.{Item}
use Rattle.bvh_build.specs.declared.trees.Node.{Node}
use Rattle.picture_model.proofs.HitOrder.{nearer-assoc}
use Rattle.picture_model.specs.Hits.{nearer}
use Rattle.picture_model.specs.declared.records.Hit.{Hit}
use Rattle.ray_kernel.proofs.Nearers.{best_in-append, nearer-comm}
use Rattle.ray_kernel.specs.Searches.{AreLow, IsBranch, IsPart, IsReached, IsSearch, Query, all_leaves, answer, best_in}
use Rattle.ray_kernel.specs.declared.searches.Branch.{Branch}

-- ---- lists in step
-- the last of the second list belongs to the last of the first one
record IsLast {A B : Type 0} (R : A → B → Type 0) (xs : List A) (x : A) (ys : List B) : Type 0 where
  before : List B
  last : B
  is : ys ≡ before ++ (last ∷ [])
  each : AllZip R xs before
  at : R x last

zip_last : {A B : Type 0} (R : A → B → Type 0) (xs : List A) (x : A) (ys : List B) → AllZip R (xs ++ (x ∷ [])) ys → IsLast R xs x ys
zip_last R [] x [] z = absurd z
zip_last R [] x (y ∷ []) z = record { before = []; last = y; is = refl; each = tt; at = z.0 }
zip_last R [] x (y ∷ next ∷ ys) z = absurd z.1
zip_last R (w ∷ xs) x [] z = absurd z
zip_last R (w ∷ xs) x (y ∷ ys) z =
    let rest = zip_last R xs x ys z.1 in
    record { before = y ∷ rest.before; last = rest.last; is = ap (λ l. y ∷ l) rest.is; each = (z.0, rest.each); at = rest.at }

zip_push : {A B : Type 0} (R : A → B → Type 0) (xs : List A) (x : A) (ys : List B) (y : B) → AllZip R xs ys → R x y → AllZip R (xs ++ (x ∷ [])) (ys ++ (y ∷ []))
zip_push R [] x [] y z r = (r, tt)
zip_push R [] x (v ∷ ys) y z r = absurd z
zip_push R (w ∷ xs) x [] y z r = absurd z
zip_push R (w ∷ xs) x (v ∷ ys) y z r = (z.0, zip_push R xs x ys y z.1 r)

-- ---- levels
pub some_levels : (tree : Bvh) → 0 < levels tree
some_levels (a_leaf item) = omega arith
some_levels (a_fork bounds first second) = omega arith

low_last : (most : ℕ) (trees : List Bvh) (tree : Bvh) → AreLow most (trees ++ (tree ∷ [])) → AreLow most trees × (levels tree + length trees ≤ most)
low_last zero [] tree low = absurd low
low_last zero (t ∷ trees) tree low = absurd low
low_last (suc most) [] tree low = let l = low.0 in (tt, omega arith)
low_last (suc most) (t ∷ trees) tree low =
    let rest = low_last most trees tree low.1 in
    let l = rest.1 in
    ((low.0, rest.0), omega arith)

low_push : (most : ℕ) (trees : List Bvh) (tree : Bvh) → AreLow most trees → levels tree + length trees ≤ most → AreLow most (trees ++ (tree ∷ []))
low_push zero [] tree low room = let some = some_levels tree in absurd (omega arith)
low_push zero (t ∷ trees) tree low room = absurd low
low_push (suc most) [] tree low room = (omega arith, tt)
low_push (suc most) (t ∷ trees) tree low room = (low.0, low_push most trees tree low.1 (omega arith))

pub low_few : (most : ℕ) (trees : List Bvh) → AreLow most trees → length trees ≤ most
low_few most [] low = omega arith
low_few zero (t ∷ trees) low = absurd low
low_few (suc most) (t ∷ trees) low = let rest = low_few most trees low.1 in omega arith

leaves_push : (trees : List Bvh) (tree : Bvh) → all_leaves (trees ++ (tree ∷ [])) ≡ all_leaves trees ++ leaves tree
leaves_push [] tree = append-nil (leaves tree)
leaves_push (t ∷ trees) tree = ap (λ l. leaves t ++ l) (leaves_push trees tree) ∙ sym (append_assoc (leaves t) (all_leaves trees) (leaves tree))

-- ---- items that are out of the branches, and not yet searched
-- a search on its way, with room for so many branches more
pub record IsOpen (q : Query) (waiting : List Branch) (best : Option Hit) (items : List Item) (most : ℕ) : Type 0 where
  pub trees : List Bvh
  pub each : AllZip (IsBranch q) waiting trees
  pub low : AreLow 21 trees
  pub room : most + length trees ≤ 21
  pub finds : nearer (nearer best (best_in q items)) (best_in q (all_leaves trees)) ≡ answer q

-- the last branch is taken out
pub record IsPopped (q : Query) (waiting : List Branch) (x : Branch) (best : Option Hit) : Type 0 where
  pub tree : Bvh
  pub branch : IsBranch q x tree
  pub left : IsOpen q waiting best (leaves tree) (levels tree)

first_out : (q : Query) (best : Option Hit) (trees : List Bvh) (tree : Bvh) → nearer best (best_in q (all_leaves (trees ++ (tree ∷ [])))) ≡ nearer (nearer best (best_in q (leaves tree))) (best_in q (all_leaves trees))
first_out q best trees tree =
    rw (leaves_push trees tree, best_in-append q (all_leaves trees) (leaves tree), nearer-comm (best_in q (all_leaves trees)) (best_in q (leaves tree)))
    (sym (nearer-assoc best (best_in q (leaves tree)) (best_in q (all_leaves trees))))

pub popped : (q : Query) (waiting : List Branch) (x : Branch) (best : Option Hit) → IsSearch q (waiting ++ (x ∷ [])) best → IsPopped q waiting x best
popped q waiting x best s =
    let out = zip_last (IsBranch q) waiting x s.trees s.each in
    let low = low_last 21 out.before out.last (rw out.is at s.low) in
    record {
      tree = out.last;
      branch = out.at;
      left = record {
        trees = out.before;
        each = out.each;
        low = low.0;
        room = low.1;
        finds = sym (first_out q best out.before out.last) ∙ rw out.is at s.finds;
      };
    }

-- the items are searched
pub settled : (q : Query) (waiting : List Branch) (best new : Option Hit) (items : List Item) (most : ℕ) → nearer best (best_in q items) ≡ new → IsOpen q waiting best items most → IsSearch q waiting new
settled q waiting best new items most found o = record { trees = o.trees; each = o.each; low = o.low; finds = rw found at o.finds }

pub exchanged : (q : Query) (waiting : List Branch) (best : Option Hit) (xs ys : List Item) (most : ℕ) → IsOpen q waiting best (xs ++ ys) most → IsOpen q waiting best (ys ++ xs) most
exchanged q waiting best xs ys most o =
    let same : best_in q (xs ++ ys) ≡ best_in q (ys ++ xs) = best_in-append q xs ys ∙ nearer-comm (best_in q xs) (best_in q ys) ∙ sym (best_in-append q ys xs) in
    record { trees = o.trees; each = o.each; low = o.low; room = o.room; finds = rw same at o.finds }

-- ---- a part of them is reached
idle_finds : (q : Query) (best rest : Option Hit) (xs ys : List Item) → nearer best (best_in q xs) ≡ best → nearer (nearer best (best_in q (xs ++ ys))) rest ≡ nearer (nearer best (best_in q ys)) rest
idle_finds q best rest xs ys idle =
    ap (λ h. nearer h rest) (ap (nearer best) (best_in-append q xs ys) ∙ sym (nearer-assoc best (best_in q xs) (best_in q ys)) ∙ ap (λ h. nearer h (best_in q ys)) idle)

moved : (best x y z : Option Hit) → nearer (nearer best (nearer x y)) z ≡ nearer (nearer best y) (nearer z x)
moved best x y z =
    nearer-assoc best (nearer x y) z ∙ ap (nearer best) (nearer-assoc x y z ∙ nearer-comm x (nearer y z) ∙ nearer-assoc y z x) ∙ sym (nearer-assoc best y (nearer z x))

pushed_finds : (q : Query) (best : Option Hit) (trees : List Bvh) (tree : Bvh) (items : List Item) →
    nearer (nearer best (best_in q (leaves tree ++ items))) (best_in q (all_leaves trees)) ≡ nearer (nearer best (best_in q items)) (best_in q (all_leaves (trees ++ (tree ∷ []))))
pushed_finds q best trees tree items =
    rw (leaves_push trees tree, best_in-append q (all_leaves trees) (leaves tree), best_in-append q (leaves tree) items)
    (moved best (best_in q (leaves tree)) (best_in q items) (best_in q (all_leaves trees)))

pub reached : (q : Query) (waiting : List Branch) (best : Option Hit) (tree : Bvh) (items : List Item) (most next : ℕ) (nodes : List Node) (branch : Option Branch) →
    IsOpen q waiting best (leaves tree ++ items) most → levels tree ≤ most → next < most → nodes ≡ flat tree → IsPart q tree → IsReached q nodes best branch →
    IsOpen q (waiting ++ option_to_list branch) best items next
reached q waiting best tree items most next nodes None o low less laid part idle =
    let room = o.room in
    rw (append-nil waiting) (record {
      trees = o.trees;
      each = o.each;
      low = o.low;
      room = omega arith;
      finds = sym (idle_finds q best (best_in q (all_leaves o.trees)) (leaves tree) items (idle tree laid part)) ∙ o.finds;
    })
reached q waiting best tree items most next nodes (Some branch) o low less laid part from =
    let room = o.room in
    let long = length-append o.trees (tree ∷ []) in
    record {
      trees = o.trees ++ (tree ∷ []);
      each = zip_push (IsBranch q) waiting branch o.trees tree o.each (record { laid = from.same ∙ laid; part = part; entry = from.entry tree laid part });
      low = low_push 21 o.trees tree o.low (omega arith);
      room = omega arith;
      finds = sym (pushed_finds q best o.trees tree items) ∙ o.finds;
    }
