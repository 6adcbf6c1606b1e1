-- How the tree of some items is made of the trees of both halves.
use Rattle.std.proofs.Common.{◌≡◌, ℕ, zero, suc, ◌+◌, ◌-◌, ◌*◌, ◌/◌, ◌^◌, ◌<◌, ◌≤◌, List, [], ◌∷◌, ◌++◌, length, take, get_or, ◌⊎◌, inl, inr, arith, refl, ap, sym, ◌∙◌, lit≤}
use Rattle.std.specs.Prelude.{All, Result, Ok, Err}
use Rattle.std.specs.Result.{OnOk}
use Rattle.std.specs.List.Sorted.{IsPermutation}
use Rattle.std.proofs.lemmas.List.{get_or_default, length-append, length-take-le}
use Rattle.std.proofs.lemmas.List.Sorted.{All-permutation, IsPermutation-append, IsPermutation-refl, IsPermutation-trans, length_permutation}
use Rattle.std.proofs.lemmas.Nat.{pow-add}
use Rattle.std.proofs.Math.Nat.{pow-le-pow_right}
use Rattle.std.proofs.Math.Seq.{take-suc}
use Rattle.box_tests.specs.declared.boxes.Box3.{Box3}
use Rattle.box_tests.specs.Boxes.{IsBoxIn}
use Rattle.box_tests.proofs.Nesting.{box_in-trans}
use Rattle.bvh_build.specs.declared.trees.Item.{Item}
use Rattle.bvh_build.specs.declared.trees.Node.{Node}
use Rattle.bvh_build.specs.declared.trees.Node.TheVariants.{Leaf, Fork}
use Rattle.bvh_build.specs.Trees.{Bvh, a_leaf, a_fork, flat, leaves, numbered, IsGrowth}

-- a tree has one node less than twice its leaves
pub nodes_of : (t : Bvh) → length (flat t) + 1 ≡ 2 * length (leaves t)
nodes_of (a_leaf item) = refl
nodes_of (a_fork bounds first second) =
    let p = nodes_of first in
    let q = nodes_of second in
    let n = length-append (flat first) (flat second) in
    let l = length-append (leaves first) (leaves second) in
    omega arith

regroup : {X : Type 0} (xs : List X) (x : X) (ys zs : List X) → ((xs ++ (x ∷ [])) ++ ys) ++ zs ≡ xs ++ (x ∷ (ys ++ zs))
regroup [] x ys zs = refl
regroup (w ∷ xs) x ys zs = ap (λ l. w ∷ l) (regroup xs x ys zs)

pub leaf_growth : (item : Item) (before : List Node) (most : ℕ) → 1 ≤ most → IsGrowth (item ∷ []) before (before ++ (Leaf item ∷ [])) most
leaf_growth item before most h = record {
  added = Leaf item ∷ [];
  is = refl;
  grown = record { tree = a_leaf item; laid = refl; each = IsPermutation-refl (item ∷ []); nested = tt; low = h };
}

-- the nodes of a fork over two trees
forked : (bounds : Box3) (left : ℕ) (s t : Bvh) (a b : List Node) → a ≡ flat s → b ≡ flat t → left ≡ length (flat s) → Fork bounds left ∷ (a ++ b) ≡ flat (a_fork bounds s t)
forked bounds left s t a b e f g = rw (e, f, g) refl

left_nodes : (s : Bvh) (items : List Item) → IsPermutation items (leaves s) → 2 * length items - 1 ≡ length (flat s)
left_nodes s items p =
    let l = length_permutation items (leaves s) p in
    let c = nodes_of s in
    omega arith

pub fork_growth : (items sorted xs ys : List Item) (bounds : Box3) (before opened first second : List Node) (most top : ℕ) →
    IsPermutation items sorted → xs ++ ys ≡ sorted → All (λ item. IsBoxIn item.bounds bounds) items →
    opened ≡ before ++ (Fork bounds (2 * length xs - 1) ∷ []) →
    IsGrowth xs opened first most → IsGrowth ys first second most → most + 1 ≤ top →
    IsGrowth items before second top
fork_growth items sorted xs ys bounds before opened first second most top p whole holds open_is g h room =
    let s = g.grown.tree in
    let t = h.grown.tree in
    let both = IsPermutation-append xs (leaves s) ys (leaves t) g.grown.each h.grown.each in
    let each = IsPermutation-trans items sorted (leaves s ++ leaves t) p (rw whole at both) in
    let low_s = g.grown.low in
    let low_t = h.grown.low in
    record {
      added = Fork bounds (2 * length xs - 1) ∷ (g.added ++ h.added);
      is = h.is ∙ ap (λ l. l ++ h.added) (g.is ∙ ap (λ l. l ++ g.added) open_is) ∙ regroup before (Fork bounds (2 * length xs - 1)) g.added h.added;
      grown = record {
        tree = a_fork bounds s t;
        laid = forked bounds (2 * length xs - 1) s t g.added h.added g.grown.laid h.grown.laid (left_nodes s xs g.grown.each);
        each = each;
        nested = (All-permutation (λ item. IsBoxIn item.bounds bounds) items (leaves s ++ leaves t) each holds, g.grown.nested, h.grown.nested);
        low = omega (arith, low_s, low_t, room);
      };
    }

pub on_ok : {A E P Q : Type 0} (r : Result A E) → (P → Q) → OnOk r P → OnOk r Q
on_ok (Ok a) f p = f p
on_ok (Err e) f p = tt

single : (items : List Item) (d : Item) → length items ≡ 1 → items ≡ get_or items 0 d ∷ []
single [] d h = absurd (omega arith)
single (item ∷ []) d h = refl
single (item ∷ next ∷ items) d h = absurd (omega arith)

pub leaf_growth_of : (items : List Item) (d : Item) (before after : List Node) (most : ℕ) → length items ≡ 1 → after ≡ before ++ (Leaf (get_or items 0 d) ∷ []) → 1 ≤ most → IsGrowth items before after most
leaf_growth_of items d before after most one is h = rw (single items d one, is) (leaf_growth (get_or items 0 d) before most h)

-- ---- sizes
-- more than one item wants a cut
pub cuts_some : (n cuts : ℕ) → 2 ≤ n → n ≤ 2 ^ cuts → 1 ≤ cuts
cuts_some n zero h k = omega arith
cuts_some n (suc cuts) h k = omega arith

-- each half fits one cut less
pub halves_fit : (n cuts : ℕ) → 1 ≤ cuts → n ≤ 2 ^ cuts → (n / 2 ≤ 2 ^ (cuts - 1)) × (n - n / 2 ≤ 2 ^ (cuts - 1))
halves_fit n cuts h k =
    let split = pow-add 2 1 (cuts - 1) in
    let same : 1 + (cuts - 1) ≡ cuts = omega arith in
    let both = rw same at split in
    (omega arith, omega arith)

pub at_most : (n cuts : ℕ) → cuts ≤ 20 → n ≤ 2 ^ cuts → n ≤ 2 ^ 20
at_most n cuts h k = let p : 2 ^ cuts ≤ 2 ^ 20 = pow-le-pow_right (lit≤ tt) h in omega arith

-- ---- numbers
pub length-numbered : (first : ℕ) (boxes : List Box3) → length (numbered first boxes) ≡ length boxes
length-numbered first [] = refl
length-numbered first (b ∷ bs) = ap suc (length-numbered (suc first) bs)

number-next : (first : ℕ) (xs : List Box3) (b : Box3) → numbered first (xs ++ (b ∷ [])) ≡ numbered first xs ++ (record { bounds = b; index = first + length xs } ∷ [])
number-next first [] b = let e : first ≡ first + 0 = omega arith in rw (← e) refl
number-next first (x ∷ xs) b = let e : suc first + length xs ≡ first + suc (length xs) = omega arith in ap (λ l. record { bounds = x; index = first } ∷ l) (rw e at (number-next (suc first) xs b))

numbered-next : (boxes : List Box3) (i : ℕ) (d : Box3) → i < length boxes → numbered 0 (take i boxes) ++ (record { bounds = get_or boxes i d; index = i } ∷ []) ≡ numbered 0 (take (i + 1) boxes)
numbered-next boxes i d h =
    let e : i + 1 ≡ suc i = omega arith in
    let n : length (take i boxes) ≡ i = length-take-le i boxes (omega arith) in
    let l : 0 + length (take i boxes) ≡ i = omega arith in
    let next = number-next 0 (take i boxes) (get_or boxes i d) in
    rw (e, take-suc boxes i d h) (sym (rw l at next))

pub numbered-step : (boxes : List Box3) (i : ℕ) (d : Box3) (before after : List Item) → i < length boxes → before ≡ numbered 0 (take i boxes) →
    after ≡ before ++ (record { bounds = get_or boxes i d; index = i } ∷ []) → after ≡ numbered 0 (take (i + 1) boxes)
numbered-step boxes i d before after h is next = next ∙ ap (λ l. l ++ (record { bounds = get_or boxes i d; index = i } ∷ [])) is ∙ numbered-next boxes i d h

-- ---- boxes round items
pub held_next : (items : List Item) (i : ℕ) (b c : Box3) (e : Item) → ((k : ℕ) (d : Item) → k < i → IsBoxIn (get_or items k d).bounds b) → i < length items →
    IsBoxIn b c → IsBoxIn (get_or items i e).bounds c → (k : ℕ) (d : Item) → k < i + 1 → IsBoxIn (get_or items k d).bounds c
held_next items i b c e held within wider next k d h = by_place (split k i h)
  where
    split : (k i : ℕ) → k < i + 1 → (k < i) ⊎ (k ≡ i)
    split k i h = grind arith

    by_place : (k < i) ⊎ (k ≡ i) → IsBoxIn (get_or items k d).bounds c
    by_place (inl before) = box_in-trans (get_or items k d).bounds b c (held k d before) wider
    by_place (inr same) = rw (same, get_or_default items i d e within) next
