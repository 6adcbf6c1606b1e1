-- Where a walk visits an object, it visits what the object names.
use Rattle.std.proofs.Common.{ℕ, zero, suc, ◌≡◌, ◌∙◌, List, [], ◌∷◌, ◌++◌, All, Option, Some, None, map, refl, sym, ap, subst}
use Rattle.std.specs.Prelude.{slice_get}
use Rattle.std.specs.List.{filter_map, flat_map}
use Rattle.std.specs.Option.{option_and_then, option_map_or}
use Rattle.std.proofs.lemmas.List.Elements.{All-nil, All-cons, All-head, All-tail, All-append}
use Rattle.kind_tables.proofs.WalkLaws.{deeper_is_the_same, each, first_part, put_together, second_part, unmapped, walk_of}
use Rattle.kind_tables.specs.Rows.{rows_of}
use Rattle.kind_tables.specs.SceneObjects.{SceneObject, SceneObjects, object_at, object_in, object_named, value_named}
use Rattle.kind_tables.specs.WalkRanks.{AreRanked}
use Rattle.kind_tables.specs.Walks.{Spot, Visit, at_element, at_origin, at_parameters_of, below, named_elements, named_parameters, visit, walk, walk_from}
use Rattle.kind_tables.specs.declared.rows.Row.{Row}

-- of lists taken apart
taken_apart : {X Y : Type 0} (P : Y → Type 0) (f : X → List Y) (xs : List X) → All P (flat_map f xs) → All (λ x. All P (f x)) xs
taken_apart P f [] h = All-nil (λ x. All P (f x))
taken_apart P f (x ∷ xs) h =
    All-cons (λ x. All P (f x)) x xs (first_part P (f x) (flat_map f xs) h) (taken_apart P f xs (second_part P (f x) (flat_map f xs) h))

-- of what is chosen from a list
pub chosen : {X Y : Type 0} (P : X → Type 0) (Q : Y → Type 0) (f : X → Option Y) (xs : List X) → ((x : X) → P x → (y : Y) → f x ≡ Some y → Q y) → All P xs → All Q (filter_map f xs)
chosen P Q f [] more h = All-nil Q
chosen {Y = Y} P Q f (x ∷ xs) more h = by (f x) refl (chosen P Q f xs more (All-tail P x xs h))
  where
    by : (y : Option Y) → f x ≡ y → All Q (filter_map f xs) → All Q (filter_map f (x ∷ xs))
    by None is rest = rw is rest
    by (Some y) is rest = rw is (All-cons Q y (filter_map f xs) (more x (All-head P x xs h) y is) rest)

-- what holds of all that is chosen holds of what the item at a place gives
listed : {X Y : Type 0} (R : Y → Type 0) (f : X → Option Y) (xs : List X) (i : ℕ) (x : X) (y : Y) → slice_get xs i ≡ Some x → f x ≡ Some y → All R (filter_map f xs) → R y
listed R f [] i x y there is all = absurd cc
listed R f (z ∷ xs) zero x y there is all =
    let same : z ≡ x = cc in
    let here : f z ≡ Some y = ap f same ∙ is in
    All-head R y (filter_map f xs) (rw here at all)
listed {X} {Y} R f (z ∷ xs) (suc i) x y there is all = by (f z) refl (λ rest. listed R f xs i x y there is rest)
  where
    by : (w : Option Y) → f z ≡ w → (All R (filter_map f xs) → R y) → R y
    by None none rest = rest (rw none at all)
    by (Some w) some rest = rest (All-tail R w (filter_map f xs) (rw some at all))

-- P holds of the visits of all that a visited object names, where it is there
abbrev pub HoldsBelow : (Visit → Type 0) → SceneObjects → Visit → Type 0
HoldsBelow P objects v = All (λ (next : Spot × ℕ). (p : SceneObject) → object_at objects next.1 ≡ Some p → P (visit next p)) (below v.spot v.object)

pub first_visit : (P : Visit → Type 0) (objects : SceneObjects) (n : ℕ) (start : Spot × ℕ) (o : SceneObject) → object_at objects start.1 ≡ Some o →
    All P (walk_from (suc n) objects start) → P (visit start o)
unfolding walk_from
first_visit P objects n start o there all =
    All-head P (visit start o) (flat_map (walk_from n objects) (below start.0 o)) (subst (λ x. All P (walk_of n objects start x)) there all)

-- a walk one object deeper visits what a walk's objects name
holds_below : (P : Visit → Type 0) (objects : SceneObjects) (n : ℕ) (start : Spot × ℕ) → All P (walk_from (suc n) objects start) → All (HoldsBelow P objects) (walk_from n objects start)
unfolding walk_from
holds_below P objects zero start all = All-nil (HoldsBelow P objects)
holds_below P objects (suc n) start all = by (object_at objects start.1) (holds_below P objects n) (first_visit P objects n) all
  where
    by : (o : Option SceneObject) → ((next : Spot × ℕ) → All P (walk_from (suc n) objects next) → All (HoldsBelow P objects) (walk_from n objects next)) →
        ((next : Spot × ℕ) (p : SceneObject) → object_at objects next.1 ≡ Some p → All P (walk_from (suc n) objects next) → P (visit next p)) →
        All P (walk_of (suc n) objects start o) → All (HoldsBelow P objects) (walk_of n objects start o)
    by None deeper first all = All-nil (HoldsBelow P objects)
    by (Some o) deeper first all =
        let parts : All (λ next. All P (walk_from (suc n) objects next)) (below start.0 o) =
        taken_apart P (walk_from (suc n) objects) (below start.0 o) (All-tail P (visit start o) (flat_map (walk_from (suc n) objects) (below start.0 o)) all) in
        All-cons (HoldsBelow P objects) (visit start o) (flat_map (walk_from n objects) (below start.0 o))
        (each (λ next. All P (walk_from (suc n) objects next)) (λ next. (p : SceneObject) → object_at objects next.1 ≡ Some p → P (visit next p)) (below start.0 o)
        (λ next all p there. first next p there all) parts)
        (put_together (HoldsBelow P objects) (walk_from n objects) (below start.0 o)
        (each (λ next. All P (walk_from (suc n) objects next)) (λ next. All (HoldsBelow P objects) (walk_from n objects next)) (below start.0 o) deeper parts))

pub all_hold_below : (P : Visit → Type 0) (objects : SceneObjects) (root : ℕ) → AreRanked objects → All P (walk objects root) → All (HoldsBelow P objects) (walk objects root)
unfolding walk
all_hold_below P objects root ranked all =
    holds_below P objects 10 (at_origin, root) (subst (All P) (sym (deeper_is_the_same objects root 1 ranked)) all)

-- the handle of an object that is named
pub named_handle : (objects : SceneObjects) (named : Option ℕ) (p : SceneObject) → option_and_then (object_at objects) named ≡ Some p →
    (h : ℕ) × ((named ≡ Some h) × (object_at objects h ≡ Some p))
named_handle objects None p found = absurd cc
named_handle objects (Some h) p found = (h, (refl, found))

-- what a parameter names is visited
pub holds_of_named : (P : Visit → Type 0) (objects : SceneObjects) (v : Visit) (i : ℕ) (name : List ℕ) (row : Row) (p : SceneObject) →
    slice_get (rows_of v.object.kind) i ≡ Some (name, row) → object_named objects v.object name ≡ Some p → HoldsBelow P objects v →
    (h : ℕ) × ((object_at objects h ≡ Some p) × P (visit (at_parameters_of v.object.kind v.object v.spot, h) p))
unfolding below
holds_of_named P objects v i name row p there found all =
    let at_h : (h : ℕ) × ((option_and_then object_in (value_named name v.object.committed) ≡ Some h) × (object_at objects h ≡ Some p)) =
    named_handle objects (option_and_then object_in (value_named name v.object.committed)) p found in (
      at_h.0,
      (
        at_h.1.1,
        listed (λ h. (p : SceneObject) → object_at objects h ≡ Some p → P (visit (at_parameters_of v.object.kind v.object v.spot, h) p))
            (λ (row : List ℕ × Row). option_and_then object_in (value_named row.0 v.object.committed)) (rows_of v.object.kind) i (name, row) at_h.0 there at_h.1.0
            (unmapped (λ (next : Spot × ℕ). (p : SceneObject) → object_at objects next.1 ≡ Some p → P (visit next p))
            (λ (h : ℕ). (at_parameters_of v.object.kind v.object v.spot, h)) (named_parameters v.object)
            (second_part (λ (next : Spot × ℕ). (p : SceneObject) → object_at objects next.1 ≡ Some p → P (visit next p))
            (map (λ (named : ℕ × ℕ). (at_element v.object.kind v.spot named.0, named.1)) (named_elements v.object))
            (map (λ (h : ℕ). (at_parameters_of v.object.kind v.object v.spot, h)) (named_parameters v.object)) all)) p at_h.1.1,
      ),
    )
