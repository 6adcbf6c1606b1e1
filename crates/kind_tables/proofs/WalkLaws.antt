-- Walks end, go down, and visit what is there.
use Rattle.std.proofs.Common.{ℕ, zero, suc, ◌+◌, ◌≡◌, ◌<◌, ◌≤◌, ◌∙◌, List, [], ◌∷◌, ◌++◌, All, Option, Some, None, MatchOption, true, map, refl, sym, ap, subst, arith}
use Rattle.std.specs.Prelude.{drop, nat_lt}
use Rattle.std.specs.BTreeMap.{is_at}
use Rattle.std.specs.List.{flat_map}
use Rattle.std.specs.Option.{IfSome, option_map_or}
use Rattle.std.specs.Ordering.{nat_cmp}
use Rattle.std.proofs.lemmas.Bool.{ltb-true}
use Rattle.std.proofs.lemmas.Map.Entries.{All-lookup}
use Rattle.std.proofs.lemmas.List.Elements.{All-nil, All-cons, All-head, All-tail, All-append, All-map}
use Rattle.dev_types.specs.declared.data_types.DataType.TheVariants as ty
use Rattle.kind_tables.specs.Ranks.{rank_of}
use Rattle.kind_tables.specs.SceneObjects.{SceneObject, SceneObjects, object_at}
use Rattle.kind_tables.specs.WalkRanks.{AreRanked, StandsBelow, names_of}
use Rattle.kind_tables.specs.Walks.{Spot, Visit, at_origin, at_element, at_parameters_of, below, named_elements, named_parameters, visit, walk, walk_from}
use Rattle.kind_tables.specs.declared.kinds.Kind.{Kind}
use Rattle.kind_tables.specs.declared.kinds.Kind.TheVariants.{Array}

-- no rank is above 9
is_rank_low : (kind : Kind) → nat_lt (rank_of kind) 10 ≡ true
is_rank_low (Array ty.Int32) = refl
is_rank_low _ = refl

ranks_end : (kind : Kind) → rank_of kind < 10
ranks_end kind = ltb-true (rank_of kind) 10 (is_rank_low kind)

-- what holds of all items and implies more holds more
pub each : {X : Type 0} (P Q : X → Type 0) (xs : List X) → ((x : X) → P x → Q x) → All P xs → All Q xs
each P Q [] f h = All-nil Q
each P Q (x ∷ xs) f h = All-cons Q x xs (f x (All-head P x xs h)) (each P Q xs f (All-tail P x xs h))

-- of a mapped list
pub unmapped : {X Y : Type 0} (P : Y → Type 0) (f : X → Y) (xs : List X) → All P (map f xs) → All (λ x. P (f x)) xs
unmapped P f [] h = All-nil (λ x. P (f x))
unmapped P f (x ∷ xs) h = All-cons (λ y. P (f y)) x xs (All-head P (f x) (map f xs) h) (unmapped P f xs (All-tail P (f x) (map f xs) h))

-- of both parts of a list
pub first_part : {X : Type 0} (P : X → Type 0) (xs ys : List X) → All P (xs ++ ys) → All P xs
first_part P [] ys h = All-nil P
first_part P (x ∷ xs) ys h = All-cons P x xs (All-head P x (xs ++ ys) h) (first_part P xs ys (All-tail P x (xs ++ ys) h))

pub second_part : {X : Type 0} (P : X → Type 0) (xs ys : List X) → All P (xs ++ ys) → All P ys
second_part P [] ys h = h
second_part P (x ∷ xs) ys h = second_part P xs ys (All-tail P x (xs ++ ys) h)

-- of lists put together
pub put_together : {X Y : Type 0} (P : Y → Type 0) (f : X → List Y) (xs : List X) → All (λ x. All P (f x)) xs → All P (flat_map f xs)
put_together P f [] h = All-nil P
put_together P f (x ∷ xs) h =
    All-append P (f x) (flat_map f xs) (All-head (λ y. All P (f y)) x xs h) (put_together P f xs (All-tail (λ y. All P (f y)) x xs h))

same_together : {X Y : Type 0} (f g : X → List Y) (xs : List X) → All (λ x. f x ≡ g x) xs → flat_map f xs ≡ flat_map g xs
same_together f g [] h = refl
same_together f g (x ∷ xs) h =
    let first : f x ≡ g x = All-head (λ y. f y ≡ g y) x xs h in
    let others : flat_map f xs ≡ flat_map g xs = same_together f g xs (All-tail (λ y. f y ≡ g y) x xs h) in
    ap (λ ys. ys ++ flat_map f xs) first ∙ ap (λ ys. g x ++ ys) others

-- the objects below an object are those that it names
named_below : (P : ℕ → Type 0) (spot : Spot) (o : SceneObject) → All P (names_of o) → All (λ start. P start.1) (below spot o)
unfolding below
named_below P spot o h =
    All-append (λ (start : Spot × ℕ). P start.1) (map (λ (named : ℕ × ℕ). (at_element o.kind spot named.0, named.1)) (named_elements o)) (map (λ (h : ℕ). (at_parameters_of o.kind o spot, h)) (named_parameters o))
    (All-map (λ (start : Spot × ℕ). P start.1) (λ (named : ℕ × ℕ). (at_element o.kind spot named.0, named.1)) (named_elements o)
    (unmapped P (λ (named : ℕ × ℕ). named.1) (named_elements o) (first_part P (map (λ (named : ℕ × ℕ). named.1) (named_elements o)) (named_parameters o) h)))
    (All-map (λ (start : Spot × ℕ). P start.1) (λ (h : ℕ). (at_parameters_of o.kind o spot, h)) (named_parameters o)
    (second_part P (map (λ (named : ℕ × ℕ). named.1) (named_elements o)) (named_parameters o) h))

-- what an object of ranked objects names stands lower
names_stand_lower : (objects : SceneObjects) (h : ℕ) (o : SceneObject) → AreRanked objects → object_at objects h ≡ Some o →
    All (StandsBelow objects (rank_of o.kind)) (names_of o)
names_stand_lower objects h o ranked e =
    let found : IfSome (object_at objects h) (λ (x : SceneObject). All (StandsBelow objects (rank_of x.kind)) (names_of x)) =
    All-lookup (λ (x : SceneObject). All (StandsBelow objects (rank_of x.kind)) (names_of x)) (is_at (nat_cmp h)) objects ranked in
    subst (λ (x : Option SceneObject). IfSome x (λ (x : SceneObject). All (StandsBelow objects (rank_of x.kind)) (names_of x))) e found

-- so what stands below an object stands below any number above its rank
pub starts_stand_below : (objects : SceneObjects) (n : ℕ) (spot : Spot) (h : ℕ) (o : SceneObject) → AreRanked objects → object_at objects h ≡ Some o → rank_of o.kind ≤ n →
    All (λ start. StandsBelow objects n start.1) (below spot o)
starts_stand_below objects n spot h o ranked e high =
    named_below (StandsBelow objects n) spot o
    (each (StandsBelow objects (rank_of o.kind)) (StandsBelow objects n) (names_of o) (λ (k : ℕ). higher k (object_at objects k)) (names_stand_lower objects h o ranked e))
  where
    higher : (k : ℕ) (x : Option SceneObject) → MatchOption x (Unit {0}) (λ (y : SceneObject). rank_of y.kind < rank_of o.kind) → MatchOption x (Unit {0}) (λ (y : SceneObject). rank_of y.kind < n)
    higher k None below = below
    higher k (Some y) below = omega (arith, below, high)

-- a walk from what is there, and from what is not
abbrev pub walk_of : (depth : ℕ) (objects : SceneObjects) (start : Spot × ℕ) → Option SceneObject → List Visit
walk_of depth objects start o = option_map_or (λ (x : SceneObject). visit start x ∷ flat_map (walk_from depth objects) (below start.0 x)) o []

-- no object stands below 0
nothing_at_depth_0 : (objects : SceneObjects) (start : Spot × ℕ) (o : Option SceneObject) → MatchOption o (Unit {0}) (λ (x : SceneObject). rank_of x.kind < 0) →
    [] ≡ walk_of 0 objects start o
nothing_at_depth_0 objects start None low = refl
nothing_at_depth_0 objects start (Some o) low = absurd (omega (arith, low))

-- a walk is the same one deeper where those from below its first object are
deeper_by : (objects : SceneObjects) → AreRanked objects → (n : ℕ) (start : Spot × ℕ) (o : Option SceneObject) → object_at objects start.1 ≡ o →
    MatchOption o (Unit {0}) (λ (x : SceneObject). rank_of x.kind < suc n) →
    ((next : Spot × ℕ) → StandsBelow objects n next.1 → walk_from n objects next ≡ walk_from (suc n) objects next) →
    walk_of n objects start o ≡ walk_of (suc n) objects start o
deeper_by objects ranked n start None e low deeper = refl
deeper_by objects ranked n start (Some o) e low deeper =
    let same : All (λ next. walk_from n objects next ≡ walk_from (suc n) objects next) (below start.0 o) =
    each (λ (next : Spot × ℕ). StandsBelow objects n next.1) (λ (next : Spot × ℕ). walk_from n objects next ≡ walk_from (suc n) objects next)
    (below start.0 o) deeper (starts_stand_below objects n start.0 start.1 o ranked e (omega (arith, low))) in
    ap (λ vs. visit start o ∷ vs) (same_together (walk_from n objects) (walk_from (suc n) objects) (below start.0 o) same)

-- one object deeper is the same where the first object stands below the depth
pub one_deeper : (objects : SceneObjects) → AreRanked objects → (n : ℕ) (start : Spot × ℕ) → StandsBelow objects n start.1 → walk_from n objects start ≡ walk_from (suc n) objects start
unfolding walk_from
one_deeper objects ranked zero start low = nothing_at_depth_0 objects start (object_at objects start.1) low
one_deeper objects ranked (suc n) start low =
    deeper_by objects ranked n start (object_at objects start.1) refl low (λ (next : Spot × ℕ). one_deeper objects ranked n next)

-- every object stands below 10, and below more
stands_below_10 : (objects : SceneObjects) (further h : ℕ) → StandsBelow objects (10 + further) h
stands_below_10 objects further h = by_object (object_at objects h)
  where
    by_object : (o : Option SceneObject) → MatchOption o (Unit {0}) (λ (x : SceneObject). rank_of x.kind < 10 + further)
    by_object None = tt
    by_object (Some o) = let low : rank_of o.kind < 10 = ranks_end o.kind in omega (arith, low)

-- deeper than ten objects is the same
pub deeper_is_the_same : (objects : SceneObjects) (root further : ℕ) → AreRanked objects → walk_from (10 + further) objects (at_origin, root) ≡ walk objects root
unfolding walk
deeper_is_the_same objects root zero ranked = let same : 10 + 0 ≡ 10 = omega arith in ap (λ n. walk_from n objects (at_origin, root)) same
deeper_is_the_same objects root (suc further) ranked =
    let next : 10 + suc further ≡ suc (10 + further) = omega arith in
    ap (λ n. walk_from n objects (at_origin, root)) next
    ∙ sym (one_deeper objects ranked (10 + further) (at_origin, root) (stands_below_10 objects further root)) ∙ deeper_is_the_same objects root further ranked

-- a visit of an object that is there
abbrev IsThere : SceneObjects → Visit → Type 0
IsThere objects v = object_at objects v.handle ≡ Some v.object

there_by : (objects : SceneObjects) (n : ℕ) (start : Spot × ℕ) (o : Option SceneObject) → object_at objects start.1 ≡ o →
    ((next : Spot × ℕ) → All (IsThere objects) (walk_from n objects next)) → All (IsThere objects) (walk_of n objects start o)
there_by objects n start None e deeper = All-nil (IsThere objects)
there_by objects n start (Some o) e deeper =
    All-cons (IsThere objects) (visit start o) (flat_map (walk_from n objects) (below start.0 o)) e
    (put_together (IsThere objects) (walk_from n objects) (below start.0 o) (all_of (below start.0 o)))
  where
    all_of : (starts : List (Spot × ℕ)) → All (λ next. All (IsThere objects) (walk_from n objects next)) starts
    all_of [] = All-nil (λ next. All (IsThere objects) (walk_from n objects next))
    all_of (next ∷ starts) = All-cons (λ next. All (IsThere objects) (walk_from n objects next)) next starts (deeper next) (all_of starts)

visits_are_there : (objects : SceneObjects) (n : ℕ) (start : Spot × ℕ) → All (IsThere objects) (walk_from n objects start)
unfolding walk_from
visits_are_there objects zero start = All-nil (IsThere objects)
visits_are_there objects (suc n) start = there_by objects n start (object_at objects start.1) refl (visits_are_there objects n)

pub visits_are_objects : (objects : SceneObjects) (root : ℕ) → All (λ v. object_at objects v.handle ≡ Some v.object) (walk objects root)
unfolding walk
visits_are_objects objects root = visits_are_there objects 10 (at_origin, root)

-- a visit of an object that stands below n
abbrev pub IsLow : ℕ → Visit → Type 0
IsLow n v = rank_of v.object.kind < n

low_by : (objects : SceneObjects) → AreRanked objects → (n bound : ℕ) (start : Spot × ℕ) (o : Option SceneObject) → object_at objects start.1 ≡ o →
    MatchOption o (Unit {0}) (λ (x : SceneObject). rank_of x.kind < bound) →
    ((next : Spot × ℕ) → StandsBelow objects bound next.1 → All (IsLow bound) (walk_from n objects next)) → All (IsLow bound) (walk_of n objects start o)
low_by objects ranked n bound start None e low deeper = All-nil (IsLow bound)
low_by objects ranked n bound start (Some o) e low deeper =
    All-cons (IsLow bound) (visit start o) (flat_map (walk_from n objects) (below start.0 o)) low
    (put_together (IsLow bound) (walk_from n objects) (below start.0 o)
    (each (λ (next : Spot × ℕ). StandsBelow objects bound next.1) (λ (next : Spot × ℕ). All (IsLow bound) (walk_from n objects next))
    (below start.0 o) deeper (starts_stand_below objects bound start.0 start.1 o ranked e (omega (arith, low)))))

-- from an object that stands below a number all is below it
pub all_is_low : (objects : SceneObjects) → AreRanked objects → (n bound : ℕ) (start : Spot × ℕ) → StandsBelow objects bound start.1 → All (IsLow bound) (walk_from n objects start)
unfolding walk_from
all_is_low objects ranked zero bound start low = All-nil (IsLow bound)
all_is_low objects ranked (suc n) bound start low =
    low_by objects ranked n bound start (object_at objects start.1) refl low (all_is_low objects ranked n bound)

-- behind the first object of a walk
behind : (objects : SceneObjects) (root : ℕ) (o : SceneObject) → object_at objects root ≡ Some o →
    drop 1 (walk objects root) ≡ flat_map (walk_from 9 objects) (below at_origin o)
unfolding below walk walk_from
behind objects root o e = ap (λ x. drop 1 (walk_of 9 objects (at_origin, root) x)) e

pub the_rest_is_lower : (objects : SceneObjects) (root : ℕ) (o : SceneObject) → AreRanked objects → object_at objects root ≡ Some o →
    All (λ v. rank_of v.object.kind < rank_of o.kind) (drop 1 (walk objects root))
the_rest_is_lower objects root o ranked e =
    subst (All (IsLow (rank_of o.kind))) (sym (behind objects root o e))
    (put_together (IsLow (rank_of o.kind)) (walk_from 9 objects) (below at_origin o)
    (each (λ (next : Spot × ℕ). StandsBelow objects (rank_of o.kind) next.1) (λ (next : Spot × ℕ). All (IsLow (rank_of o.kind)) (walk_from 9 objects next))
    (below at_origin o) (all_is_low objects ranked 9 (rank_of o.kind))
    (starts_stand_below objects (rank_of o.kind) at_origin root o ranked e (omega arith))))
