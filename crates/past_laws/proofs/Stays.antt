-- A walk whose objects are what they were, but for who is mapped, is what it was.
use Rattle.std.proofs.Common.{ℕ, zero, suc, ◌≡◌, ◌∙◌, List, [], ◌∷◌, ◌++◌, All, Option, Some, None, map, refl, sym, ap}
use Rattle.std.specs.List.{flat_map}
use Rattle.std.specs.Option.{option_map, option_map_or}
use Rattle.std.proofs.lemmas.List.{map-append}
use Rattle.std.proofs.lemmas.List.Elements.{All-cons, All-head, All-nil, All-tail}
use Rattle.kind_tables.specs.SceneObjects.{SceneObject, SceneObjects, object_at}
use Rattle.kind_tables.specs.Walks.{Spot, at_parameters_of, below, visit, walk_from}
use Rattle.kind_tables.specs.declared.kinds.Kind.{Kind}
use Rattle.kind_tables.specs.declared.kinds.Kind.TheVariants.{Array, CameraOrthographic, InstanceTransform}
use Rattle.past_laws.specs.Stills.{AreStill, unmarked, unmarked_visit}

-- the mark has no part in where a walk goes on
parameters_unmarked : (kind : Kind) (o : SceneObject) (spot : Spot) → at_parameters_of kind (unmarked o) spot ≡ at_parameters_of kind o spot
parameters_unmarked InstanceTransform o spot = refl
parameters_unmarked (Array elem) o spot = refl
parameters_unmarked CameraOrthographic o spot = refl
parameters_unmarked _ o spot = refl

below_unmarked : (spot : Spot) (o : SceneObject) → below spot (unmarked o) ≡ below spot o
unfolding below
below_unmarked spot o = rw (parameters_unmarked o.kind o spot) refl

same_below : (spot : Spot) (o p : SceneObject) → unmarked p ≡ unmarked o → below spot p ≡ below spot o
same_below spot o p same = sym (below_unmarked spot p) ∙ ap (below spot) same ∙ below_unmarked spot o

map_flat : {X Y Z : Type 0} (u : Y → Z) (f : X → List Y) (xs : List X) → map u (flat_map f xs) ≡ flat_map (λ x. map u (f x)) xs
map_flat u f [] = refl
map_flat u f (x ∷ xs) = map-append u (f x) (flat_map f xs) ∙ ap (λ rest. map u (f x) ++ rest) (map_flat u f xs)

same_flat : {X Z : Type 0} (f g : X → List Z) (xs : List X) → All (λ x. f x ≡ g x) xs → flat_map f xs ≡ flat_map g xs
same_flat f g [] same = refl
same_flat {X} f g (x ∷ xs) same =
    ap (λ first. first ++ flat_map f xs) (All-head (λ (y : X). f y ≡ g y) x xs same)
    ∙ ap (λ rest. g x ++ rest) (same_flat f g xs (All-tail (λ (y : X). f y ≡ g y) x xs same))

each : {X : Type 0} (P Q : X → Type 0) (xs : List X) → ((x : X) → P x → Q x) → All P xs → All Q xs
each P Q [] f h = All-nil Q
each P Q (x ∷ xs) f h = All-cons Q x xs (f x (All-head P x xs h)) (each P Q xs f (All-tail P x xs h))

module _ (within : ℕ → Type 0) (old new : SceneObjects) (still : AreStill within old new) where
  pub walk_stays : (n : ℕ) (start : Spot × ℕ) → within start.1 → map unmarked_visit (walk_from n new start) ≡ map unmarked_visit (walk_from n old start)
  unfolding walk_from
  walk_stays zero start is = refl
  walk_stays (suc n) start is = by (object_at old start.1) refl (object_at new start.1) refl (λ next. walk_stays n next)
    where
      by : (x : Option SceneObject) → object_at old start.1 ≡ x → (y : Option SceneObject) → object_at new start.1 ≡ y →
          ((next : Spot × ℕ) → within next.1 → map unmarked_visit (walk_from n new next) ≡ map unmarked_visit (walk_from n old next)) →
          map unmarked_visit (option_map_or (λ o. visit start o ∷ flat_map (walk_from n new) (below start.0 o)) y [])
          ≡ map unmarked_visit (option_map_or (λ o. visit start o ∷ flat_map (walk_from n old) (below start.0 o)) x [])
      by None was None now deeper = refl
      by None was (Some p) now deeper = let wrong : Some (unmarked p) ≡ None = sym (ap (option_map unmarked) now) ∙ still.same start.1 is ∙ ap (option_map unmarked) was in absurd cc
      by (Some o) was None now deeper = let wrong : None ≡ Some (unmarked o) = sym (ap (option_map unmarked) now) ∙ still.same start.1 is ∙ ap (option_map unmarked) was in absurd cc
      by (Some o) was (Some p) now deeper =
          let both : Some (unmarked p) ≡ Some (unmarked o) = sym (ap (option_map unmarked) now) ∙ still.same start.1 is ∙ ap (option_map unmarked) was in
          let same : unmarked p ≡ unmarked o = cc in
          ap (λ q. record { handle = start.1; object = q; spot = start.0 } ∷ map unmarked_visit (flat_map (walk_from n new) (below start.0 p))) same
          ∙ ap (λ vs. record { handle = start.1; object = unmarked o; spot = start.0 } ∷ vs)
          (map_flat unmarked_visit (walk_from n new) (below start.0 p)
          ∙ ap (flat_map (λ next. map unmarked_visit (walk_from n new next))) (same_below start.0 o p same)
          ∙ same_flat (λ next. map unmarked_visit (walk_from n new next)) (λ next. map unmarked_visit (walk_from n old next)) (below start.0 o)
          (each (λ (next : Spot × ℕ). within next.1) (λ next. map unmarked_visit (walk_from n new next) ≡ map unmarked_visit (walk_from n old next)) (below start.0 o) deeper (still.closed start.1 o start.0 is was))
          ∙ sym (map_flat unmarked_visit (walk_from n old) (below start.0 o)))
