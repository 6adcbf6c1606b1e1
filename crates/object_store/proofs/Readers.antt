-- What is read of arrays is read of their objects.
use Rattle.std.proofs.Common.{ℕ, ◌≡◌, ◌∙◌, true, false, List, Option, Some, None, refl, sym, ap}
use Rattle.std.specs.Option.{is_some, option_and_then, option_map, option_map_or}
use Rattle.handle_table.specs.HandleMaps.{HandleMap, value_at}
use Rattle.kind_tables.specs.SceneObjects.{Block, SceneObject, object_at as scene_at, value_named}
use Rattle.ref_counts.specs.CountMaps.{CountMap, public_at}
use Rattle.array_objects.specs.Stores.{Arrays, array_at, elements_of, loan_of}
use Rattle.array_objects.specs.declared.arrays.Array.{Array}
use Rattle.scene_read.specs.Reading.{content_of, lent as lent_block}
use Rattle.seq_model.specs.State.{ArrayState, Object, State, array_loan, object_at, scene_object, scene_objects}
use Rattle.object_store.specs.Kept.{Stops, Stored, stored}
use Rattle.object_store.specs.Parts.{Part, array_state, at, object_of}
use Rattle.object_store.proofs.Counted.{none_by}
use Rattle.object_store.proofs.Keyed.{at_keyed}
use Rattle.object_store.proofs.PartFacts.{looked}

pub read_gone : {X : Type 0} (s : Stored) (slots : HandleMap Part) (arrays : Arrays) (counts : CountMap) (stopped : Stops) (h : ℕ) (g : Option ArrayState → Option X) → stored slots arrays counts stopped ≡ s →
    is_some (value_at slots h) ≡ false → option_and_then (λ (o : Object). g o.array) (object_at s.state h) ≡ None
read_gone s slots arrays counts stopped h g same gone =
    ap (option_and_then (λ (o : Object). g o.array))
    (looked s slots arrays counts stopped h same ∙ ap (option_map (λ part. object_of part (array_at arrays h))) (none_by (value_at slots h) gone))

pub read_array : {X : Type 0} (s : Stored) (slots : HandleMap Part) (arrays : Arrays) (counts : CountMap) (stopped : Stops) (h : ℕ) (g : Option ArrayState → Option X) → stored slots arrays counts stopped ≡ s →
    is_some (value_at slots h) ≡ true → option_and_then (λ (o : Object). g o.array) (object_at s.state h) ≡ g (option_map array_state (array_at arrays h))
read_array {X} s slots arrays counts stopped h g same there =
    ap (option_and_then (λ (o : Object). g o.array)) (looked s slots arrays counts stopped h same) ∙ by (value_at slots h) there
  where
    by : (x : Option Part) → is_some x ≡ true →
        option_and_then (λ (o : Object). g o.array) (option_map (λ part. object_of part (array_at arrays h)) x) ≡ g (option_map array_state (array_at arrays h))
    by None is = absurd cc
    by (Some part) is = refl

pub elements_read : (array : Option Array) → option_map elements_of (option_map (λ (a : Array). a.block) array) ≡ option_map (λ (a : ArrayState). lent_block a.block) (option_map array_state array)
elements_read None = refl
elements_read (Some a) = refl

pub bytes_read : (array : Option Array) → option_map (λ b. b.bytes) (option_map (λ (a : Array). a.block) array) ≡ option_map (λ (a : ArrayState). a.block.bytes) (option_map array_state array)
bytes_read None = refl
bytes_read (Some a) = refl

pub loan_read : (array : Option Array) → loan_of array ≡ option_and_then (λ (a : ArrayState). a.loan) (option_map array_state array)
loan_read None = refl
loan_read (Some a) = refl

-- an object as a scene sees it
pub seen_at : (s : State) (h : ℕ) → scene_at (scene_objects s) h ≡ option_map scene_object (object_at s h)
seen_at s h = at_keyed (λ h o. scene_object o) h s.objects

-- so what a scene reads of it is read of the object
pub kind_seen : (s : State) (h : ℕ) → option_map (λ (o : SceneObject). o.kind) (scene_at (scene_objects s) h) ≡ option_map (λ (o : Object). o.kind) (object_at s h)
kind_seen s h = ap (option_map (λ (o : SceneObject). o.kind)) (seen_at s h) ∙ by (object_at s h)
  where
    by : (x : Option Object) → option_map (λ (o : SceneObject). o.kind) (option_map scene_object x) ≡ option_map (λ (o : Object). o.kind) x
    by None = refl
    by (Some o) = refl

pub committed_seen : (s : State) (h : ℕ) (name : List ℕ) →
    option_and_then (λ (o : SceneObject). value_named name o.committed) (scene_at (scene_objects s) h) ≡ option_and_then (λ (o : Object). value_named name o.committed) (object_at s h)
committed_seen s h name = ap (option_and_then (λ (o : SceneObject). value_named name o.committed)) (seen_at s h) ∙ by (object_at s h)
  where
    by : (x : Option Object) → option_and_then (λ (o : SceneObject). value_named name o.committed) (option_map scene_object x) ≡ option_and_then (λ (o : Object). value_named name o.committed) x
    by None = refl
    by (Some o) = refl

pub content_seen : (s : State) (h : ℕ) → content_of (scene_objects s) h ≡ option_and_then (λ (o : Object). option_map (λ (a : ArrayState). lent_block a.block) o.array) (object_at s h)
content_seen s h = ap (option_and_then (λ (o : SceneObject). option_map lent_block o.block)) (seen_at s h) ∙ by (object_at s h)
  where
    blocks : (x : Option ArrayState) → option_map lent_block (option_map (λ (a : ArrayState). a.block) x) ≡ option_map (λ (a : ArrayState). lent_block a.block) x
    blocks None = refl
    blocks (Some a) = refl

    by : (x : Option Object) → option_and_then (λ (o : SceneObject). option_map lent_block o.block) (option_map scene_object x)
        ≡ option_and_then (λ (o : Object). option_map (λ (a : ArrayState). lent_block a.block) o.array) x
    by None = refl
    by (Some o) = blocks o.array

pub bytes_seen : (s : State) (h : ℕ) → option_and_then (λ (o : SceneObject). option_map (λ b. b.bytes) o.block) (scene_at (scene_objects s) h)
    ≡ option_and_then (λ (o : Object). option_map (λ (a : ArrayState). a.block.bytes) o.array) (object_at s h)
bytes_seen s h = ap (option_and_then (λ (o : SceneObject). option_map (λ b. b.bytes) o.block)) (seen_at s h) ∙ by (object_at s h)
  where
    blocks : (x : Option ArrayState) → option_map (λ (b : Block). b.bytes) (option_map (λ (a : ArrayState). a.block) x) ≡ option_map (λ (a : ArrayState). a.block.bytes) x
    blocks None = refl
    blocks (Some a) = refl

    by : (x : Option Object) → option_and_then (λ (o : SceneObject). option_map (λ b. b.bytes) o.block) (option_map scene_object x)
        ≡ option_and_then (λ (o : Object). option_map (λ (a : ArrayState). a.block.bytes) o.array) x
    by None = refl
    by (Some o) = blocks o.array

pub mapped_seen : (s : State) (h : ℕ) → option_map_or (λ (o : SceneObject). o.mapped) (scene_at (scene_objects s) h) false ≡ is_some (option_and_then array_loan (object_at s h))
mapped_seen s h = ap (λ x. option_map_or (λ (o : SceneObject). o.mapped) x false) (seen_at s h) ∙ by (object_at s h)
  where
    by : (x : Option Object) → option_map_or (λ (o : SceneObject). o.mapped) (option_map scene_object x) false ≡ is_some (option_and_then array_loan x)
    by None = refl
    by (Some o) = refl

-- public references are told of who is there
public_at_part : (s : Stored) (slots : HandleMap Part) (arrays : Arrays) (counts : CountMap) (stopped : Stops) (h : ℕ) → stored slots arrays counts stopped ≡ s →
    at h s.public ≡ option_map (λ (p : Part). public_at counts h) (value_at slots h)
public_at_part s slots arrays counts stopped h same = sym (ap (λ (s : Stored). at h s.public) same) ∙ at_keyed (λ k (p : Part). public_at counts k) h slots.entries

pub no_public : (s : Stored) (slots : HandleMap Part) (arrays : Arrays) (counts : CountMap) (stopped : Stops) (h : ℕ) → stored slots arrays counts stopped ≡ s →
    is_some (value_at slots h) ≡ false → at h s.public ≡ None
no_public s slots arrays counts stopped h same gone =
    public_at_part s slots arrays counts stopped h same ∙ ap (option_map (λ (p : Part). public_at counts h)) (none_by (value_at slots h) gone)

pub public_read : (s : Stored) (slots : HandleMap Part) (arrays : Arrays) (counts : CountMap) (stopped : Stops) (h : ℕ) → stored slots arrays counts stopped ≡ s →
    is_some (value_at slots h) ≡ true → at h s.public ≡ Some (public_at counts h)
public_read s slots arrays counts stopped h same there = public_at_part s slots arrays counts stopped h same ∙ by (value_at slots h) there
  where
    by : (x : Option Part) → is_some x ≡ true → option_map (λ (p : Part). public_at counts h) x ≡ Some (public_at counts h)
    by None is = absurd cc
    by (Some part) is = refl

pub object_is_there : (s : Stored) (slots : HandleMap Part) (arrays : Arrays) (counts : CountMap) (stopped : Stops) (h : ℕ) → stored slots arrays counts stopped ≡ s →
    is_some (object_at s.state h) ≡ is_some (value_at slots h)
object_is_there s slots arrays counts stopped h same = ap is_some (looked s slots arrays counts stopped h same) ∙ by (value_at slots h)
  where
    by : (x : Option Part) → is_some (option_map (λ part. object_of part (array_at arrays h)) x) ≡ is_some x
    by None = refl
    by (Some part) = refl
