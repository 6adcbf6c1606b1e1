-- A sound state as its scene sees it: a parameter names an object that it takes, and an array has the elements that its kind tells.
use Rattle.std.proofs.Common.{ℕ, ◌≡◌, ◌∙◌, Bool, true, false, List, [], ◌∷◌, All, Option, Some, None, refl, sym, ap, subst}
use Rattle.std.specs.Prelude.{cond, IsSomeAnd, MatchOption}
use Rattle.std.specs.BTreeMap.{is_at}
use Rattle.std.specs.Cmp.Lexicographic.{slice_cmp}
use Rattle.std.specs.Option.{option_and_then, option_map}
use Rattle.std.specs.Ordering.{nat_cmp}
use Rattle.std.proofs.lemmas.Slice.Eq.{bytes_eq-Decides}
use Rattle.std.proofs.lemmas.List.Elements.{All-head, All-tail}
use Rattle.std.proofs.lemmas.Map.Text.{is_eq-slice_cmp}
use Rattle.dev_types.specs.declared.values.Value.{Value}
use Rattle.kind_tables.specs.Rows.{row_of}
use Rattle.kind_tables.specs.SceneObjects.{Block, SceneObject, SceneObjects, object_at, object_in, object_named, value_named}
use Rattle.kind_tables.specs.declared.kinds.Kind.TheVariants.{Array}
use Rattle.seq_model.proofs.Keys.{at_map}
use Rattle.seq_model.specs.Soundness.{AllSound, ArrayFits, Fits, IsSound, NamesFitting}
use Rattle.kind_tables.specs.Typed.{IsTyped, Takes}
use Rattle.seq_model.specs.State.{ArrayState, Object, State, object_at as state_object, scene_object, scene_objects}

-- the value under a name is one of the map's, under that name
pub value_is : (P : List ℕ → Value → Type 0) (name : List ℕ) (values : List (List ℕ × Value)) (v : Value) → All (λ entry. P entry.0 entry.1) values → value_named name values ≡ Some v → P name v
value_is P name [] v all found = absurd cc
value_is P name (e ∷ values) v all found = by (is_at (slice_cmp nat_cmp name) e.0) refl (value_is P name values v (All-tail (λ (entry : List ℕ × Value). P entry.0 entry.1) e values all))
  where
    by : (t : Bool) → is_at (slice_cmp nat_cmp name) e.0 ≡ t → (value_named name values ≡ Some v → P name v) → P name v
    by true is rest =
        let value : Some e.1 ≡ Some v = sym (ap (λ t. cond t (Some e.1) (value_named name values)) is) ∙ found in
        let same : e.1 ≡ v = cc in
        let key : name ≡ e.0 = (bytes_eq-Decides name e.0).0 (sym (is_eq-slice_cmp name e.0) ∙ is) in
        subst (λ v. P name v) same (subst (λ n. P n e.1) (sym key) (All-head (λ (entry : List ℕ × Value). P entry.0 entry.1) e values all))
    by false is rest = rest (sym (ap (λ t. cond t (Some e.1) (value_named name values)) is) ∙ found)

-- an object of a scene is one of the state
pub state_has : (s : State) (h : ℕ) (o : SceneObject) → object_at (scene_objects s) h ≡ Some o → (q : Object) × ((state_object s h ≡ Some q) × (scene_object q ≡ o))
state_has s h o found = by (state_object s h) refl (sym (at_map scene_object h s.objects) ∙ found)
  where
    by : (x : Option Object) → state_object s h ≡ x → option_map scene_object x ≡ Some o → (q : Object) × ((state_object s h ≡ Some q) × (scene_object q ≡ o))
    by None is same = absurd cc
    by (Some q) is same = (q, (is, (let one : scene_object q ≡ o = cc in one)))

pub sound_at : (s : State) (h : ℕ) (q : Object) → AllSound s → state_object s h ≡ Some q → IsSound s q
sound_at s h q all found = subst (λ x. MatchOption x (Unit {0}) (IsSound s)) found (all h)

named_by : (s : State) (q : Object) (name : List ℕ) (p : SceneObject) (v : Option Value) → IsSound s q → value_named name q.committed ≡ v →
    option_and_then (object_at (scene_objects s)) (option_and_then object_in v) ≡ Some p → IsSomeAnd (row_of q.kind name) (λ row. Takes row p.kind)
named_by s q name p None sound is found = absurd cc
named_by s q name p (Some v) sound is found = by (object_in v) refl found
  where
    fits : Fits s q.kind name v
    fits = value_is (λ name v. Fits s q.kind name v) name q.committed v sound.committed is

    by : (x : Option ℕ) → object_in v ≡ x → option_and_then (object_at (scene_objects s)) x ≡ Some p → IsSomeAnd (row_of q.kind name) (λ row. Takes row p.kind)
    by None is found = absurd cc
    by (Some k) is found =
        let there : (r : Object) × ((state_object s k ≡ Some r) × (scene_object r ≡ p)) = state_has s k p found in
        let named : NamesFitting s q.kind name k = subst (λ x. MatchOption x (Unit {0}) (NamesFitting s q.kind name)) is fits.named in
        let takes : IsSomeAnd (row_of q.kind name) (λ row. Takes row there.0.kind) =
        subst (λ x. IsSomeAnd x (λ o. IsSomeAnd (row_of q.kind name) (λ row. Takes row o.kind))) there.1.0 named in
        subst (λ (o : SceneObject). IsSomeAnd (row_of q.kind name) (λ row. Takes row o.kind)) there.1.1 takes

array_by : (s : State) (q : Object) (b : Block) (a : Option ArrayState) → ArrayFits s q.kind a → option_map (λ (a : ArrayState). a.block) a ≡ Some b → q.kind ≡ Array b.elem
array_by s q b None fits is = absurd cc
array_by s q b (Some a) fits is = let same : a.block ≡ b = cc in fits.0 ∙ ap (λ (b : Block). Array b.elem) same

pub sound_is_typed : (s : State) → AllSound s → IsTyped (scene_objects s)
sound_is_typed s all = record {
  named = λ h o name p there found.
      let of : (q : Object) × ((state_object s h ≡ Some q) × (scene_object q ≡ o)) = state_has s h o there in
      subst (λ (o : SceneObject). object_named (scene_objects s) o name ≡ Some p → IsSomeAnd (row_of o.kind name) (λ row. Takes row p.kind)) of.1.1
      (λ found. named_by s of.0 name p (value_named name of.0.committed) (sound_at s h of.0 all of.1.0) refl found) found;
  array = λ h o b there is.
      let of : (q : Object) × ((state_object s h ≡ Some q) × (scene_object q ≡ o)) = state_has s h o there in
      subst (λ (o : SceneObject). o.block ≡ Some b → o.kind ≡ Array b.elem) of.1.1
      (λ is. array_by s of.0 b of.0.array (sound_at s h of.0 all of.1.0).array is) is;
}
