-- What a world reaches stays, as long as nobody touches it and the world is there.
use Rattle.std.proofs.Common.{ℕ, ◌==◌, ◌≡◌, ◌<◌, ◌∙◌, ◌⊎◌, inl, inr, Bool, true, false, List, [], ◌∷◌, ◌++◌, All, Option, Some, None, map, refl, sym, ap, subst}
use Rattle.std.specs.Prelude.{◌||◌, IsSomeAnd, MatchOption}
use Rattle.std.specs.List.{filter_map, flat_map}
use Rattle.std.specs.Option.{is_some, option_and_then, option_map, option_map_or}
use Rattle.std.proofs.lemmas.Bool.{eq-eqb, eqb-true, or_cases, or_left, or_right}
use Rattle.std.proofs.lemmas.List.Elements.{All-append, All-cons, All-head, All-map, All-nil, All-tail}
use Rattle.dev_types.specs.declared.values.Value.{Value}
use Rattle.kind_tables.proofs.WalkLaws.{each, first_part, second_part, unmapped, visits_are_objects}
use Rattle.kind_tables.proofs.Walked.{HoldsBelow, all_hold_below}
use Rattle.kind_tables.specs.Kinds.{type_of_kind}
use Rattle.kind_tables.specs.Rows.{row_of, rows_of}
use Rattle.kind_tables.specs.SceneObjects.{SceneObject, SceneObjects, object_at as scene_object_at, object_in, objects_in, value_named}
use Rattle.kind_tables.specs.Typed.{Takes}
use Rattle.kind_tables.specs.WalkRanks.{AreRanked, names_of as scene_names}
use Rattle.kind_tables.specs.Walks.{Spot, Visit, at_element, at_origin, at_parameters_of, below, named_elements, named_parameters, visit, visited, walk, walk_from}
use Rattle.kind_tables.specs.declared.rows.Row.{Row}
use Rattle.past_laws.proofs.Typed.{sound_at, state_has, value_is}
use Rattle.past_laws.specs.Stills.{AreStill, unmarked}
use Rattle.seq_model.proofs.Handles.{rises}
use Rattle.seq_model.proofs.Keys.{at_map, at_within}
use Rattle.seq_model.proofs.Lower.{scenes_are_ranked}
use Rattle.seq_model.proofs.Prefixes.{prefix_is_legal}
use Rattle.seq_model.proofs.SoundHistories.{legal_is_sound}
use Rattle.seq_model.specs.Builds.{is_touching}
use Rattle.seq_model.specs.Histories.{History}
use Rattle.seq_model.specs.Legal.{Legal}
use Rattle.seq_model.specs.Life.{has}
use Rattle.seq_model.specs.Soundness.{AllSound, ArrayFits, Fits, IsSound, NamesFitting}
use Rattle.seq_model.specs.State.{ArrayState, Object, State, object_at, scene_object, scene_objects}
use Rattle.seq_model.specs.Steps.{after}
use Rattle.seq_model.specs.declared.calls.Call.TheVariants.{Commit, UnmapArray}
use Rattle.seq_model.specs.declared.calls.Entry.{Entry}
use Rattle.seq_model.specs.declared.calls.Entry.TheVariants.{Called}
use Rattle.seq_model.specs.declared.calls.Reply.TheVariants as reply
use Rattle.world_laws.proofs.Shows.{shows_as_before}
use Rattle.world_laws.proofs.Untouched.{untouched_stay}
use Rattle.world_laws.specs.Alike.{IsAsBefore, ShowsAsBefore}

-- an object is there
abbrev IsThere : SceneObjects → ℕ → Type 0
IsThere objects k = is_some (scene_object_at objects k) ≡ true

there_in : (s : State) (k : ℕ) (P : Object → Type 0) → IsSomeAnd (object_at s k) P → IsThere (scene_objects s) k
there_in s k P is = ap is_some (at_map scene_object k s.objects) ∙ of (object_at s k) is
  where
    of : (x : Option Object) → IsSomeAnd x P → is_some (option_map scene_object x) ≡ true
    of None is = absurd is
    of (Some o) is = refl

-- what an object of a sound state names is there
all_chosen : {X : Type 0} (P : ℕ → Type 0) (f : X → Option ℕ) (xs : List X) → ((x : X) (k : ℕ) → f x ≡ Some k → P k) → All P (filter_map f xs)
all_chosen P f [] holds = All-nil P
all_chosen P f (x ∷ xs) holds = by (f x) refl (all_chosen P f xs holds)
  where
    by : (y : Option ℕ) → f x ≡ y → All P (filter_map f xs) → All P (filter_map f (x ∷ xs))
    by None is rest = rw is rest
    by (Some k) is rest = rw is (All-cons P k (filter_map f xs) (holds x k is) rest)

named_is_there : (s : State) (o : Object) (name : List ℕ) (k : ℕ) → IsSound s o → option_and_then object_in (value_named name o.committed) ≡ Some k → IsThere (scene_objects s) k
named_is_there s o name k sound = by (value_named name o.committed) refl
  where
    by : (v : Option Value) → value_named name o.committed ≡ v → option_and_then object_in v ≡ Some k → IsThere (scene_objects s) k
    by None none is = absurd cc
    by (Some v) some is =
        let fits : Fits s o.kind name v = value_is (λ name v. Fits s o.kind name v) name o.committed v sound.committed some in
        there_in s k (λ p. IsSomeAnd (row_of o.kind name) (λ row. Takes row p.kind)) (subst (λ x. MatchOption x (Unit {0}) (NamesFitting s o.kind name)) is fits.named)

elements_are_there : (s : State) (o : Object) → IsSound s o → All (IsThere (scene_objects s)) (map (λ (named : ℕ × ℕ). named.1) (named_elements (scene_object o)))
elements_are_there s o sound = by o.array refl sound.array
  where
    by : (a : Option ArrayState) → o.array ≡ a → ArrayFits s o.kind o.array → All (IsThere (scene_objects s)) (map (λ (named : ℕ × ℕ). named.1) (option_map_or objects_in (option_map (λ (a : ArrayState). a.block) o.array) []))
    by None none fits = rw none (All-nil (IsThere (scene_objects s)))
    by (Some a) some fits =
        let all : ArrayFits s o.kind (Some a) = subst (ArrayFits s o.kind) some fits in
        rw some (All-map (IsThere (scene_objects s)) (λ (named : ℕ × ℕ). named.1) (objects_in a.block)
        (each (λ (named : ℕ × ℕ). IsSomeAnd (object_at s named.1) (λ o. type_of_kind o.kind ≡ a.block.elem)) (λ (named : ℕ × ℕ). IsThere (scene_objects s) named.1) (objects_in a.block)
        (λ named is. there_in s named.1 (λ o. type_of_kind o.kind ≡ a.block.elem) is) all.2))

names_are_there : (s : State) (o : Object) → IsSound s o → All (IsThere (scene_objects s)) (scene_names (scene_object o))
names_are_there s o sound =
    All-append (IsThere (scene_objects s)) (map (λ (named : ℕ × ℕ). named.1) (named_elements (scene_object o))) (named_parameters (scene_object o)) (elements_are_there s o sound)
    (all_chosen (IsThere (scene_objects s)) (λ (row : List ℕ × Row). option_and_then object_in (value_named row.0 o.committed)) (rows_of o.kind) (λ row k is. named_is_there s o row.0 k sound is))

-- what stands below an object are the objects that it names, wherever it stands
below_of_names : (P : ℕ → Type 0) (spot : Spot) (o : SceneObject) → All P (scene_names o) → All (λ next. P next.1) (below spot o)
unfolding below
below_of_names P spot o all =
    All-append (λ (next : Spot × ℕ). P next.1) (map (λ (named : ℕ × ℕ). (at_element o.kind spot named.0, named.1)) (named_elements o)) (map (λ (h : ℕ). (at_parameters_of o.kind o spot, h)) (named_parameters o))
    (All-map (λ (next : Spot × ℕ). P next.1) (λ (named : ℕ × ℕ). (at_element o.kind spot named.0, named.1)) (named_elements o)
    (unmapped P (λ (named : ℕ × ℕ). named.1) (named_elements o) (first_part P (map (λ (named : ℕ × ℕ). named.1) (named_elements o)) (named_parameters o) all)))
    (All-map (λ (next : Spot × ℕ). P next.1) (λ (h : ℕ). (at_parameters_of o.kind o spot, h)) (named_parameters o)
    (second_part P (map (λ (named : ℕ × ℕ). named.1) (named_elements o)) (named_parameters o) all))

names_of_below : (P : ℕ → Type 0) (spot : Spot) (o : SceneObject) → All (λ next. P next.1) (below spot o) → All P (scene_names o)
unfolding below
names_of_below P spot o all =
    All-append P (map (λ (named : ℕ × ℕ). named.1) (named_elements o)) (named_parameters o)
    (All-map P (λ (named : ℕ × ℕ). named.1) (named_elements o)
    (unmapped (λ (next : Spot × ℕ). P next.1) (λ (named : ℕ × ℕ). (at_element o.kind spot named.0, named.1)) (named_elements o)
    (first_part (λ (next : Spot × ℕ). P next.1) (map (λ (named : ℕ × ℕ). (at_element o.kind spot named.0, named.1)) (named_elements o)) (map (λ (h : ℕ). (at_parameters_of o.kind o spot, h)) (named_parameters o)) all)))
    (unmapped (λ (next : Spot × ℕ). P next.1) (λ (h : ℕ). (at_parameters_of o.kind o spot, h)) (named_parameters o)
    (second_part (λ (next : Spot × ℕ). P next.1) (map (λ (named : ℕ × ℕ). (at_element o.kind spot named.0, named.1)) (named_elements o)) (map (λ (h : ℕ). (at_parameters_of o.kind o spot, h)) (named_parameters o)) all))

both : {X : Type 0} (P Q : X → Type 0) (xs : List X) → All P xs → All Q xs → All (λ x. P x × Q x) xs
both P Q [] first second = All-nil (λ x. P x × Q x)
both P Q (x ∷ xs) first second = All-cons (λ x. P x × Q x) x xs (All-head P x xs first, All-head Q x xs second) (both P Q xs (All-tail P x xs first) (All-tail Q x xs second))

-- a handle that was visited is that of a visit
visit_of : (P : Visit → Type 0) (k : ℕ) (vs : List Visit) → has k (visited vs) ≡ true → All P vs → (v : Visit) × ((v.handle ≡ k) × P v)
visit_of P k [] is all = absurd cc
visit_of P k (v ∷ vs) is all = by (or_cases (v.handle == k) (has k (visited vs)) is) (λ later. visit_of P k vs later (All-tail P v vs all))
  where
    by : ((v.handle == k) ≡ true) ⊎ (has k (visited vs) ≡ true) → (has k (visited vs) ≡ true → (v : Visit) × ((v.handle ≡ k) × P v)) → (v : Visit) × ((v.handle ≡ k) × P v)
    by (inl here) rest = (v, (eqb-true v.handle k here, All-head P v vs all))
    by (inr later) rest = rest later

visits_are_had : (vs : List Visit) → All (λ v. has v.handle (visited vs) ≡ true) vs
visits_are_had [] = All-nil (λ v. has v.handle [] ≡ true)
visits_are_had (v ∷ vs) =
    All-cons (λ w. has w.handle (visited (v ∷ vs)) ≡ true) v vs (ap (λ b. b || has v.handle (visited vs)) (eq-eqb v.handle v.handle refl))
    (each (λ w. has w.handle (visited vs) ≡ true) (λ w. has w.handle (visited (v ∷ vs)) ≡ true) vs (λ w is. or_right (v.handle == w.handle) (has w.handle (visited vs)) is) (visits_are_had vs))

other : (k h : ℕ) (reach : List ℕ) → has k reach ≡ true → has h reach ≡ false → ((k == h) || false) ≡ false
other k h reach in_reach apart = by (k == h) refl
  where
    by : (b : Bool) → (k == h) ≡ b → (b || false) ≡ false
    by false is = refl
    by true is =
        let same : k ≡ h = eqb-true k h is in
        let wrong : true ≡ false = sym in_reach ∙ ap (λ j. has j reach) same ∙ apart in absurd cc

-- what a touch of a list says of one that it has
not_touched : (k : ℕ) (reach : List ℕ) (e : Entry) → has k reach ≡ true → is_touching reach e ≡ false → is_touching (k ∷ []) e ≡ false
not_touched k reach (Called _ (Commit h) reply.Done) in_reach apart = other k h reach in_reach apart
not_touched k reach (Called _ (UnmapArray h number bytes) reply.Done) in_reach apart = other k h reach in_reach apart
not_touched k reach e in_reach apart = refl

module _ (s t : State) (w : ℕ) (sound : AllSound s) (later : AllSound t) (ranked : AreRanked (scene_objects s))
    (stays : (k : ℕ) → has k (visited (walk (scene_objects s) w)) ≡ true → IsAsBefore (scene_object_at (scene_objects s) k) (scene_object_at (scene_objects t) k)) where
  abbrev reach : List ℕ
  reach = visited (walk (scene_objects s) w)

  -- reached, and still there
  abbrev IsHeld : ℕ → Type 0
  IsHeld k = (has k reach ≡ true) × IsThere (scene_objects t) k

  same_held : (k : ℕ) → IsHeld k → option_map unmarked (scene_object_at (scene_objects t) k) ≡ option_map unmarked (scene_object_at (scene_objects s) k)
  same_held k is = by (scene_object_at (scene_objects s) k) (scene_object_at (scene_objects t) k) is.1 (stays k is.0)
    where
      by : (x y : Option SceneObject) → is_some y ≡ true → IsAsBefore x y → option_map unmarked y ≡ option_map unmarked x
      by x None there same = absurd cc
      by None (Some o) there same = absurd same
      by (Some p) (Some o) there same = ap Some same

  -- what a reached object names is reached
  names_reached : (k : ℕ) (o : SceneObject) → has k reach ≡ true → scene_object_at (scene_objects s) k ≡ Some o → All (λ h. has h reach ≡ true) (scene_names o)
  names_reached k o is there =
      let found : (v : Visit) × ((v.handle ≡ k) × ((scene_object_at (scene_objects s) v.handle ≡ Some v.object) × HoldsBelow (λ v. has v.handle reach ≡ true) (scene_objects s) v)) =
      visit_of (λ v. (scene_object_at (scene_objects s) v.handle ≡ Some v.object) × HoldsBelow (λ v. has v.handle reach ≡ true) (scene_objects s) v) k (walk (scene_objects s) w) is
      (both (λ v. scene_object_at (scene_objects s) v.handle ≡ Some v.object) (HoldsBelow (λ v. has v.handle reach ≡ true) (scene_objects s)) (walk (scene_objects s) w)
      (visits_are_objects (scene_objects s) w) (all_hold_below (λ v. has v.handle reach ≡ true) (scene_objects s) w ranked (visits_are_had (walk (scene_objects s) w)))) in
      let same : Some found.0.object ≡ Some o = sym found.1.1.0 ∙ ap (scene_object_at (scene_objects s)) found.1.0 ∙ there in
      let one : found.0.object ≡ o = cc in
      let at_state : (q : Object) × ((object_at s k ≡ Some q) × (scene_object q ≡ o)) = state_has s k o there in
      let named : All (IsThere (scene_objects s)) (scene_names o) =
      subst (λ o. All (IsThere (scene_objects s)) (scene_names o)) at_state.1.1 (names_are_there s at_state.0 (sound_at s k at_state.0 sound at_state.1.0)) in
      let visits : All (λ next. (p : SceneObject) → scene_object_at (scene_objects s) next.1 ≡ Some p → has next.1 reach ≡ true) (below found.0.spot o) =
      subst (λ o. All (λ next. (p : SceneObject) → scene_object_at (scene_objects s) next.1 ≡ Some p → has next.1 reach ≡ true) (below found.0.spot o)) one found.1.1.1 in
      each (λ h. ((p : SceneObject) → scene_object_at (scene_objects s) h ≡ Some p → has h reach ≡ true) × IsThere (scene_objects s) h) (λ h. has h reach ≡ true) (scene_names o)
      (λ h is. of h (scene_object_at (scene_objects s) h) refl is.0 is.1)
      (both (λ h. (p : SceneObject) → scene_object_at (scene_objects s) h ≡ Some p → has h reach ≡ true) (IsThere (scene_objects s)) (scene_names o)
      (names_of_below (λ h. (p : SceneObject) → scene_object_at (scene_objects s) h ≡ Some p → has h reach ≡ true) found.0.spot o visits) named)
    where
      of : (h : ℕ) (x : Option SceneObject) → scene_object_at (scene_objects s) h ≡ x → ((p : SceneObject) → scene_object_at (scene_objects s) h ≡ Some p → has h reach ≡ true) →
          is_some (scene_object_at (scene_objects s) h) ≡ true → has h reach ≡ true
      of h None none reached there = let wrong : false ≡ true = sym (ap is_some none) ∙ there in absurd cc
      of h (Some p) some reached there = reached p some

  -- and still there
  names_held : (k : ℕ) (o : SceneObject) → IsHeld k → scene_object_at (scene_objects s) k ≡ Some o → All (IsThere (scene_objects t)) (scene_names o)
  names_held k o is there = by (scene_object_at (scene_objects t) k) refl (same_held k is)
    where
      by : (y : Option SceneObject) → scene_object_at (scene_objects t) k ≡ y → option_map unmarked (scene_object_at (scene_objects t) k) ≡ option_map unmarked (scene_object_at (scene_objects s) k) →
          All (IsThere (scene_objects t)) (scene_names o)
      by None none same = let wrong : None ≡ Some (unmarked o) = sym (ap (option_map unmarked) none) ∙ same ∙ ap (option_map unmarked) there in absurd cc
      by (Some p) some same =
          let both_are : Some (unmarked p) ≡ Some (unmarked o) = sym (ap (option_map unmarked) some) ∙ same ∙ ap (option_map unmarked) there in
          let one : unmarked p ≡ unmarked o = cc in
          let at_state : (q : Object) × ((object_at t k ≡ Some q) × (scene_object q ≡ p)) = state_has t k p some in
          let named : All (IsThere (scene_objects t)) (scene_names p) =
          subst (λ o. All (IsThere (scene_objects t)) (scene_names o)) at_state.1.1 (names_are_there t at_state.0 (sound_at t k at_state.0 later at_state.1.0)) in
          subst (λ names. All (IsThere (scene_objects t)) names) (ap scene_names one) named

  held_is_still : AreStill IsHeld (scene_objects s) (scene_objects t)
  held_is_still = record {
    same = same_held;
    closed = λ k o spot is there.
        below_of_names IsHeld spot o
        (both (λ h. has h reach ≡ true) (IsThere (scene_objects t)) (scene_names o) (names_reached k o is.0 there) (names_held k o is there));
  }

  pub reached_stays : has w reach ≡ true → IsThere (scene_objects t) w → ShowsAsBefore (scene_objects s) (scene_objects t) w
  reached_stays starts there = shows_as_before IsHeld (scene_objects s) (scene_objects t) held_is_still w (starts, there)

-- a walk visits what it starts from
starts_with : (objects : SceneObjects) (w : ℕ) → IsThere objects w → has w (visited (walk objects w)) ≡ true
unfolding walk walk_from
starts_with objects w there = by (scene_object_at objects w) there
  where
    by : (x : Option SceneObject) → is_some x ≡ true →
        has w (visited (option_map_or (λ o. visit (at_origin, w) o ∷ flat_map (walk_from 9 objects) (below at_origin o)) x [])) ≡ true
    by None is = absurd cc
    by (Some o) is = or_left (w == w) (has w (visited (flat_map (walk_from 9 objects) (below at_origin o)))) (eq-eqb w w refl)

scene_has : (s : State) (w : ℕ) → is_some (object_at s w) ≡ true → IsThere (scene_objects s) w
scene_has s w there = ap is_some (at_map scene_object w s.objects) ∙ of (object_at s w) there
  where
    of : (x : Option Object) → is_some x ≡ true → is_some (option_map scene_object x) ≡ true
    of None is = absurd cc
    of (Some o) is = refl

-- what is reached is there
pub reached_is_there : (s : State) (w k : ℕ) → has k (visited (walk (scene_objects s) w)) ≡ true → (o : Object) × (object_at s k ≡ Some o)
reached_is_there s w k is =
    let found : (v : Visit) × ((v.handle ≡ k) × (scene_object_at (scene_objects s) v.handle ≡ Some v.object)) =
    visit_of (λ v. scene_object_at (scene_objects s) v.handle ≡ Some v.object) k (walk (scene_objects s) w) is (visits_are_objects (scene_objects s) w) in
    let there : (q : Object) × ((object_at s k ≡ Some q) × (scene_object q ≡ found.0.object)) = state_has s k found.0.object (ap (scene_object_at (scene_objects s)) (sym found.1.0) ∙ found.1.1) in
    (there.0, there.1.0)

reached_is_used : (history : History) (w k : ℕ) → has k (visited (walk (scene_objects (after history).state) w)) ≡ true → k < (after history).state.next
reached_is_used history w k is =
    let there : (o : Object) × (object_at (after history).state k ≡ Some o) = reached_is_there (after history).state w k is in
    (at_within k 1 (after history).state.next (after history).state.objects there.0 (rises history) there.1).1

pub world_stays : (history further : History) (w : ℕ) → Legal (history ++ further) → All (λ e. is_touching (visited (walk (scene_objects (after history).state) w)) e ≡ false) further →
    is_some (object_at (after history).state w) ≡ true → is_some (object_at (after (history ++ further)).state w) ≡ true →
    ShowsAsBefore (scene_objects (after history).state) (scene_objects (after (history ++ further)).state) w
world_stays history further w legal untouched was there =
    let first : Legal history = prefix_is_legal history further legal in
    reached_stays (after history).state (after (history ++ further)).state w (legal_is_sound history first) (legal_is_sound (history ++ further) legal) (scenes_are_ranked history first)
    (λ k is. untouched_stay history further k (reached_is_used history w k is)
    (each (λ e. is_touching (visited (walk (scene_objects (after history).state) w)) e ≡ false) (λ e. is_touching (k ∷ []) e ≡ false) further
    (λ e apart. not_touched k (visited (walk (scene_objects (after history).state) w)) e is apart) untouched))
    (starts_with (scene_objects (after history).state) w (scene_has (after history).state w was)) (scene_has (after (history ++ further)).state w there)
