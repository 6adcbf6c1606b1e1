-- The last render of a world, and what the world shows since.
use Rattle.std.proofs.Common.{ℕ, zero, suc, ◌+◌, ◌-◌, ◌==◌, ◌≡◌, ◌<◌, ◌≤◌, ◌⊎◌, inl, inr, ◌∙◌, Bool, true, false, List, [], ◌∷◌, ◌++◌, All, Option, Some, None, length, drop, take, get_or, codes, refl, sym, ap, subst, arith}
use Rattle.std.specs.Prelude.{cond, nat_lt, slice_get, ◌&&◌, ◌||◌, IsSomeAnd, MatchOption}
use Rattle.std.specs.List.{filter, last_or, list_any, range_with_len}
use Rattle.std.specs.Option.{is_some, option_and_then, option_map, option_map_or}
use Rattle.std.proofs.lemmas.Bool.{cases_lt, eqb-true}
use Rattle.std.proofs.lemmas.Bool.Decides.{nat_tests}
use Rattle.std.proofs.lemmas.List.{get_or-drop, length-drop, take-append-drop}
use Rattle.std.proofs.lemmas.List.Elements.{All-from_get_or}
use Rattle.std.proofs.lemmas.Option.{slice_get-get_or}
use Rattle.dev_types.specs.declared.values.Value.{Value}
use Rattle.kind_tables.specs.Rows.{row_of}
use Rattle.kind_tables.specs.SceneObjects.{object_in, value_named}
use Rattle.kind_tables.specs.Typed.{Takes}
use Rattle.kind_tables.specs.Walks.{visited, walk}
use Rattle.past_laws.proofs.Typed.{sound_at, value_is}
use Rattle.past_laws.specs.Worlds.{Use, last_use, use_at, world_of}
use Rattle.seq_model.proofs.Afters.{frame_within}
use Rattle.seq_model.proofs.Prefixes.{prefix_is_legal}
use Rattle.seq_model.proofs.SoundHistories.{legal_is_sound}
use Rattle.seq_model.specs.Builds.{is_render_of, is_touched, is_touching, last_render, reach_of_world, world_at}
use Rattle.seq_model.specs.Histories.{History, before, entry_at, frame_at, rendered}
use Rattle.seq_model.specs.Legal.{Legal}
use Rattle.seq_model.specs.Pictures.{state_before}
use Rattle.seq_model.specs.Soundness.{AllSound, Fits, NamesFitting}
use Rattle.seq_model.specs.State.{Object, State, object_at, scene_objects}
use Rattle.seq_model.specs.Steps.{after}
use Rattle.seq_model.specs.declared.calls.Call.TheVariants.{Commit, UnmapArray}
use Rattle.seq_model.specs.declared.calls.Entry.{Entry}
use Rattle.seq_model.specs.declared.calls.Entry.TheVariants.{Called, Closed}
use Rattle.seq_model.specs.declared.calls.Reply.TheVariants as reply
use Rattle.world_laws.proofs.Reaches.{world_stays}
use Rattle.world_laws.specs.Alike.{ShowsAsBefore}

-- the world of a frame is there
pub world_there : (s : State) (f w : ℕ) → AllSound s → world_of s f ≡ Some w → (q : Object) × (object_at s w ≡ Some q)
world_there s f w sound = by (object_at s f) refl
  where
    found : (x : Option Object) (P : Object → Type 0) → IsSomeAnd x P → (q : Object) × (x ≡ Some q)
    found None P is = absurd is
    found (Some q) P is = (q, refl)

    of : (o : Object) → object_at s f ≡ Some o → (v : Option Value) → value_named (codes "world") o.committed ≡ v → option_and_then object_in v ≡ Some w → (q : Object) × (object_at s w ≡ Some q)
    of o there None none is = absurd cc
    of o there (Some v) some is =
        let fits : Fits s o.kind (codes "world") v = value_is (λ name v. Fits s o.kind name v) (codes "world") o.committed v (sound_at s f o sound there).committed some in
        let named : NamesFitting s o.kind (codes "world") w = subst (λ x. MatchOption x (Unit {0}) (NamesFitting s o.kind (codes "world"))) is fits.named in
        found (object_at s w) (λ p. IsSomeAnd (row_of o.kind (codes "world")) (λ row. Takes row p.kind)) named

    by : (x : Option Object) → object_at s f ≡ x → option_and_then object_in (option_and_then (λ (o : Object). value_named (codes "world") o.committed) x) ≡ Some w → (q : Object) × (object_at s w ≡ Some q)
    by None none is = absurd cc
    by (Some o) there is = of o there (value_named (codes "world") o.committed) refl is

-- what stands before a place is a first part of a history
pub split_at : (history : History) (p : ℕ) → (rest : History) × (before history p ++ rest ≡ history)
split_at history zero = (history, refl)
split_at history (suc i) = (drop i history, take-append-drop i history)

-- a render that is the last one is one
pub last_passes : (f : ℕ → Bool) (xs : List ℕ) (o : Option ℕ) (p : ℕ) → ((q : ℕ) → o ≡ Some q → f q ≡ true) → last_or o (filter f xs) ≡ Some p → f p ≡ true
last_passes f [] o p here found = here p found
last_passes f (x ∷ xs) o p here found = by (f x) refl found (last_passes f xs o p here) (λ is. last_passes f xs (Some x) p (λ q same. (let one : x ≡ q = cc in sym (ap f one) ∙ is)))
  where
    by : (b : Bool) → f x ≡ b → last_or o (cond b (x ∷ filter f xs) (filter f xs)) ≡ Some p → (last_or o (filter f xs) ≡ Some p → f p ≡ true) →
        (f x ≡ true → last_or (Some x) (filter f xs) ≡ Some p → f p ≡ true) → f p ≡ true
    by true is found out taken = taken is found
    by false is found out taken = out found

pub world_of_render : (history : History) (w p : ℕ) → is_render_of history w p ≡ true → world_at history p ≡ Some w
world_of_render history w p is = by (world_at history p) refl is
  where
    by : (x : Option ℕ) → world_at history p ≡ x → option_map_or (λ v. v == w) x false ≡ true → world_at history p ≡ Some w
    by None none is = absurd cc
    by (Some v) some is = some ∙ ap Some (eqb-true v w is)

pub frame_of_world : (history : History) (p w : ℕ) → world_at history p ≡ Some w → (f : ℕ) × ((frame_at history p ≡ Some f) × (world_of (state_before history p) f ≡ Some w))
frame_of_world history p w = by (frame_at history p) refl
  where
    by : (x : Option ℕ) → frame_at history p ≡ x →
        option_and_then object_in (option_and_then (λ (o : Object). value_named (codes "world") o.committed) (option_and_then (object_at (state_before history p)) x)) ≡ Some w →
        (f : ℕ) × ((frame_at history p ≡ Some f) × (world_of (state_before history p) f ≡ Some w))
    by None none is = absurd cc
    by (Some f) some is = (f, (some, is))

-- a render touches nothing
pub render_touches_nothing : (reach : List ℕ) (e : Entry) (f : ℕ) → rendered e ≡ Some f → is_touching reach e ≡ false
render_touches_nothing reach (Called actor (Commit h) reply.Done) f is = absurd cc
render_touches_nothing reach (Called actor (UnmapArray h number bytes) reply.Done) f is = absurd cc
render_touches_nothing reach e f is = refl

-- where a test of numbers in a row fails, it fails at each
none_passes : (f : ℕ → Bool) (a n q : ℕ) → list_any f (range_with_len a n) ≡ false → a ≤ q → q < a + n → f q ≡ false
none_passes f a zero q none least less = absurd (omega (arith, least, less))
none_passes f a (suc n) q none least less = by (f a) refl none (cases_lt a q) (λ none above. none_passes f (a + 1) n q none (omega (arith, above)) (omega (arith, less)))
  where
    by : (b : Bool) → f a ≡ b → (b || list_any f (range_with_len (a + 1) n)) ≡ false → (a < q) ⊎ (q ≤ a) → (list_any f (range_with_len (a + 1) n) ≡ false → a < q → f q ≡ false) → f q ≡ false
    by true is none order rest = absurd cc
    by false is none (inl above) rest = rest none above
    by false is none (inr here) rest = let same : a ≡ q = omega (arith, least, here) in ap f (sym same) ∙ is

-- what comes behind the render at place suc i
untouched_since : (history : History) (w i f : ℕ) → frame_at history (suc i) ≡ Some f → is_touched history w (suc i) (length history + 1) ≡ false →
    All (λ e. is_touching (reach_of_world history (suc i) w) e ≡ false) (drop i history)
unfolding frame_at
untouched_since history w i f renders none =
    All-from_get_or (λ e. is_touching (reach_of_world history (suc i) w) e ≡ false) (drop i history) Closed
    (λ j less. ap (is_touching (reach_of_world history (suc i) w)) (get_or-drop i history j Closed) ∙ by j (omega (arith, less, length-drop i history)))
  where
    by : (j : ℕ) → i + j < length history → is_touching (reach_of_world history (suc i) w) (get_or history (i + j) Closed) ≡ false
    by zero less =
        let here : i + 0 ≡ i = omega arith in
        let within : i < length history = omega (arith, less) in
        let is : rendered (get_or history i Closed) ≡ Some f = sym (ap (option_and_then rendered) (slice_get-get_or history i Closed within)) ∙ renders in
        ap (λ k. is_touching (reach_of_world history (suc i) w) (get_or history k Closed)) here ∙ render_touches_nothing (reach_of_world history (suc i) w) (get_or history i Closed) f is
    by (suc j) less =
        let later : nat_lt (suc i) (suc (i + suc j)) ≡ true = grind (arith, nat_tests) in
        let test : (nat_lt (suc i) (suc (i + suc j)) && option_map_or (is_touching (reach_of_world history (suc i) w)) (slice_get history (i + suc j)) false) ≡ false =
        none_passes (λ q. nat_lt (suc i) q && option_map_or (is_touching (reach_of_world history (suc i) w)) (entry_at history q) false) 1 (length history + 1 - 1) (suc (i + suc j)) none
        (omega arith) (omega (arith, less)) in
        sym (ap (λ x. option_map_or (is_touching (reach_of_world history (suc i) w)) x false) (slice_get-get_or history (i + suc j) Closed less))
        ∙ sym (ap (λ b. b && option_map_or (is_touching (reach_of_world history (suc i) w)) (slice_get history (i + suc j)) false) later) ∙ test

pub shows_last_render : (history : History) (w p : ℕ) → Legal history → last_render history w (length history + 1) ≡ Some p → is_touched history w p (length history + 1) ≡ false →
    is_some (object_at (after history).state w) ≡ true → ShowsAsBefore (scene_objects (state_before history p)) (scene_objects (after history).state) w
unfolding state_before
shows_last_render history w p legal last none there =
    let is : is_render_of history w p ≡ true = last_passes (is_render_of history w) (range_with_len 1 (length history + 1 - 1)) None p (λ q never. absurd cc) last in
    let frame : (f : ℕ) × ((frame_at history p ≡ Some f) × (world_of (state_before history p) f ≡ Some w)) = frame_of_world history p w (world_of_render history w p is) in
    by p frame.0 frame.1.0 frame.1.1 none
  where
    by : (p f : ℕ) → frame_at history p ≡ Some f → world_of (after (before history p)).state f ≡ Some w → is_touched history w p (length history + 1) ≡ false →
        ShowsAsBefore (scene_objects (after (before history p)).state) (scene_objects (after history).state) w
    by zero f renders world none = absurd (let within : (0 < 0) × (0 ≤ length history) = frame_within history 0 f renders in omega (arith, within.0))
    by (suc i) f renders world none =
        let parts : take i history ++ drop i history ≡ history = take-append-drop i history in
        let first : Legal (take i history) = prefix_is_legal (take i history) (drop i history) (subst Legal (sym parts) legal) in
        let was : (q : Object) × (object_at (after (take i history)).state w ≡ Some q) = world_there (after (take i history)).state f w (legal_is_sound (take i history) first) world in
        subst (λ h. ShowsAsBefore (scene_objects (after (take i history)).state) (scene_objects (after h).state) w) parts
        (world_stays (take i history) (drop i history) w (subst Legal (sym parts) legal) (untouched_since history w i f renders none) (ap is_some was.1)
        (subst (λ h. is_some (object_at (after h).state w) ≡ true) (sym parts) there))

pub reaches_as_last : (history : History) (w : ℕ) (u : Use) → Legal history → last_use history w ≡ Some u → u.touched ≡ false → is_some (object_at (after history).state w) ≡ true →
    visited (walk (scene_objects (after history).state) w) ≡ u.reach
reaches_as_last history w u legal last none there = by (last_render history w (length history + 1)) refl last
  where
    by : (x : Option ℕ) → last_render history w (length history + 1) ≡ x → option_map (use_at history w) x ≡ Some u → visited (walk (scene_objects (after history).state) w) ≡ u.reach
    by None never is = absurd cc
    by (Some p) rendered is =
        let same : use_at history w p ≡ u = cc in
        (shows_last_render history w p legal rendered (ap (λ (u : Use). u.touched) same ∙ none) there).reach ∙ ap (λ (u : Use). u.reach) same
