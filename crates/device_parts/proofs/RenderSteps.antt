-- What a render makes of what a device keeps: of its worlds, of its builds, and of what is kept with its flight.
use Rattle.std.specs.Prelude.{slice_index_or}
use Rattle.frame_future.specs.Flights.{Flying}
use Rattle.std.proofs.Common.{◌≡◌, ◌∙◌, ℕ, ◌+◌, ◌==◌, ◌<◌, Bool, true, false, List, [], ◌∷◌, ◌++◌, Option, Some, None, length, length-append, refl, sym, ap, subst, arith, zero, suc}
use Rattle.std.specs.Prelude.{Err, IfSome, IsSome, IsSomeAnd, Ok, OnOk, Result, codes, cond}
use Rattle.std.specs.Option.{MatchOption, is_none, is_some, option_and_then, option_map, option_map_or, option_or, unwrap_or}
use Rattle.dev_types.specs.Counting.{times}
use Rattle.dev_types.specs.declared.data_types.DataType.TheVariants as ty
use Rattle.dev_types.specs.declared.refusals.Refused.{Refused}
use Rattle.dev_types.specs.declared.values.Value.{Value}
use Rattle.kept_worlds.proofs.LastFacts.{stay_known}
use Rattle.kept_worlds.proofs.NowFacts.{again_known}
use Rattle.kept_worlds.specs.KeptMaps.{Kept, Worlds, kept_at, reach_at, shown_at}
use Rattle.kept_worlds.specs.LastKept.{AreKept, AreShown, is_there, kept_by}
use Rattle.kind_tables.specs.Kinds.{type_of_kind}
use Rattle.kind_tables.specs.SceneObjects.{SceneObject, object_in, value_named}
use Rattle.kind_tables.specs.Scenes.{scene}
use Rattle.kind_tables.specs.WalkRefusals.{fault_of, first_mapped, walk_refusal}
use Rattle.kind_tables.specs.Walks.{Spot, visited, walk}
use Rattle.kind_tables.specs.declared.kinds.Kind.{Kind}
use Rattle.kind_tables.specs.declared.kinds.Kind.TheVariants.{Array, CameraOrthographic, FrameDefault}
use Rattle.past_laws.proofs.Follows.{one_call_more}
use Rattle.past_laws.proofs.GrantedScenes.{legal_is_fit}
use Rattle.past_laws.specs.Open.{IsOpen}
use Rattle.past_laws.proofs.Typed.{sound_at, value_is}
use Rattle.past_laws.proofs.WorldFacts.{builds_more}
use Rattle.past_laws.specs.Worlds.{Use, last_use, render_of, wants_build as last_wants_build, world_of}
use Rattle.picture_model.specs.Limits.{IsSceneWithin}
use Rattle.scene_read.specs.Starts.{all_seen}
use Rattle.seq_model.proofs.Afters.{frame_last, state_early, state_next}
use Rattle.seq_model.proofs.Granted.{AllNone, all_none}
use Rattle.seq_model.proofs.Keys.{at, at_map}
use Rattle.seq_model.proofs.Reached.{carries, reach_of}
use Rattle.seq_model.proofs.SoundHistories.{legal_is_sound}
use Rattle.seq_model.proofs.SoundSteps.{has_that_type, is_alive, not_wrong}
use Rattle.seq_model.specs.Answers.{IsAnswer, IsLike, answer}
use Rattle.seq_model.specs.Builds.{builds}
use Rattle.seq_model.specs.Histories.{History, frame_at}
use Rattle.seq_model.specs.Legal.{Legal}
use Rattle.seq_model.specs.Life.{has}
use Rattle.seq_model.specs.Pictures.{scene_at, state_before}
use Rattle.seq_model.specs.Refusals.{refusal, refusals_of, refusals_of_render}
use Rattle.seq_model.specs.Soundness.{Fits, NamesFitting}
use Rattle.seq_model.specs.State.{Object, State, object_at, scene_object, scene_objects}
use Rattle.seq_model.specs.Steps.{after, is_reached_by}
use Rattle.seq_model.specs.declared.calls.Call.TheVariants.{RenderFrame}
use Rattle.seq_model.specs.declared.calls.Reply.TheVariants as reply
use Rattle.world_laws.proofs.Reaches.{reached_is_there}
use Rattle.world_laws.specs.Alike.{Shown, shown_of}
use Rattle.world_snapshot.specs.Worlds.{World}
use Rattle.device_parts.specs.AllParts.{IsLoaded, scene_of_load, shown_by}
use Rattle.device_parts.specs.Begins.{without_world, world_of_build}
use Rattle.device_parts.specs.Renders.{HasEachOnce, IsBuildOf, IsGranted, IsWanted, wants_build, world_in}
use Rattle.device_parts.specs.declared.loads.Load.{Load}
use Rattle.device_parts.specs.declared.renders.Build.{Build}

-- the world of a frame, as a scene sees it
pub world_read : (s : State) (f : ℕ) → world_in (scene_objects s) f ≡ world_of s f
world_read s f = ap read (at_map scene_object f s.objects) ∙ by (object_at s f)
  where
    read : Option SceneObject → Option ℕ
    read o = option_and_then object_in (option_and_then (λ o. value_named (codes "world") o.committed) o)

    by : (o : Option Object) → read (option_map scene_object o) ≡ option_and_then object_in (option_and_then (λ o. value_named (codes "world") o.committed) o)
    by None = refl
    by (Some o) = refl

-- it is there
pub world_is_there : (history : History) (f w : ℕ) → Legal history → world_of (after history).state f ≡ Some w → is_there history w ≡ true
world_is_there history f w legal = by (object_at (after history).state f) refl
  where
    named : (v : Option Value) → MatchOption v (Unit {0}) (λ v. MatchOption (object_in v) (Unit {0}) (λ h. IsSome (object_at (after history).state h))) → option_and_then object_in v ≡ Some w → is_some (object_at (after history).state w) ≡ true
    named None there is = absurd cc
    named (Some v) there is = subst (λ x. MatchOption x (Unit {0}) (λ h. IsSome (object_at (after history).state h))) is there

    some : {X : Type 0} (P : X → Type 0) (x : Option X) → IsSomeAnd x P → IsSome x
    some P None is = absurd is
    some P (Some x) is = refl

    all_there : (kind : Kind) (name : List ℕ) (h : Option ℕ) → MatchOption h (Unit {0}) (NamesFitting (after history).state kind name) → MatchOption h (Unit {0}) (λ h. IsSome (object_at (after history).state h))
    all_there kind name None fits = tt
    all_there kind name (Some h) fits = some _ (object_at (after history).state h) fits

    fitting : (o : Object) → object_at (after history).state f ≡ Some o → (v : Option Value) → value_named (codes "world") o.committed ≡ v →
        MatchOption v (Unit {0}) (λ v. MatchOption (object_in v) (Unit {0}) (λ h. IsSome (object_at (after history).state h)))
    fitting o is None none = tt
    fitting o is (Some v) found =
        all_there o.kind (codes "world") (object_in v)
        (value_is (λ name v. Fits (after history).state o.kind name v) (codes "world") o.committed v (sound_at (after history).state f o (legal_is_sound history legal) is).committed found).named

    by : (o : Option Object) → object_at (after history).state f ≡ o → option_and_then object_in (option_and_then (λ o. value_named (codes "world") o.committed) o) ≡ Some w → is_there history w ≡ true
    by None none is = absurd cc
    by (Some o) is names = named (value_named (codes "world") o.committed) (fitting o is (value_named (codes "world") o.committed) refl) names

is_frame : (kind : Kind) → type_of_kind kind ≡ ty.Frame → kind ≡ FrameDefault
is_frame FrameDefault is = refl
is_frame (Array elem) is = absurd cc
is_frame CameraOrthographic is = absurd cc
is_frame _ is = absurd cc

-- a render to which no refusal applies is granted by its walk
pub render_granted : (history : History) (f : ℕ) (visits : List (Spot × ℕ)) → Legal history → refusal (after history) (RenderFrame f) ≡ None →
    all_seen (scene_objects (after history).state) visits ≡ walk (scene_objects (after history).state) f → IsGranted (scene_objects (after history).state) f visits
unfolding refusal refusals_of walk_refusal
render_granted history f visits legal none seen =
    let facts : AllNone (refusals_of_render (after history) f) = all_none (refusals_of_render (after history) f) none in
    let alive : (o : Object) × (object_at (after history).state f ≡ Some o) = is_alive (after history) f facts.0 in
    let type : IsSomeAnd (object_at (after history).state f) (λ o. type_of_kind o.kind ≡ ty.Frame) = has_that_type (after history) f ty.Frame (not_wrong (after history) f ty.Frame facts.1.1.0) in
    let kind : alive.0.kind ≡ FrameDefault = is_frame alive.0.kind (subst (λ x. IsSomeAnd x (λ o. type_of_kind o.kind ≡ ty.Frame)) alive.1 type) in
    record {
      fit = legal_is_fit history legal;
      frame =
          ap (option_map (λ (o : SceneObject). o.kind)) (at_map scene_object f (after history).state.objects ∙ ap (option_map scene_object) alive.1)
          ∙ ap Some kind;
      seen = seen;
      sound = both_none (first_mapped (walk (scene_objects (after history).state) f)) (fault_of (scene_objects (after history).state) (walk (scene_objects (after history).state) f))
          facts.1.1.1.0 facts.1.1.1.1.1.1.0;
    }
  where
    both_none : (a b : Option Refused) → a ≡ None → b ≡ None → option_or a b ≡ None
    both_none None b no_a no_b = no_b
    both_none (Some a) b no_a no_b = absurd cc

-- each object that a render reached, as often as its load has it, is there
pub reach_is_there : (s : State) (f : ℕ) (reach : List ℕ) → HasEachOnce (visited (walk (scene_objects s) f)) reach → (h : ℕ) → 0 < times h reach → IsSome (object_at s h)
reach_is_there s f reach once h some = by (has h (visited (walk (scene_objects s) f))) refl
  where
    by : (b : Bool) → has h (visited (walk (scene_objects s) f)) ≡ b → IsSome (object_at s h)
    by true is = ap is_some (reached_is_there s f h is).1
    by false is =
        let none : times h reach ≡ 0 = once h ∙ ap (λ b. cond b 1 0) is in
        absurd (omega (arith, none, some))

-- the last entry, a render, shows the scene of its frame
last_state : (history : History) (actor f : ℕ) → state_before (history ++ render_of actor f ∷ []) (length history + 1) ≡ (after history).state
last_state history actor f = state_early history (render_of actor f ∷ []) (length history + 1) (omega arith) ∙ state_next history

last_shown : (history : History) (actor f : ℕ) → scene_at (history ++ render_of actor f ∷ []) (length history + 1) ≡ scene (scene_objects (after history).state) f
unfolding scene_at
last_shown history actor f =
    ap (λ s. scene (scene_objects s) (unwrap_or (frame_at (history ++ render_of actor f ∷ []) (length history + 1)) 0)) (last_state history actor f)
    ∙ ap (λ x. scene (scene_objects (after history).state) (unwrap_or x 0)) (frame_last history (render_of actor f))

-- what a render took along is kept with its flight
pub render_loaded : (history : History) (actor f : ℕ) (load : Load) → HasEachOnce (visited (walk (scene_objects (after history).state) f)) load.reach.items →
    scene_of_load load ≡ Some (scene (scene_objects (after history).state) f) → IsSceneWithin (scene (scene_objects (after history).state) f) →
    IsLoaded (history ++ render_of actor f ∷ []) (record { ticket = length history + 1; frame = f; kept = load })
unfolding scene_at is_reached_by
render_loaded history actor f load once shows within = record {
  early = let longer = length-append history (render_of actor f ∷ []) in omega (arith, longer);
  reach = λ h. once h ∙ ap (λ o. cond (has h (unwrap_or o [])) 1 0) (sym reached);
  scene = subst (λ o. IfSome o (λ s. s ≡ scene_at (history ++ render_of actor f ∷ []) (length history + 1))) (sym shows) (sym (last_shown history actor f));
  within = subst IsSceneWithin (sym (last_shown history actor f)) within;
}
  where
    reached : at (length history + 1) (after (history ++ render_of actor f ∷ [])).reached ≡ Some (reach_of (after history).state f)
    reached = (carries (history ++ render_of actor f ∷ [])).right (length history + 1) f (frame_last history (render_of actor f)) ∙ ap (λ s. Some (reach_of s f)) (last_state history actor f)

-- a world is prepared by its next render where it is not kept
wanted : (history : History) (worlds : Worlds World) (w : ℕ) → AreKept (is_there history) history (reach_at worlds) → is_there history w ≡ true → is_none (kept_at worlds w) ≡ last_wants_build (last_use history w)
wanted history worlds w kept there =
    same (kept_at worlds w)
    ∙ ap is_none (kept w ∙ ap (λ t. kept_by t (last_use history w)) there)
    ∙ by (last_use history w)
  where
    same : (x : Option (Kept World)) → is_none x ≡ is_none (option_map (λ k. k.reach) x)
    same None = refl
    same (Some k) = refl

    of_use : (u : Use) (b : Bool) → is_none (cond b None (Some u.reach)) ≡ b
    of_use u true = refl
    of_use u false = refl

    by : (u : Option Use) → is_none (kept_by true u) ≡ last_wants_build u
    by None = refl
    by (Some u) = of_use u u.touched

-- a render is counted as a build where its frame shows a world that is not kept
pub render_counted : (history : History) (actor f : ℕ) (worlds : Worlds World) → Legal history → AreKept (is_there history) history (reach_at worlds) →
    builds (history ++ render_of actor f ∷ []) ≡ builds history + cond (wants_build (scene_objects (after history).state) worlds f) 1 0
render_counted history actor f worlds legal kept =
    builds_more history (render_of actor f)
    ∙ ap (λ b. builds history + cond b 1 0) (sym (ap (λ x. option_map_or (λ w. is_none (kept_at worlds w)) x false) (world_read (after history).state f) ∙ by (world_of (after history).state f) refl))
  where
    by : (x : Option ℕ) → world_of (after history).state f ≡ x → option_map_or (λ w. is_none (kept_at worlds w)) x false ≡ option_map_or (λ w. last_wants_build (last_use history w)) x false
    by None none = refl
    by (Some w) shows = wanted history worlds w kept (world_is_there history f w legal shows)

-- where a render prepares no world, what is kept stays what it is
pub render_keeps : (history : History) (actor f : ℕ) (worlds : Worlds World) → Legal history → wants_build (scene_objects (after history).state) worlds f ≡ false →
    AreKept (is_there history) history (reach_at worlds) → AreKept (is_there history) (history ++ render_of actor f ∷ []) (reach_at worlds)
render_keeps history actor f worlds legal unwanted kept =
    by (world_of (after history).state f) refl (sym (ap (λ x. option_map_or (λ w. is_none (kept_at worlds w)) x false) (world_read (after history).state f)) ∙ unwanted)
  where
    some : (x : Option (Kept World)) → is_none x ≡ false → is_some (option_map (λ k. k.reach) x) ≡ true
    some None is = absurd cc
    some (Some k) is = refl

    by : (x : Option ℕ) → world_of (after history).state f ≡ x → option_map_or (λ w. is_none (kept_at worlds w)) x false ≡ false → AreKept (is_there history) (history ++ render_of actor f ∷ []) (reach_at worlds)
    by None none is = stay_known history (render_of actor f) (is_there history) (reach_at worlds) none (λ objects. refl) kept
    by (Some w) shows is = again_known history actor f w (reach_at worlds) legal shows (some (kept_at worlds w) is) kept

-- where it prepares one, that is kept
module _ (old new : Worlds World) (build : Option Build) (b : Build) (is : build ≡ Some b) where
  pub build_known : ((history : History) (there : ℕ → Bool) (actor f : ℕ) → there b.world ≡ true → world_of (after history).state f ≡ Some b.world →
      b.reach.items ≡ visited (walk (scene_objects (after history).state) b.world) → AreKept there history (reach_at old) → AreKept there (history ++ render_of actor f ∷ []) (reach_at new)) →
      (history : History) (actor f : ℕ) → Legal history → IsWanted (scene_objects (after history).state) old f build → AreKept (is_there history) history (reach_at old) →
      AreKept (is_there history) (history ++ render_of actor f ∷ []) (reach_at new)
  build_known keep history actor f legal wanted kept =
      let of : IsBuildOf (scene_objects (after history).state) f b = subst (λ x. IfSome x (IsBuildOf (scene_objects (after history).state) f)) is wanted.build_is in
      let shows : world_of (after history).state f ≡ Some b.world = sym (world_read (after history).state f) ∙ of.world in
      keep history (is_there history) actor f (world_is_there history f b.world legal shows) shows of.reach kept

  pub build_others : (made : Kept World) → ((w : ℕ) → kept_at new w ≡ cond (b.world == w) (Some made) (kept_at old w)) →
      (w : ℕ) → without_world (world_of_build build) w (kept_at new w) ≡ without_world (world_of_build build) w (kept_at old w)
  build_others made now w =
      ap (λ x. without_world (world_of_build x) w (kept_at new w)) is
      ∙ ap (cond (b.world == w) None) (now w)
      ∙ by (b.world == w)
      ∙ sym (ap (λ x. without_world (world_of_build x) w (kept_at old w)) is)
    where
      by : (t : Bool) → cond t None (cond t (Some made) (kept_at old w)) ≡ cond t None (kept_at old w)
      by true = refl
      by false = refl

  pub build_shown : ((shows : World → Shown) (history : History) → shows b.prepared ≡ shown_of (scene_objects (after history).state) b.world →
      AreShown history (shown_at shows old) → AreShown history (shown_at shows new)) →
      (history : History) (f : ℕ) → IsWanted (scene_objects (after history).state) old f build → AreShown history (shown_at shown_by old) → AreShown history (shown_at shown_by new)
  build_shown keep history f wanted shown =
      let of : IsBuildOf (scene_objects (after history).state) f b = subst (λ x. IfSome x (IsBuildOf (scene_objects (after history).state) f)) is wanted.build_is in
      keep shown_by history of.shown shown

-- where it prepares none, none was wanted
pub no_build : (history : History) (f : ℕ) (worlds : Worlds World) (build : Option Build) → build ≡ None → IsWanted (scene_objects (after history).state) worlds f build →
    wants_build (scene_objects (after history).state) worlds f ≡ false
no_build history f worlds build none wanted = sym wanted.exactly ∙ ap is_some none

-- what holds where a call succeeded
pub on_ok : {T E P Q : Type 0} (r : Result T E) → (P → Q) → OnOk r P → OnOk r Q
on_ok (Ok t) turn is = turn is
on_ok (Err e) turn is = tt

-- a render to which no refusal applies may be entered
pub render_legal : (history : History) (actor f : ℕ) → Legal history → IsOpen history → refusal (after history) (RenderFrame f) ≡ None → Legal (history ++ render_of actor f ∷ [])
unfolding IsAnswer answer
render_legal history actor f legal open_ none =
    one_call_more history actor (RenderFrame f) reply.Done legal (open_ actor (RenderFrame f) reply.Done)
    (subst (λ x. MatchOption x ⊥ (λ a. IsLike a reply.Done)) (sym (ap (λ x. option_or (option_map reply.Denied x) (Some reply.Done)) none)) refl) refl tt

-- one flight more that is at home
pub home_more : (fs : List Flying) (f : Flying) → f.home ≡ true → ((k : ℕ) (d : Flying) → k < length fs → (slice_index_or fs k d).home ≡ true)
    → (k : ℕ) (d : Flying) → k < length (fs ++ f ∷ []) → (slice_index_or (fs ++ f ∷ []) k d).home ≡ true
home_more [] f is all zero d within = is
home_more [] f is all (suc k) d within = absurd (omega (arith, within))
home_more (g ∷ fs) f is all zero d within = all zero d (omega arith)
home_more (g ∷ fs) f is all (suc k) d within = home_more fs f is (λ j e less. all (suc j) e (omega (arith, less))) k d (omega (arith, within))
