-- The scene of a render in a legal history is within the limits of pictures.
use Rattle.std.proofs.Common.{ℕ, zero, suc, ◌≡◌, ◌∙◌, Bool, true, false, List, [], ◌∷◌, Option, Some, None, refl, sym, ap, subst, length}
use Rattle.std.specs.Prelude.{codes, cond, slice_get, ◌++◌, ◌&&◌, IsSomeAnd, MatchOption}
use Rattle.std.specs.List.{find}
use Rattle.std.specs.Option.{is_none, option_map, option_or, unwrap_or}
use Rattle.dev_types.specs.DataTypes.{is_object_type}
use Rattle.dev_types.specs.ValueBytes.{is_well_typed, type_of}
use Rattle.dev_types.specs.declared.data_types.DataType.TheVariants as ty
use Rattle.dev_types.specs.declared.values.Value.{Value}
use Rattle.dev_types.specs.declared.values.Value.TheVariants.{Int32, Uint32Vec2, Object as Named}
use Rattle.kind_tables.specs.Kinds.{type_of_kind}
use Rattle.kind_tables.specs.Rows.{required_row, row_of, rows_of}
use Rattle.kind_tables.specs.SceneObjects.{SceneObject, default_of, object_at as scene_object_at, sizes_in, value_at, value_named}
use Rattle.kind_tables.specs.Scenes.{nothing_of, scene}
use Rattle.kind_tables.specs.Typed.{AreFit, HasTypeOf}
use Rattle.kind_tables.specs.WalkRefusals.{fault_of}
use Rattle.kind_tables.specs.Walks.{walk}
use Rattle.kind_tables.specs.declared.kinds.Kind.{Kind}
use Rattle.kind_tables.specs.declared.kinds.Kind.TheVariants.{Array, CameraOrthographic, FrameDefault}
use Rattle.kind_tables.specs.declared.rows.Row.{Row}
use Rattle.picture_model.specs.Limits.{IsSceneWithin}
use Rattle.seq_model.proofs.Granted.{AllNone, all_none, given}
use Rattle.seq_model.proofs.Keys.{at_map}
use Rattle.seq_model.proofs.Lower.{scenes_are_ranked}
use Rattle.seq_model.proofs.Prefixes.{in_place, prefix_is_legal}
use Rattle.seq_model.proofs.SoundHistories.{legal_is_sound}
use Rattle.seq_model.proofs.SoundSteps.{has_that_type, is_alive, not_wrong}
use Rattle.seq_model.specs.Histories.{History}
use Rattle.seq_model.specs.Legal.{Legal}
use Rattle.seq_model.specs.Refusals.{refusal, refusals_of, refusals_of_render}
use Rattle.seq_model.specs.Soundness.{Fits}
use Rattle.seq_model.specs.State.{Object, object_at, scene_object, scene_objects}
use Rattle.seq_model.specs.Steps.{Past, after}
use Rattle.seq_model.specs.declared.calls.Call.TheVariants.{RenderFrame}
use Rattle.seq_model.specs.declared.calls.Reply.TheVariants as reply
use Rattle.scene_read.proofs.SceneLimits.{fit_scene_within}
use Rattle.past_laws.proofs.Typed.{sound_at, sound_is_typed, state_has, value_is}
use Rattle.past_laws.proofs.Values.{legal_is_well_typed}
use Rattle.scene_read.specs.SceneReads.{HasSides, IsReadScene, size_of_frame}
use Rattle.past_laws.specs.Worlds.{render_of}

-- the objects of a legal history are as those of a device always are
pub legal_is_fit : (history : History) → Legal history → AreFit (scene_objects (after history).state)
legal_is_fit history legal = record {
  typed = sound_is_typed (after history).state (legal_is_sound history legal);
  valued = λ h o name v there found.
      let of : (q : Object) × ((object_at (after history).state h ≡ Some q) × (scene_object q ≡ o)) = state_has (after history).state h o there in
      subst (λ (o : SceneObject). value_named name o.committed ≡ Some v → MatchOption (row_of o.kind name) (Unit {0}) (λ row. HasTypeOf row v)) of.1.1
      (λ found. has_type (row_of of.0.kind name) v
      (value_is (λ name v. Fits (after history).state of.0.kind name v) name of.0.committed v (sound_at (after history).state h of.0 (legal_is_sound history legal) of.1.0).committed found).typed
      (value_is (λ name v. is_well_typed v ≡ true) name of.0.committed v (legal_is_well_typed history legal h of.0 of.1.0).committed found)) found;
  ranked = scenes_are_ranked history legal;
}
  where
    has_type : (row : Option Row) (v : Value) → MatchOption row (Unit {0}) (λ row. type_of v ≡ row.ty) → is_well_typed v ≡ true → MatchOption row (Unit {0}) (λ row. HasTypeOf row v)
    has_type None v typed well = tt
    has_type (Some row) v typed well = (typed, well)

faultless_scene_within : (history : History) (f : ℕ) (frame : Object) → Legal history → object_at (after history).state f ≡ Some frame → frame.kind ≡ FrameDefault →
    fault_of (scene_objects (after history).state) (walk (scene_objects (after history).state) f) ≡ None →
    IsReadScene (value_at (scene_object frame) (codes "size")) (scene (scene_objects (after history).state) f) → IsSceneWithin (scene (scene_objects (after history).state) f)
faultless_scene_within history f frame legal there kind none read =
    fit_scene_within (scene_objects (after history).state) f (scene_object frame) (legal_is_fit history legal)
    (at_map scene_object f (after history).state.objects ∙ ap (option_map scene_object) there) kind none read

is_frame : (kind : Kind) → type_of_kind kind ≡ ty.Frame → kind ≡ FrameDefault
is_frame FrameDefault is = refl
is_frame (Array elem) is = absurd cc
is_frame CameraOrthographic is = absurd cc
is_frame _ is = absurd cc

-- what is asked of a render that is granted
record IsGranted (past : Past) (f : ℕ) : Type 0 where
  frame : Object
  there : object_at past.state f ≡ Some frame
  kind : frame.kind ≡ FrameDefault
  faultless : fault_of (scene_objects past.state) (walk (scene_objects past.state) f) ≡ None

is_granted : (past : Past) (f : ℕ) → refusal past (RenderFrame f) ≡ None → IsGranted past f
unfolding refusal refusals_of
is_granted past f none =
    let facts : AllNone (refusals_of_render past f) = all_none (refusals_of_render past f) none in
    let alive : (o : Object) × (object_at past.state f ≡ Some o) = is_alive past f facts.0 in
    let type : IsSomeAnd (object_at past.state f) (λ o. type_of_kind o.kind ≡ ty.Frame) = has_that_type past f ty.Frame (not_wrong past f ty.Frame facts.1.1.0) in
    record {
      frame = alive.0;
      there = alive.1;
      kind = is_frame alive.0.kind (subst (λ x. IsSomeAnd x (λ o. type_of_kind o.kind ≡ ty.Frame)) alive.1 type);
      faultless = facts.1.1.1.1.1.1.0;
    }

-- of a render that no refusal applies to
pub granted_scene_within : (history : History) (f : ℕ) → Legal history → refusal (after history) (RenderFrame f) ≡ None →
    IsReadScene (size_of_frame (scene_objects (after history).state) f) (scene (scene_objects (after history).state) f) → IsSceneWithin (scene (scene_objects (after history).state) f)
granted_scene_within history f legal none read =
    let granted : IsGranted (after history) f = is_granted (after history) f none in
    let seen : scene_object_at (scene_objects (after history).state) f ≡ Some (scene_object granted.frame) =
    at_map scene_object f (after history).state.objects ∙ ap (option_map scene_object) granted.there in
    faultless_scene_within history f granted.frame legal granted.there granted.kind granted.faultless
    (subst (λ x. IsReadScene (value_at (unwrap_or x (nothing_of FrameDefault)) (codes "size")) (scene (scene_objects (after history).state) f)) seen read)

-- and of one that was done
pub rendered_scene_within : (history : History) (actor f : ℕ) → Legal (history ++ render_of actor f ∷ []) →
    IsReadScene (size_of_frame (scene_objects (after history).state) f) (scene (scene_objects (after history).state) f) → IsSceneWithin (scene (scene_objects (after history).state) f)
rendered_scene_within history actor f legal =
    granted_scene_within history f (prefix_is_legal history (render_of actor f ∷ []) legal)
    (given (after history) (RenderFrame f) reply.Done (in_place history (render_of actor f) [] legal).0 (λ refused is. cc)).0
