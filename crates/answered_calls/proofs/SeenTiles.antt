-- A reply that is right sees none of some tiles, where it tells of a flight.
use Rattle.std.proofs.Common.{ℕ, zero, suc, ◌≡◌, ◌<◌, not, Bool, true, false, List, [], ◌∷◌, ◌++◌, Option, Some, None, refl, sym, subst, length}
use Rattle.std.specs.Prelude.{cond, codes, nat_lt}
use Rattle.std.specs.Bool.{then_some}
use Rattle.std.specs.List.{find}
use Rattle.std.specs.Option.{MatchOption, is_none, option_and_then, option_map, option_or}
use Rattle.std.specs.Str.{bytes_eq}
use Rattle.dev_types.specs.DataTypes.{is_element_type, is_object_type}
use Rattle.dev_types.specs.declared.data_types.DataType.{DataType}
use Rattle.dev_types.specs.declared.data_types.DataType.TheVariants as ty
use Rattle.dev_types.specs.declared.handles.Channel.{Channel}
use Rattle.dev_types.specs.declared.refusals.Refused.{Refused}
use Rattle.dev_types.specs.declared.refusals.Refused.TheVariants.{ArrayMapped, BadHandle, BadShape, BadSubtype, BadType, ChannelMapped, InFlight, Incomplete, NoChannel, NoSuchName, NotHeld, NotMapped, OutOfRange, TooMany, UnknownObjectParameter, WrongKind}
use Rattle.dev_types.specs.declared.values.Value.{Value}
use Rattle.dev_types.specs.declared.values.Value.TheVariants as value
use Rattle.kind_tables.specs.Kinds.{kind_of}
use Rattle.kind_tables.specs.Ranges.{broken_parameter}
use Rattle.kind_tables.specs.Rows.{row_of}
use Rattle.kind_tables.specs.SceneObjects.{SceneObjects}
use Rattle.kind_tables.specs.Scenes.{lights_of, primitives_of}
use Rattle.kind_tables.specs.WalkRefusals.{fault_of, first_answer, first_incomplete, first_limit, first_mapped, first_out_of_range, missing_parameter, surface_count, too_many, walk_refusal}
use Rattle.kind_tables.specs.Walks.{Visit}
use Rattle.kind_tables.specs.declared.kinds.Kind.{Kind}
use Rattle.kind_tables.specs.declared.kinds.Kind.TheVariants.{FrameDefault, WorldDefault}
use Rattle.seq_model.specs.Answers.{IsAnswer, IsLike, answer, granted, mapped_picture, property_of, readiness}
use Rattle.seq_model.specs.Pictures.{tiles_at}
use Rattle.seq_model.specs.Refusals.{bad_elements, dead, first_of, given_handles, in_flight, is_bad_shape, no_channel, no_picture, not_held, object_of_value, own_of_type, phase_at, refusal, refusal_of_info, refusals_of, some_channel_mapped, this_channel_mapped, walk_at, wrong_kind, wrong_value}
use Rattle.seq_model.specs.Properties.{refusal_of_property}
use Rattle.seq_model.specs.State.{Phase, Empty, Flight, Done, object_at, scene_objects}
use Rattle.seq_model.specs.Steps.{Past}
use Rattle.seq_model.specs.declared.calls.Call.{Call}
use Rattle.seq_model.specs.declared.calls.Call.TheVariants.{NewObject, NewArray, Retain, Release, SetParameter, UnsetParameter, UnsetAll, Commit, MapArray, UnmapArray, MapParameterArray, UnmapParameterArray, RenderFrame, FrameReady, DiscardFrame, MapFrame, UnmapFrame, GetProperty, Subtypes, ObjectInfo, ParameterInfo}
use Rattle.seq_model.specs.declared.calls.Reply.{Reply}
use Rattle.seq_model.specs.declared.calls.Reply.TheVariants as reply
use Rattle.seq_model.specs.Told.{source_of}
use Rattle.past_laws.specs.Rendered.{HaveTiles}
use Rattle.answered_calls.specs.Tells.{HasTilesInFlight, TellsNone}

-- a reply that tells of a flight saw none of its tiles, and there are some
abbrev pub SeesNone : Reply → Type 0
SeesNone = TellsNone (λ n. 0 < n)

-- it is like itself
pub like_itself : (r : Reply) → SeesNone r → IsLike r r
like_itself (reply.NotReady given of) none = (given, subst (λ n. n < of) (sym none.0) none.1, refl)
like_itself (reply.Denied (InFlight given of)) none = (given, subst (λ n. n < of) (sym none.0) none.1, refl)
like_itself (reply.Denied _) none = refl
like_itself _ none = refl

-- the flight that a call asks for, if there is one, has so many tiles
abbrev HasCount : (ℕ → Type 0) → Past → Call → Type 0
HasCount IsCount past (RenderFrame h) = (t : ℕ) → phase_at past h ≡ Flight t → IsCount (tiles_at past.seen t)
HasCount IsCount past (FrameReady h wait) = (t : ℕ) → phase_at past h ≡ Flight t → IsCount (tiles_at past.seen t)
HasCount IsCount past (MapFrame h channel) = (t : ℕ) → phase_at past h ≡ Flight t → IsCount (tiles_at past.seen t)
HasCount IsCount past _ = Unit {0}

-- it has some
abbrev pub HasTiles : Past → Call → Type 0
HasTiles = HasCount (λ n. 0 < n)

pub of_all_flights : (past : Past) (call : Call) → HaveTiles past → HasTiles past call
of_all_flights past (RenderFrame h) tiles = tiles h
of_all_flights past (FrameReady h wait) tiles = tiles h
of_all_flights past (MapFrame h channel) tiles = tiles h
of_all_flights past _ tiles = tt

module _ (IsCount : ℕ → Type 0) where
  -- such a refusal
  abbrev SeenIn : Option Refused → Type 0
  SeenIn x = MatchOption x (Unit {0}) (λ refused. TellsNone IsCount (reply.Denied refused))

  abbrev AllSeenIn : List (Option Refused) → Type 0
  AllSeenIn [] = Unit {0}
  AllSeenIn (x ∷ xs) = SeenIn x × AllSeenIn xs

  of_then : (applies : Bool) (refused : Refused) → TellsNone IsCount (reply.Denied refused) → SeenIn (then_some applies refused)
  of_then true refused none = none
  of_then false refused none = tt

  of_or : (x y : Option Refused) → SeenIn x → SeenIn y → SeenIn (option_or x y)
  of_or None y first second = second
  of_or (Some x) y first second = first

  of_first : (xs : List (Option Refused)) → AllSeenIn xs → SeenIn (first_of xs)
  of_first [] all = tt
  of_first (x ∷ xs) all = of_or x (first_of xs) all.0 (of_first xs all.1)

  of_answer : {X : Type 0} (f : X → Option Refused) → ((x : X) → SeenIn (f x)) → (xs : List X) → SeenIn (first_answer f xs)
  of_answer f each [] = tt
  of_answer f each (x ∷ xs) = of_or (f x) (first_answer f xs) (each x) (of_answer f each xs)

  of_map : {X : Type 0} (f : X → Refused) → ((x : X) → TellsNone IsCount (reply.Denied (f x))) → (x : Option X) → SeenIn (option_map f x)
  of_map f each None = tt
  of_map f each (Some x) = each x

  of_both : {X : Type 0} (f : X → Option Refused) → ((x : X) → SeenIn (f x)) → (x : Option X) → SeenIn (option_and_then f x)
  of_both f each None = tt
  of_both f each (Some x) = each x

  -- the refusals that other definitions tell
  of_dead : (past : Past) (h : ℕ) → SeenIn (dead past h)
  of_dead past h = of_then (is_none (object_at past.state h)) (BadHandle h) tt

  of_not_held : (past : Past) (h : ℕ) → SeenIn (not_held past h)
  of_not_held past h = of_then _ (NotHeld h) tt

  of_wrong_kind : (past : Past) (h : ℕ) (t : DataType) → SeenIn (wrong_kind past h t)
  of_wrong_kind past h t = of_then _ (WrongKind h) tt

  of_mapped : (visits : List Visit) → SeenIn (first_mapped visits)
  unfolding first_mapped
  of_mapped visits = of_map (λ (v : Visit). ArrayMapped v.handle) (λ v. tt) (find (λ (v : Visit). v.object.mapped) visits)

  of_too_many : (limit count : ℕ) → SeenIn (too_many limit count)
  of_too_many limit count = by (nat_lt limit count)
    where
      by : (t : Bool) → SeenIn (cond t (Some (TooMany limit)) None)
      by true = tt
      by false = tt

  of_fault : (objects : SceneObjects) (visits : List Visit) → SeenIn (fault_of objects visits)
  unfolding fault_of first_incomplete first_limit first_out_of_range
  of_fault objects visits =
      of_or (first_incomplete visits) (option_or (first_limit objects visits) (first_out_of_range objects visits))
      (of_answer (λ (v : Visit). option_map (Incomplete v.handle) (missing_parameter v.object)) (λ v. of_map (Incomplete v.handle) (λ x. tt) (missing_parameter v.object)) visits)
      (of_or (first_limit objects visits) (first_out_of_range objects visits)
      (of_or (too_many 65536 (surface_count visits)) (option_or (too_many 256 (length (lights_of visits))) (too_many 1048576 (length (primitives_of objects visits))))
      (of_too_many 65536 (surface_count visits))
      (of_or (too_many 256 (length (lights_of visits))) (too_many 1048576 (length (primitives_of objects visits)))
      (of_too_many 256 (length (lights_of visits))) (of_too_many 1048576 (length (primitives_of objects visits)))))
      (of_answer (λ (v : Visit). option_map (OutOfRange v.handle) (broken_parameter objects v)) (λ v. of_map (OutOfRange v.handle) (λ x. tt) (broken_parameter objects v)) visits))

  of_walk : (objects : SceneObjects) (visits : List Visit) → SeenIn (walk_refusal objects visits)
  unfolding walk_refusal
  of_walk objects visits = of_or (first_mapped visits) (fault_of objects visits) (of_mapped visits) (of_fault objects visits)

  of_new_array : (past : Past) (elem : DataType) (handles : List ℕ) (bad_type bad_shape : Bool) →
      AllSeenIn (cond bad_type (Some BadType ∷ []) (cond bad_shape (Some BadShape ∷ []) (bad_elements past elem handles)))
  of_new_array past elem handles true bad_shape = (tt, tt)
  of_new_array past elem handles false true = (tt, tt)
  of_new_array past elem handles false false =
      (of_answer (dead past) (of_dead past) handles, (of_answer (not_held past) (of_not_held past) handles, (of_answer (λ h. wrong_kind past h elem) (λ h. of_wrong_kind past h elem) handles, tt)))

  of_value : (past : Past) (v : Value) → SeenIn (wrong_value past v)
  of_value past (value.Object t h) = by (is_object_type t)
    where
      by : (is : Bool) → SeenIn (cond is (wrong_kind past h t) None)
      by true = of_wrong_kind past h t
      by false = tt
  of_value past _ = tt

  of_flight : (past : Past) (phase : Phase) → ((t : ℕ) → phase ≡ Flight t → IsCount (tiles_at past.seen t)) → SeenIn (in_flight past phase)
  of_flight past Empty tiles = tt
  of_flight past (Flight t) tiles = (refl, tiles t refl)
  of_flight past (Done t) tiles = tt

  of_no_picture : (phase : Phase) → SeenIn (no_picture phase)
  of_no_picture Empty = tt
  of_no_picture (Flight t) = tt
  of_no_picture (Done t) = tt

  of_no_channel : (past : Past) (phase : Phase) (c : Channel) → SeenIn (no_channel past phase c)
  of_no_channel past Empty c = tt
  of_no_channel past (Flight t) c = tt
  of_no_channel past (Done t) c = of_then _ NoChannel tt

  of_property : (past : Past) (h : ℕ) (kind : Kind) (name : List ℕ) → SeenIn (refusal_of_property (scene_objects past.state) h kind name)
  of_property past h WorldDefault name = by (bytes_eq name (codes "bounds"))
    where
      by : (is : Bool) → SeenIn (cond is (walk_refusal (scene_objects past.state) (walk_at past h)) (Some NoSuchName))
      by true = of_walk (scene_objects past.state) (walk_at past h)
      by false = tt
  of_property past h FrameDefault name = of_then _ NoSuchName tt
  of_property past h _ name = tt

  of_info : (kind : Option Kind) (name : List ℕ) → SeenIn (refusal_of_info kind name)
  of_info None name = tt
  of_info (Some kind) name = of_then (is_none (row_of kind name)) NoSuchName tt

  of_dead_value : (past : Past) (v : Value) → SeenIn (option_and_then (dead past) (object_of_value v))
  of_dead_value past v = of_both (dead past) (of_dead past) (object_of_value v)

  of_not_held_value : (past : Past) (v : Value) → SeenIn (option_and_then (not_held past) (object_of_value v))
  of_not_held_value past v = of_both (not_held past) (of_not_held past) (object_of_value v)

  of_frame : (past : Past) (h : ℕ) (xs : List (Option Refused)) → AllSeenIn xs → AllSeenIn (own_of_type past h ty.Frame ++ xs)
  of_frame past h xs rest = (of_dead past h, (of_not_held past h, (of_wrong_kind past h ty.Frame, rest)))

  -- and all those of a call
  of_call : (past : Past) (call : Call) → HasCount IsCount past call → AllSeenIn (refusals_of past call)
  unfolding refusals_of
  of_call past (NewObject t subtype) tiles = (of_then _ BadSubtype tt, tt)
  of_call past (NewArray elem count stride origin bytes) tiles =
      of_new_array past elem (given_handles elem count stride bytes) (not (is_element_type elem)) (is_bad_shape elem count stride origin bytes)
  of_call past (Retain h) tiles = (of_dead past h, (of_not_held past h, tt))
  of_call past (Release h) tiles = (of_dead past h, (of_not_held past h, tt))
  of_call past (SetParameter h name v) tiles =
      (of_dead past h, (of_dead_value past v, (of_not_held past h, (of_not_held_value past v, (of_value past v, (of_then _ BadType tt, (of_then _ UnknownObjectParameter tt, tt)))))))
  of_call past (UnsetParameter h name) tiles = (of_dead past h, (of_not_held past h, tt))
  of_call past (UnsetAll h) tiles = (of_dead past h, (of_not_held past h, tt))
  of_call past (Commit h) tiles = (of_dead past h, (of_not_held past h, tt))
  of_call past (MapArray h) tiles = (of_dead past h, (of_not_held past h, (of_wrong_kind past h ty.Array1D, (of_then _ (ArrayMapped h) tt, tt))))
  of_call past (UnmapArray h number bytes) tiles = (of_then _ NotMapped tt, tt)
  of_call past (MapParameterArray h name elem count) tiles = (of_dead past h, (of_not_held past h, (of_then _ BadType tt, (of_then _ UnknownObjectParameter tt, (of_then _ BadShape tt, tt)))))
  of_call past (UnmapParameterArray h name number bytes) tiles = (of_then _ NotMapped tt, tt)
  of_call past (RenderFrame h) tiles =
      of_frame past h (first_mapped (walk_at past h) ∷ in_flight past (phase_at past h) ∷ some_channel_mapped past h ∷ fault_of (scene_objects past.state) (walk_at past h) ∷ [])
      (of_mapped (walk_at past h), (of_flight past (phase_at past h) tiles, (of_then _ ChannelMapped tt, (of_fault (scene_objects past.state) (walk_at past h), tt))))
  of_call past (FrameReady h wait) tiles = of_frame past h (no_picture (phase_at past h) ∷ []) (of_no_picture (phase_at past h), tt)
  of_call past (DiscardFrame h) tiles = of_frame past h (some_channel_mapped past h ∷ []) (of_then _ ChannelMapped tt, tt)
  of_call past (MapFrame h c) tiles =
      of_frame past h (in_flight past (phase_at past h) ∷ no_picture (phase_at past h) ∷ this_channel_mapped past h c ∷ no_channel past (phase_at past h) c ∷ [])
      (of_flight past (phase_at past h) tiles, (of_no_picture (phase_at past h), (of_then _ ChannelMapped tt, (of_no_channel past (phase_at past h) c, tt))))
  of_call past (UnmapFrame h number) tiles = (of_then _ NotMapped tt, tt)
  of_call past (GetProperty zero name) tiles = (of_then _ NoSuchName tt, tt)
  of_call past (GetProperty (suc h) name) tiles =
      (of_dead past (suc h), (of_not_held past (suc h), (of_both (λ o. refusal_of_property (scene_objects past.state) (suc h) o.kind name) (λ o. of_property past (suc h) o.kind name) (object_at past.state (suc h)), tt)))
  of_call past (Subtypes t) tiles = (of_then _ NoSuchName tt, tt)
  of_call past (ObjectInfo t subtype) tiles = (of_then _ BadSubtype tt, tt)
  of_call past (ParameterInfo t subtype name) tiles = (of_info (kind_of t subtype) name, tt)

  -- what is granted
  abbrev SeenInGrant : Option Reply → Type 0
  SeenInGrant x = MatchOption x (Unit {0}) (TellsNone IsCount)

  of_reply : {X : Type 0} (f : X → Reply) → ((x : X) → TellsNone IsCount (f x)) → (x : Option X) → SeenInGrant (option_map f x)
  of_reply f each None = tt
  of_reply f each (Some x) = each x

  of_readiness : (past : Past) (wait : Bool) (phase : Phase) → ((t : ℕ) → phase ≡ Flight t → IsCount (tiles_at past.seen t)) → SeenInGrant (readiness past wait phase)
  of_readiness past true Empty tiles = tt
  of_readiness past false Empty tiles = tt
  of_readiness past true (Flight t) tiles = tt
  of_readiness past false (Flight t) tiles = (refl, tiles t refl)
  of_readiness past true (Done t) tiles = tt
  of_readiness past false (Done t) tiles = tt

  of_picture : (past : Past) (c : Channel) (phase : Phase) → SeenInGrant (mapped_picture past c phase)
  of_picture past c Empty = tt
  of_picture past c (Flight t) = tt
  of_picture past c (Done t) = tt

  of_grant : (past : Past) (call : Call) → HasCount IsCount past call → SeenInGrant (granted past call)
  of_grant past (NewObject t subtype) tiles = tt
  of_grant past (NewArray elem count stride origin bytes) tiles = tt
  of_grant past (MapArray h) tiles = tt
  of_grant past (MapParameterArray h name elem count) tiles = tt
  of_grant past (UnmapParameterArray h name number bytes) tiles = tt
  of_grant past (FrameReady h wait) tiles = of_readiness past wait (phase_at past h) tiles
  of_grant past (MapFrame h c) tiles = of_picture past c (phase_at past h)
  of_grant past (GetProperty h name) tiles = of_reply reply.Val (λ v. tt) (property_of past h)
  of_grant past (Subtypes t) tiles = tt
  of_grant past (ObjectInfo t subtype) tiles = of_reply _ (λ kind. tt) (kind_of t subtype)
  of_grant past (ParameterInfo t subtype name) tiles = of_reply _ (λ row. tt) (option_and_then (λ kind. row_of kind name) (kind_of t subtype))
  of_grant past (Retain h) tiles = tt
  of_grant past _ tiles = tt

  -- so is the reply to a call
  pub answer_tells_none : (past : Past) (call : Call) (r : Reply) → HasCount IsCount past call → answer past call ≡ Some r → TellsNone IsCount r
  unfolding answer refusal
  answer_tells_none past call r tiles is = by (refusal past call) (granted past call) (of_first (refusals_of past call) (of_call past call tiles)) (of_grant past call tiles) is
    where
      by : (x : Option Refused) (y : Option Reply) → SeenIn x → SeenInGrant y → option_or (option_map reply.Denied x) y ≡ Some r → TellsNone IsCount r
      by (Some refused) y first second is = let same : reply.Denied refused ≡ r = cc in subst (TellsNone IsCount) same first
      by None (Some a) first second is = let same : a ≡ r = cc in subst (TellsNone IsCount) same second
      by None None first second is = absurd cc

pub answer_sees_none : (past : Past) (call : Call) (r : Reply) → HasTiles past call → answer past call ≡ Some r → SeesNone r
answer_sees_none = answer_tells_none (λ n. 0 < n)

-- and it is one that the call may have
pub may_be_given : (past : Past) (call : Call) (r : Reply) → HasTiles past call → answer past call ≡ Some r → IsAnswer past call r
unfolding IsAnswer
may_be_given past call r tiles is = subst (λ x. MatchOption x ⊥ (λ a. IsLike a r)) (sym is) (like_itself r (answer_sees_none past call r tiles is))

-- and where it tells of a flight, that is the flight of the frame on which the call is made
pub answer_tells : (past : Past) (call : Call) (r : Reply) → answer past call ≡ Some r → TellsNone (HasTilesInFlight past (source_of call)) r
answer_tells past call r is = answer_tells_none (HasTilesInFlight past (source_of call)) past call r (by call) is
  where
    by : (call : Call) → HasCount (HasTilesInFlight past (source_of call)) past call
    by (RenderFrame h) = λ t flies. (t, flies, refl)
    by (FrameReady h wait) = λ t flies. (t, flies, refl)
    by (MapFrame h channel) = λ t flies. (t, flies, refl)
    by _ = tt
