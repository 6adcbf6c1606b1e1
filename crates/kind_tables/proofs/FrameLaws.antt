-- A frame shows what its world shows: neither the frame itself nor its camera, its renderer or anything below these is a surface or a light.
use Rattle.std.proofs.Common.{ℕ, suc, ◌≡◌, ◌<◌, ◌≤◌, ◌∙◌, Bool, true, false, List, [], ◌∷◌, ◌++◌, All, Option, Some, None, map, refl, sym, ap, subst, arith}
use Rattle.std.specs.Prelude.{codes, drop, IsSomeAnd, MatchOption}
use Rattle.std.specs.List.{filter_map, flat_map}
use Rattle.std.specs.Option.{option_and_then, option_map_or}
use Rattle.std.proofs.lemmas.List.{append-nil, append_assoc}
use Rattle.std.proofs.lemmas.List.Elements.{All-nil, All-cons, All-head, All-tail}
use Rattle.dev_types.specs.declared.data_types.DataType.{DataType}
use Rattle.dev_types.specs.declared.data_types.DataType.TheVariants as ty
use Rattle.fx_math.specs.declared.scene.LightRow.{LightRow}
use Rattle.fx_math.specs.declared.scene.Primitive.{Primitive}
use Rattle.kind_tables.proofs.WalkLaws.{IsLow, all_is_low, each, one_deeper, put_together, starts_stand_below, walk_of}
use Rattle.kind_tables.specs.Kinds.{type_of_kind}
use Rattle.kind_tables.specs.Ranks.{rank_of}
use Rattle.kind_tables.specs.Rows.{optional_row, required_row, row_of, rows_of}
use Rattle.kind_tables.specs.SceneObjects.{Block, SceneObject, SceneObjects, object_at, object_in, object_named, objects_in, value_named}
use Rattle.kind_tables.specs.Scenes.{light_at, light_by, lights_of, primitives_at, primitives_by, primitives_of}
use Rattle.kind_tables.specs.Typed.{IsTyped, Takes}
use Rattle.kind_tables.specs.WalkRanks.{AreRanked, StandsBelow}
use Rattle.kind_tables.specs.Walks.{Spot, Visit, at_element, at_origin, at_parameters_of, below, named_elements, named_parameters, visit, walk, walk_from}
use Rattle.kind_tables.specs.declared.kinds.Kind.{Kind}
use Rattle.kind_tables.specs.declared.kinds.Kind.TheVariants.{Array, CameraOrthographic, CameraPerspective, FrameDefault, LightDirectional, LightPoint, RendererDefault, SurfaceDefault, WorldDefault}
use Rattle.kind_tables.specs.declared.rows.Row.{Row}

-- surfaces and lights are all that shows
abbrev pub is_shown : Kind → Bool
is_shown SurfaceDefault = true
is_shown LightDirectional = true
is_shown LightPoint = true
is_shown _ = false

-- what is shown of visits: nothing of none, of two parts what is shown of each, and nothing of what shows nothing
pub record Shows {Y : Type 0} (shown : List Visit → List Y) : Type 0 where
  pub none : shown [] ≡ []
  pub parts : (xs ys : List Visit) → shown (xs ++ ys) ≡ shown xs ++ shown ys
  pub quiet : (v : Visit) (vs : List Visit) → is_shown v.object.kind ≡ false → shown (v ∷ vs) ≡ shown vs

no_primitives : (objects : SceneObjects) (v : Visit) (kind : Kind) → is_shown kind ≡ false → primitives_by kind objects v ≡ []
no_primitives objects v SurfaceDefault is = absurd cc
no_primitives objects v (Array elem) is = refl
no_primitives objects v CameraOrthographic is = refl
no_primitives objects v _ is = refl

no_light : (v : Visit) (kind : Kind) → is_shown kind ≡ false → light_by kind v.spot v.object ≡ None
no_light v LightDirectional is = absurd cc
no_light v LightPoint is = absurd cc
no_light v (Array elem) is = refl
no_light v CameraOrthographic is = refl
no_light v _ is = refl

primitives_of_parts : (objects : SceneObjects) (xs ys : List Visit) → flat_map (primitives_at objects) (xs ++ ys) ≡ flat_map (primitives_at objects) xs ++ flat_map (primitives_at objects) ys
primitives_of_parts objects [] ys = refl
primitives_of_parts objects (x ∷ xs) ys =
    ap (λ rest. primitives_at objects x ++ rest) (primitives_of_parts objects xs ys)
    ∙ sym (append_assoc (primitives_at objects x) (flat_map (primitives_at objects) xs) (flat_map (primitives_at objects) ys))

lights_of_parts : (xs ys : List Visit) → filter_map light_at (xs ++ ys) ≡ filter_map light_at xs ++ filter_map light_at ys
lights_of_parts [] ys = refl
lights_of_parts (x ∷ xs) ys = by (light_at x) refl (lights_of_parts xs ys)
  where
    by : (l : Option LightRow) → light_at x ≡ l → filter_map light_at (xs ++ ys) ≡ filter_map light_at xs ++ filter_map light_at ys →
        filter_map light_at (x ∷ xs ++ ys) ≡ filter_map light_at (x ∷ xs) ++ filter_map light_at ys
    by None is rest = rw is rest
    by (Some l) is rest = rw is (ap (λ ls. l ∷ ls) rest)

pub primitives_show : (objects : SceneObjects) → Shows (primitives_of objects)
unfolding primitives_of
primitives_show objects = record {
  none = refl;
  parts = primitives_of_parts objects;
  quiet = λ v vs is. ap (λ ps. ps ++ flat_map (primitives_at objects) vs) (no_primitives objects v v.object.kind is);
}

pub lights_show : Shows lights_of
unfolding lights_of
lights_show = record {
  none = refl;
  parts = lights_of_parts;
  quiet = λ v vs is. rw (no_light v v.object.kind is) refl;
}

-- what stands below 2 shows nothing
low_is_quiet : (kind : Kind) → rank_of kind < 2 → is_shown kind ≡ false
low_is_quiet SurfaceDefault low = absurd (omega (arith, low))
low_is_quiet LightDirectional low = absurd (omega (arith, low))
low_is_quiet LightPoint low = absurd (omega (arith, low))
low_is_quiet (Array elem) low = refl
low_is_quiet CameraOrthographic low = refl
low_is_quiet _ low = refl

-- kinds that show nothing, and stand no higher than 2
abbrev pub IsStill : Kind → Type 0
IsStill kind = (is_shown kind ≡ false) × (rank_of kind ≤ 2)

cameras_are_still : (kind : Kind) → type_of_kind kind ≡ ty.Camera → IsStill kind
cameras_are_still (Array elem) is = absurd cc
cameras_are_still CameraOrthographic is = (refl, omega arith)
cameras_are_still CameraPerspective is = (refl, omega arith)
cameras_are_still _ is = absurd cc

renderers_are_still : (kind : Kind) → type_of_kind kind ≡ ty.Renderer → IsStill kind
renderers_are_still (Array elem) is = absurd cc
renderers_are_still CameraOrthographic is = absurd cc
renderers_are_still RendererDefault is = (refl, omega arith)
renderers_are_still _ is = absurd cc

sizes_are_none : (kind : Kind) → type_of_kind kind ≡ ty.Uint32Vec2 → IsStill kind
sizes_are_none (Array elem) is = absurd cc
sizes_are_none CameraOrthographic is = absurd cc
sizes_are_none _ is = absurd cc

types_are_none : (kind : Kind) → type_of_kind kind ≡ ty.TypeName → IsStill kind
types_are_none (Array elem) is = absurd cc
types_are_none CameraOrthographic is = absurd cc
types_are_none _ is = absurd cc

worlds_are_low : (kind : Kind) → type_of_kind kind ≡ ty.World → rank_of kind < 9
worlds_are_low (Array elem) is = absurd cc
worlds_are_low CameraOrthographic is = absurd cc
worlds_are_low WorldDefault is = omega arith
worlds_are_low _ is = absurd cc

-- each of some lists is empty
abbrev AreEmpty : {X Y : Type 0} → (X → List Y) → List X → Type 0
AreEmpty g [] = Unit {0}
AreEmpty g (x ∷ xs) = (g x ≡ []) × AreEmpty g xs

nothing_of : {X Y : Type 0} (g : X → List Y) (xs : List X) → AreEmpty g xs → flat_map g xs ≡ []
nothing_of g [] empty = refl
nothing_of g (x ∷ xs) empty = ap (λ ys. ys ++ flat_map g xs) empty.0 ∙ nothing_of g xs empty.1

-- the rows of a frame behind that of its world
abbrev other_rows : List (List ℕ × Row)
other_rows = drop 1 (rows_of FrameDefault)

module _ {Y : Type 0} (shown : List Visit → List Y) (shows : Shows shown) where
  all_quiet : (vs : List Visit) → All (λ v. is_shown v.object.kind ≡ false) vs → shown vs ≡ []
  all_quiet [] quiet = shows.none
  all_quiet (v ∷ vs) quiet =
      shows.quiet v vs (All-head (λ (v : Visit). is_shown v.object.kind ≡ false) v vs quiet) ∙ all_quiet vs (All-tail (λ (v : Visit). is_shown v.object.kind ≡ false) v vs quiet)

  -- a walk from what is still shows nothing
  still_walk : (objects : SceneObjects) (n : ℕ) (start : Spot × ℕ) (o : Option SceneObject) → AreRanked objects → object_at objects start.1 ≡ o →
      MatchOption o (Unit {0}) (λ p. IsStill p.kind) → shown (walk_of n objects start o) ≡ []
  still_walk objects n start None ranked there still = shows.none
  still_walk objects n start (Some p) ranked there still =
      shows.quiet (visit start p) (flat_map (walk_from n objects) (below start.0 p)) still.0
      ∙ all_quiet (flat_map (walk_from n objects) (below start.0 p))
      (each (IsLow 2) (λ (v : Visit). is_shown v.object.kind ≡ false) (flat_map (walk_from n objects) (below start.0 p)) (λ v low. low_is_quiet v.object.kind low)
      (put_together (IsLow 2) (walk_from n objects) (below start.0 p)
      (each (λ (next : Spot × ℕ). StandsBelow objects 2 next.1) (λ (next : Spot × ℕ). All (IsLow 2) (walk_from n objects next)) (below start.0 p)
      (all_is_low objects ranked n 2) (starts_stand_below objects 2 start.0 start.1 p ranked there still.1))))

  -- what is shown from what a parameter names
  abbrev shown_from : SceneObjects → SceneObject → List ℕ → List Y
  shown_from objects o name = option_map_or (λ h. shown (walk_from 9 objects (at_origin, h))) (option_and_then object_in (value_named name o.committed)) []

  shown_below : (objects : SceneObjects) (o : SceneObject) (rows : List (List ℕ × Row)) →
      shown (flat_map (walk_from 9 objects) (map (λ h. (at_origin, h)) (filter_map (λ (row : List ℕ × Row). option_and_then object_in (value_named row.0 o.committed)) rows)))
      ≡ flat_map (λ row. shown_from objects o row.0) rows
  shown_below objects o [] = shows.none
  shown_below objects o (row ∷ rows) = by (option_and_then object_in (value_named row.0 o.committed)) refl (shown_below objects o rows)
    where
      named : List ℕ × Row → Option ℕ
      named row = option_and_then object_in (value_named row.0 o.committed)

      by : (x : Option ℕ) → option_and_then object_in (value_named row.0 o.committed) ≡ x →
          shown (flat_map (walk_from 9 objects) (map (λ h. (at_origin, h)) (filter_map (λ (row : List ℕ × Row). option_and_then object_in (value_named row.0 o.committed)) rows)))
          ≡ flat_map (λ row. shown_from objects o row.0) rows →
          shown (flat_map (walk_from 9 objects) (map (λ h. (at_origin, h)) (filter_map (λ (row : List ℕ × Row). option_and_then object_in (value_named row.0 o.committed)) (row ∷ rows))))
          ≡ shown_from objects o row.0 ++ flat_map (λ row. shown_from objects o row.0) rows
      by None is rest = rw is rest
      by (Some h) is rest =
          rw is (shows.parts (walk_from 9 objects (at_origin, h)) _ ∙ ap (λ ys. shown (walk_from 9 objects (at_origin, h)) ++ ys) rest)

  module _ (objects : SceneObjects) (f : ℕ) (frame : SceneObject) (typed : IsTyped objects) (ranked : AreRanked objects) (there : object_at objects f ≡ Some frame)
      (kind : frame.kind ≡ FrameDefault) where
    -- a parameter whose type has only still kinds
    still_row : (name : List ℕ) (row : Row) → row_of FrameDefault name ≡ Some row → ((kind : Kind) → type_of_kind kind ≡ row.ty → IsStill kind) → shown_from objects frame name ≡ []
    unfolding walk_from
    still_row name row is still = by (option_and_then object_in (value_named name frame.committed)) refl
      where
        by : (x : Option ℕ) → option_and_then object_in (value_named name frame.committed) ≡ x → option_map_or (λ h. shown (walk_from 9 objects (at_origin, h))) x [] ≡ []
        by None none = refl
        by (Some h) some = still_walk objects 8 (at_origin, h) (object_at objects h) ranked refl (of (object_at objects h) refl)
          where
            of : (p : Option SceneObject) → object_at objects h ≡ p → MatchOption p (Unit {0}) (λ p. IsStill p.kind)
            of None none = tt
            of (Some p) found =
                let named : object_named objects frame name ≡ Some p = ap (option_and_then (object_at objects)) some ∙ found in
                let takes : IsSomeAnd (row_of FrameDefault name) (λ row. Takes row p.kind) =
                subst (λ k. IsSomeAnd (row_of k name) (λ row. Takes row p.kind)) kind (typed.named f frame name p there named) in
                let mine : Takes row p.kind = subst (λ x. IsSomeAnd x (λ row. Takes row p.kind)) is takes in
                still p.kind mine.0

    no_elements : named_elements frame ≡ []
    no_elements = by frame.block refl
      where
        by : (b : Option Block) → frame.block ≡ b → option_map_or objects_in b [] ≡ []
        by None is = refl
        by (Some b) is = let wrong : FrameDefault ≡ Array b.elem = sym kind ∙ typed.array f frame b there is in absurd cc

    below_frame : below at_origin frame ≡ map (λ h. (at_origin, h)) (filter_map (λ (row : List ℕ × Row). option_and_then object_in (value_named row.0 frame.committed)) (rows_of FrameDefault))
    unfolding below
    below_frame =
        ap (λ els. map (λ (named : ℕ × ℕ). (at_element frame.kind at_origin named.0, named.1)) els ++ map (λ h. (at_parameters_of frame.kind frame at_origin, h)) (named_parameters frame)) no_elements
        ∙ ap (λ k. map (λ h. (at_parameters_of k frame at_origin, h)) (filter_map (λ (row : List ℕ × Row). option_and_then object_in (value_named row.0 frame.committed)) (rows_of k))) kind

    world_low : (w : ℕ) → option_and_then object_in (value_named (codes "world") frame.committed) ≡ Some w → StandsBelow objects 9 w
    world_low w world = by (object_at objects w) refl
      where
        by : (p : Option SceneObject) → object_at objects w ≡ p → MatchOption p (Unit {0}) (λ p. rank_of p.kind < 9)
        by None none = tt
        by (Some p) found =
            let named : object_named objects frame (codes "world") ≡ Some p = ap (option_and_then (object_at objects)) world ∙ found in
            let takes : IsSomeAnd (row_of FrameDefault (codes "world")) (λ row. Takes row p.kind) =
            subst (λ k. IsSomeAnd (row_of k (codes "world")) (λ row. Takes row p.kind)) kind (typed.named f frame (codes "world") p there named) in
            worlds_are_low p.kind takes.0

    -- all rows but the world's show nothing
    only_the_world : flat_map (λ row. shown_from objects frame row.0) (rows_of FrameDefault) ≡ shown_from objects frame (codes "world")
    only_the_world =
        ap (λ ys. shown_from objects frame (codes "world") ++ ys) (nothing_of (λ row. shown_from objects frame row.0) other_rows (
          still_row (codes "camera") (required_row ty.Camera) refl cameras_are_still,
          (
            still_row (codes "renderer") (required_row ty.Renderer) refl renderers_are_still,
            (
              still_row (codes "size") (required_row ty.Uint32Vec2) refl sizes_are_none,
              (
                still_row (codes "channel.color") (optional_row ty.TypeName) refl types_are_none,
                (
                  still_row (codes "channel.primitiveId") (optional_row ty.TypeName) refl types_are_none,
                  (still_row (codes "channel.objectId") (optional_row ty.TypeName) refl types_are_none, (still_row (codes "channel.instanceId") (optional_row ty.TypeName) refl types_are_none, tt)),
                ),
              ),
            ),
          ),
        ))
        ∙ append-nil (shown_from objects frame (codes "world"))

    pub frame_shows : (w : ℕ) → option_and_then object_in (value_named (codes "world") frame.committed) ≡ Some w → shown (walk objects f) ≡ shown (walk objects w)
    unfolding walk walk_from
    frame_shows w world =
        ap (λ x. shown (walk_of 9 objects (at_origin, f) x)) there
        ∙ shows.quiet (visit (at_origin, f) frame) (flat_map (walk_from 9 objects) (below at_origin frame)) (ap is_shown kind)
        ∙ ap (λ starts. shown (flat_map (walk_from 9 objects) starts)) below_frame
        ∙ shown_below objects frame (rows_of FrameDefault)
        ∙ only_the_world
        ∙ ap (λ x. option_map_or (λ h. shown (walk_from 9 objects (at_origin, h))) x []) world
        ∙ ap shown (one_deeper objects ranked 9 (at_origin, w) (world_low w world))

pub same_primitives : (objects : SceneObjects) (f w : ℕ) (frame : SceneObject) → IsTyped objects → AreRanked objects → object_at objects f ≡ Some frame → frame.kind ≡ FrameDefault →
    option_and_then object_in (value_named (codes "world") frame.committed) ≡ Some w → primitives_of objects (walk objects f) ≡ primitives_of objects (walk objects w)
same_primitives objects f w frame typed ranked there kind world = frame_shows (primitives_of objects) (primitives_show objects) objects f frame typed ranked there kind w world

pub same_lights : (objects : SceneObjects) (f w : ℕ) (frame : SceneObject) → IsTyped objects → AreRanked objects → object_at objects f ≡ Some frame → frame.kind ≡ FrameDefault →
    option_and_then object_in (value_named (codes "world") frame.committed) ≡ Some w → lights_of (walk objects f) ≡ lights_of (walk objects w)
same_lights objects f w frame typed ranked there kind world = frame_shows lights_of lights_show objects f frame typed ranked there kind w world
