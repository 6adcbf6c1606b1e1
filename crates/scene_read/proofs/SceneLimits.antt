-- The scene of a walk without a fault is within the limits of pictures.
use Rattle.std.proofs.Common.{ℕ, zero, suc, ◌+◌, ◌^◌, ◌/◌, ◌≡◌, ◌≤◌, ◌∙◌, Bool, true, false, List, [], ◌∷◌, All, Option, Some, None, map, refl, sym, ap, subst, length, arith}
use Rattle.std.specs.Prelude.{codes, cond, nat_lt, slice_get, slice_index_or, IsSomeAnd, MatchOption, nat_le, ◌&&◌}
use Rattle.std.specs.List.{enumerate_from, find, list_all, range_with_len}
use Rattle.std.specs.Option.{is_none, option_and_then, option_map, option_map_or, option_or, unwrap_or}
use Rattle.std.proofs.lemmas.Bool.{and_parts, leb-true, ltb-false}
use Rattle.std.proofs.lemmas.List.Elements.{All-nil, All-cons, All-head, All-tail, All-map}
use Rattle.dev_types.specs.DataTypes.{is_object_type}
use Rattle.dev_types.specs.ValueBytes.{is_well_typed, type_of}
use Rattle.dev_types.specs.declared.data_types.DataType.TheVariants as ty
use Rattle.dev_types.specs.declared.refusals.Refused.TheVariants.{Incomplete, OutOfRange, TooMany}
use Rattle.dev_types.specs.declared.values.Value.{Value}
use Rattle.dev_types.specs.declared.values.Value.TheVariants.{Int32, Uint32Vec2, Object as Named}
use Rattle.fx_math.specs.Mat34.{linear, placed}
use Rattle.fx_math.specs.Vec3.{reach}
use Rattle.fx_math.specs.declared.scene.LightRow.{LightRow}
use Rattle.fx_math.specs.declared.scene.LightRow.TheVariants.{Directional, Point}
use Rattle.fx_math.specs.declared.scene.Shape.{Shape}
use Rattle.fx_math.specs.declared.transforms.Mat34.{Mat34}
use Rattle.kind_tables.specs.Kinds.{type_of_kind}
use Rattle.kind_tables.specs.Ranges.{broken_parameter, geometry_tests, is_side, tests_of}
use Rattle.kind_tables.specs.Rows.{array_row, required_row, row_of, rows_of}
use Rattle.kind_tables.specs.SceneObjects.{Block, SceneObject, SceneObjects, array_named, element, elements, indices_in, object_at, object_named, default_of, scalar_of, scalars_of, sizes_in, value_at, value_named, vector_of}
use Rattle.kind_tables.specs.Scenes.{camera_by, camera_of, light_at, light_by, lighting_by, lights_of, nothing_of, primitive, primitives_at, primitives_by, primitives_of, scene, scene_by, side_of, surface_primitives, surface_shapes}
use Rattle.kind_tables.specs.Shapes.{common_radius, corners_by, corners_of, next_three, own_radii, positions_of, shapes_by, shapes_of}
use Rattle.kind_tables.specs.WalkRanks.{AreRanked}
use Rattle.kind_tables.specs.WalkRefusals.{missing_parameter, fault_of, first_answer, first_incomplete, first_limit, first_out_of_range, surface_count, too_many}
use Rattle.kind_tables.specs.Walks.{Visit, at_origin, at_parameters_of, visit, walk}
use Rattle.kind_tables.specs.declared.kinds.Kind.{Kind}
use Rattle.kind_tables.specs.declared.kinds.Kind.TheVariants.{CameraOrthographic, CameraPerspective, FrameDefault, GeometrySphere, GeometryTriangle, LightDirectional, LightPoint, MaterialMatte, RendererDefault, SurfaceDefault, Array}
use Rattle.kind_tables.specs.declared.rows.Row.{Row}
use Rattle.picture_model.specs.Limits.{IsCameraWithin, IsLightWithin, IsLightingWithin, IsPrimitiveWithin, IsSceneWithin, IsShapeWithin, IsSide}
use Rattle.scene_read.proofs.ShapeLimits.{AllPass, amount_within, both_pass, color_within, none_broken, number_between, point_within, radii_pass, spheres_within, triangles_within}
use Rattle.kind_tables.specs.Typed.{AreFit, HasTypeOf, IsTyped, Takes}
use Rattle.kind_tables.proofs.WalkLaws.{each, put_together, visits_are_objects}
use Rattle.kind_tables.proofs.Walked.{HoldsBelow, all_hold_below, chosen, first_visit, holds_of_named, named_handle}
use Rattle.scene_read.specs.SceneReads.{HasSides, IsReadCamera, IsReadLight, IsReadScene}

-- the tests of a visit that breaks nothing
abbrev pub Passes : SceneObjects → Visit → Type 0
Passes objects v = AllPass (tests_of v.object.kind v.spot.transform v.object) × AllPass (geometry_tests v.object.kind objects v.object v.spot.transform)

passes : (objects : SceneObjects) (v : Visit) → broken_parameter objects v ≡ None → Passes objects v
unfolding broken_parameter
passes objects v none =
    both_pass (tests_of v.object.kind v.spot.transform v.object) (geometry_tests v.object.kind objects v.object v.spot.transform) (none_broken _ none)

-- where no visit answers
both_none : {X : Type 0} (x y : Option X) → option_or x y ≡ None → (x ≡ None) × (y ≡ None)
both_none None y none = (refl, none)
both_none (Some x) y none = absurd cc

none_of_each : {X Y : Type 0} (f : Visit → X → Y) (g : Visit → Option X) (visits : List Visit) → first_answer (λ v. option_map (f v) (g v)) visits ≡ None → All (λ v. g v ≡ None) visits
none_of_each f g [] none = All-nil (λ v. g v ≡ None)
none_of_each {X} f g (v ∷ visits) none =
    let both : (option_map (f v) (g v) ≡ None) × (first_answer (λ v. option_map (f v) (g v)) visits ≡ None) = both_none (option_map (f v) (g v)) (first_answer (λ v. option_map (f v) (g v)) visits) none in
    All-cons (λ v. g v ≡ None) v visits (of_map (g v) both.0) (none_of_each f g visits both.1)
  where
    of_map : (x : Option X) → option_map (f v) x ≡ None → x ≡ None
    of_map None none = refl
    of_map (Some x) none = absurd cc

few_enough : (limit count : ℕ) → too_many limit count ≡ None → count ≤ limit
few_enough limit count none = by (nat_lt limit count) refl none
  where
    by : (t : Bool) → nat_lt limit count ≡ t → cond t (Some (TooMany limit)) None ≡ None → count ≤ limit
    by true is none = absurd cc
    by false is none = ltb-false limit count is

-- what a walk without a fault keeps to
pub record IsFaultless (objects : SceneObjects) (visits : List Visit) : Type 0 where
  pub complete : All (λ v. missing_parameter v.object ≡ None) visits
  pub lights : length (lights_of visits) ≤ 256
  pub passing : All (Passes objects) visits

pub faultless : (objects : SceneObjects) (visits : List Visit) → fault_of objects visits ≡ None → IsFaultless objects visits
unfolding fault_of first_incomplete first_limit first_out_of_range
faultless objects visits none =
    let first = both_none (first_incomplete visits) (option_or (first_limit objects visits) (first_out_of_range objects visits)) none in
    let second = both_none (first_limit objects visits) (first_out_of_range objects visits) first.1 in
    let third = both_none (too_many 65536 (surface_count visits)) (option_or (too_many 256 (length (lights_of visits))) (too_many 1048576 (length (primitives_of objects visits)))) second.0 in
    let fourth = both_none (too_many 256 (length (lights_of visits))) (too_many 1048576 (length (primitives_of objects visits))) third.1 in
    record {
      complete = none_of_each (λ v. Incomplete v.handle) (λ v. missing_parameter v.object) visits first.0;
      lights = few_enough 256 (length (lights_of visits)) fourth.0;
      passing = each (λ v. broken_parameter objects v ≡ None) (Passes objects) visits (passes objects) (none_of_each (λ v. OutOfRange v.handle) (broken_parameter objects) visits second.1);
    }

-- triangles have three vertex numbers, told or not
next_are_three : (ks : List ℕ) → All (λ (c : List ℕ). length c ≡ 3) (map next_three ks)
next_are_three [] = All-nil (λ (c : List ℕ). length c ≡ 3)
next_are_three (k ∷ ks) = All-cons (λ (c : List ℕ). length c ≡ 3) (next_three k) (map next_three ks) refl (next_are_three ks)

told_are_three : (b : Block) → b.elem ≡ ty.Uint32Vec3 → (ks : List ℕ) → All (λ (c : List ℕ). length c ≡ 3) (map (λ v. indices_in (Some v)) (map (element b) ks))
told_are_three b is [] = All-nil (λ (c : List ℕ). length c ≡ 3)
told_are_three b is (k ∷ ks) =
    All-cons (λ (c : List ℕ). length c ≡ 3) (indices_in (Some (element b k))) (map (λ v. indices_in (Some v)) (map (element b) ks))
    (subst (λ elem. length (indices_in (Some (Rattle.dev_types.specs.Blocks.element_of elem b.stride b.bytes k))) ≡ 3) (sym is) refl) (told_are_three b is ks)

elements_of : (x : Option Block) (vs : List Value) → option_map elements x ≡ Some vs → (b : Block) × ((x ≡ Some b) × (elements b ≡ vs))
elements_of None vs is = absurd cc
elements_of (Some b) vs is = (b, (refl, (let same : elements b ≡ vs = cc in same)))

block_of : (x : Option SceneObject) (b : Block) → option_and_then (λ (o : SceneObject). o.block) x ≡ Some b → (p : SceneObject) × ((x ≡ Some p) × (p.block ≡ Some b))
block_of None b is = absurd cc
block_of (Some p) b is = (p, (refl, is))

three_corners : (objects : SceneObjects) (h : ℕ) (g : SceneObject) → IsTyped objects → object_at objects h ≡ Some g → g.kind ≡ GeometryTriangle →
    All (λ (c : List ℕ). length c ≡ 3) (corners_of objects g)
three_corners objects h g typed there kind = by (array_named objects g (codes "primitive.index")) refl
  where
    by : (x : Option (List Value)) → array_named objects g (codes "primitive.index") ≡ x → All (λ (c : List ℕ). length c ≡ 3) (corners_by x (length (positions_of objects g)))
    by None is = next_are_three (range_with_len 0 (length (positions_of objects g) / 3))
    by (Some vs) is =
        let found : (b : Block) × ((option_and_then (λ (array : SceneObject). array.block) (object_named objects g (codes "primitive.index")) ≡ Some b) × (elements b ≡ vs)) =
        elements_of (option_and_then (λ (array : SceneObject). array.block) (object_named objects g (codes "primitive.index"))) vs is in
        let array : (p : SceneObject) × ((object_named objects g (codes "primitive.index") ≡ Some p) × (p.block ≡ Some found.0)) =
        block_of (object_named objects g (codes "primitive.index")) found.0 found.1.0 in
        let at_k = named_handle objects _ array.0 array.1.0 in
        let takes : Takes (array_row ty.Uint32Vec3) array.0.kind =
        subst (λ k. IsSomeAnd (row_of k (codes "primitive.index")) (λ row. Takes row array.0.kind)) kind
        (typed.named h g (codes "primitive.index") array.0 there array.1.0) in
        let both : Array ty.Uint32Vec3 ≡ Array found.0.elem = sym takes.1 ∙ typed.array at_k.0 array.0 found.0 at_k.1.1 array.1.1 in
        let elem : found.0.elem ≡ ty.Uint32Vec3 = cc in
        subst (λ vs. All (λ (c : List ℕ). length c ≡ 3) (map (λ v. indices_in (Some v)) vs)) found.1.1 (told_are_three found.0 elem (range_with_len 0 found.0.count))

-- the shapes of a geometry that passes its tests under a transform
shapes_within : (objects : SceneObjects) (h : ℕ) (g : SceneObject) (m : Mat34) → IsTyped objects → object_at objects h ≡ Some g → AllPass (geometry_tests g.kind objects g m) →
    All IsShapeWithin (shapes_of objects g m)
unfolding shapes_of
shapes_within objects h g m typed there pass = by g.kind refl pass
  where
    by : (kind : Kind) → g.kind ≡ kind → AllPass (geometry_tests kind objects g m) → All IsShapeWithin (shapes_by kind objects g m)
    by GeometryTriangle is pass = triangles_within m (positions_of objects g) (corners_of objects g) (three_corners objects h g typed there is) pass
    by GeometrySphere is pass =
        spheres_within m (own_radii objects g) (common_radius g) 0 (positions_of objects g) pass.0
        (λ k less. radii_pass m (own_radii objects g) (common_radius g) (length (positions_of objects g)) pass.1 k (omega (arith, less)))
    by _ is pass = All-nil IsShapeWithin

-- what a surface shows
numbered : (n : ℕ) (shapes : List Shape) → All IsShapeWithin shapes → All (λ (shape : ℕ × Shape). IsShapeWithin shape.1) (enumerate_from n shapes)
numbered n [] within = All-nil (λ (shape : ℕ × Shape). IsShapeWithin shape.1)
numbered n (s ∷ shapes) within =
    All-cons (λ (shape : ℕ × Shape). IsShapeWithin shape.1) (n, s) (enumerate_from (n + 1) shapes) (All-head IsShapeWithin s shapes within)
    (numbered (n + 1) shapes (All-tail IsShapeWithin s shapes within))

is_matte : (kind : Kind) → type_of_kind kind ≡ ty.Material → kind ≡ MaterialMatte
is_matte MaterialMatte is = refl
is_matte (Array elem) is = absurd cc
is_matte CameraOrthographic is = absurd cc
is_matte _ is = absurd cc

module _ (objects : SceneObjects) (typed : IsTyped objects) where
  -- of a visited surface
  record IsSurface (v : Visit) : Type 0 where
    kind : v.object.kind ≡ SurfaceDefault
    there : object_at objects v.handle ≡ Some v.object
    below : HoldsBelow (Passes objects) objects v

  geometry_within : (v : Visit) → IsSurface v → All (λ (shape : ℕ × Shape). IsShapeWithin shape.1) (surface_shapes objects v.spot v.object)
  geometry_within v surface = by (object_named objects v.object (codes "geometry")) refl
    where
      by : (x : Option SceneObject) → object_named objects v.object (codes "geometry") ≡ x →
          All (λ (shape : ℕ × Shape). IsShapeWithin shape.1) (enumerate_from 0 (option_map_or (λ geometry. shapes_of objects geometry v.spot.transform) x []))
      by None is = All-nil (λ (shape : ℕ × Shape). IsShapeWithin shape.1)
      by (Some g) is =
          let visited = holds_of_named (Passes objects) objects v 0 (codes "geometry") (required_row ty.Geometry) g (ap (λ k. slice_get (rows_of k) 0) surface.kind) is surface.below in
          numbered 0 (shapes_of objects g v.spot.transform)
          (shapes_within objects visited.0 g v.spot.transform typed visited.1.0
          (subst (λ k. AllPass (geometry_tests g.kind objects g (at_parameters_of k v.object v.spot).transform)) surface.kind visited.1.1.1))

  material_passes : (v : Visit) (material : SceneObject) → IsSurface v → object_named objects v.object (codes "material") ≡ Some material → AllPass (tests_of MaterialMatte v.spot.transform material)
  material_passes v material surface found =
      let visited = holds_of_named (Passes objects) objects v 1 (codes "material") (required_row ty.Material) material (ap (λ k. slice_get (rows_of k) 1) surface.kind) found surface.below in
      let takes : Takes (required_row ty.Material) material.kind =
      subst (λ k. IsSomeAnd (row_of k (codes "material")) (λ row. Takes row material.kind)) surface.kind (typed.named v.handle v.object (codes "material") material surface.there found) in
      subst (λ k. AllPass (tests_of k v.spot.transform material)) (is_matte material.kind takes.0)
      (subst (λ k. AllPass (tests_of material.kind (at_parameters_of k v.object v.spot).transform material)) surface.kind visited.1.1.0)

  surface_within : (v : Visit) → IsSurface v → All IsPrimitiveWithin (surface_primitives objects v.spot v.object)
  surface_within v surface = by (object_named objects v.object (codes "material")) refl
    where
      by : (x : Option SceneObject) → object_named objects v.object (codes "material") ≡ x →
          All IsPrimitiveWithin (option_map_or (λ material. map (primitive v.spot v.object material) (surface_shapes objects v.spot v.object)) x [])
      by None is = All-nil IsPrimitiveWithin
      by (Some material) is =
          let pass = material_passes v material surface is in
          All-map IsPrimitiveWithin (primitive v.spot v.object material) (surface_shapes objects v.spot v.object)
          (each (λ (shape : ℕ × Shape). IsShapeWithin shape.1) (λ shape. IsPrimitiveWithin (primitive v.spot v.object material shape)) (surface_shapes objects v.spot v.object)
          (λ shape within. record {
            shape = within;
            color = color_within (scalars_of material (codes "color")) pass.0;
            opacity = number_between 0 65536 (scalar_of material (codes "opacity")) pass.1.0;
          }) (geometry_within v surface))

  visit_within : (v : Visit) → object_at objects v.handle ≡ Some v.object → HoldsBelow (Passes objects) objects v → All IsPrimitiveWithin (primitives_at objects v)
  visit_within v there below = by v.object.kind refl
    where
      by : (kind : Kind) → v.object.kind ≡ kind → All IsPrimitiveWithin (primitives_by kind objects v)
      by SurfaceDefault is = surface_within v (record { kind = is; there = there; below = below })
      by _ is = All-nil IsPrimitiveWithin

-- lights
light_within : (objects : SceneObjects) (v : Visit) → Passes objects v → (light : LightRow) → light_at v ≡ Some light → IsReadLight light → IsLightWithin light
light_within objects v pass light is read = by v.object.kind pass.0 is
  where
    by : (kind : Kind) → AllPass (tests_of kind v.spot.transform v.object) → light_by kind v.spot v.object ≡ Some light → IsLightWithin light
    by LightDirectional pass is =
        let same : Directional (linear v.spot.transform (vector_of v.object (codes "direction"))) (scalars_of v.object (codes "color")) (scalar_of v.object (codes "irradiance")) ≡ light = cc in
        subst (λ light. IsReadLight light → IsLightWithin light) same
        (λ near. record {
          near = near;
          colored = color_within (scalars_of v.object (codes "color")) pass.0;
          shining = amount_within (scalar_of v.object (codes "irradiance")) pass.1.0;
        }) read
    by LightPoint pass is =
        let same : Point (placed v.spot.transform (vector_of v.object (codes "position"))) (scalars_of v.object (codes "color")) (scalar_of v.object (codes "intensity")) ≡ light = cc in
        subst IsLightWithin same (record {
          near = point_within (placed v.spot.transform (vector_of v.object (codes "position"))) pass.0;
          colored = color_within (scalars_of v.object (codes "color")) pass.1.0;
          shining = amount_within (scalar_of v.object (codes "intensity")) pass.1.1.0;
        })
    by (Array elem) pass is = absurd cc
    by CameraOrthographic pass is = absurd cc
    by _ pass is = absurd cc

both_hold : {X : Type 0} (P Q : X → Type 0) (xs : List X) → All (λ x. P x → Q x) xs → All P xs → All Q xs
both_hold P Q [] more h = All-nil Q
both_hold P Q (x ∷ xs) more h =
    All-cons Q x xs (All-head (λ x. P x → Q x) x xs more (All-head P x xs h)) (both_hold P Q xs (All-tail (λ x. P x → Q x) x xs more) (All-tail P x xs h))

pub lights_within : (objects : SceneObjects) (visits : List Visit) → All (Passes objects) visits → All IsReadLight (lights_of visits) → All IsLightWithin (lights_of visits)
unfolding lights_of
lights_within objects visits pass read =
    both_hold IsReadLight IsLightWithin (lights_of visits) (chosen (Passes objects) (λ light. IsReadLight light → IsLightWithin light) light_at visits (light_within objects) pass) read

-- cameras
camera_within : (kind : Kind) (m : Mat34) (o : SceneObject) → type_of_kind kind ≡ ty.Camera → AllPass (tests_of kind m o) → IsReadCamera (camera_by kind o) → IsCameraWithin (camera_by kind o)
camera_within CameraOrthographic m o is pass read = record {
  place = point_within (vector_of o (codes "position")) pass.0;
  ahead = read.ahead;
  upward = read.upward;
  ratio = number_between 1 (2 ^ 20) (scalar_of o (codes "aspect")) pass.1.1.1.0;
  opening = number_between 1 (2 ^ 26) (scalar_of o (codes "height")) pass.1.1.1.1.0;
}
camera_within CameraPerspective m o is pass read = record {
  place = point_within (vector_of o (codes "position")) pass.0;
  ahead = read.ahead;
  upward = read.upward;
  ratio = number_between 1 (2 ^ 20) (scalar_of o (codes "aspect")) pass.1.1.1.0;
  opening = number_between 1 (2 ^ 20) (scalar_of o (codes "tanHalfFovy")) pass.1.1.1.1.0;
}
camera_within (Array elem) m o is pass read = absurd cc
camera_within FrameDefault m o is pass read = absurd cc
camera_within _ m o is pass read = absurd cc

-- the camera that stands where none was named
no_camera_within : IsReadCamera (camera_by CameraOrthographic (nothing_of CameraOrthographic)) → IsCameraWithin (camera_by CameraOrthographic (nothing_of CameraOrthographic))
unfolding reach
no_camera_within read = record {
  place = point_within (vector_of (nothing_of CameraOrthographic) (codes "position")) refl;
  ahead = read.ahead;
  upward = read.upward;
  ratio = number_between 1 (2 ^ 20) (scalar_of (nothing_of CameraOrthographic) (codes "aspect")) refl;
  opening = number_between 1 (2 ^ 26) (scalar_of (nothing_of CameraOrthographic) (codes "height")) refl;
}

-- renderers
is_renderer : (kind : Kind) → type_of_kind kind ≡ ty.Renderer → kind ≡ RendererDefault
is_renderer RendererDefault is = refl
is_renderer (Array elem) is = absurd cc
is_renderer CameraOrthographic is = absurd cc
is_renderer _ is = absurd cc

lighting_within : (lights : List LightRow) (m : Mat34) (renderer : SceneObject) → length lights ≤ 256 → All IsLightWithin lights → AllPass (tests_of RendererDefault m renderer) →
    IsLightingWithin (lighting_by lights renderer)
lighting_within lights m renderer few within pass = record {
  few = few;
  lights = within;
  background = color_within (scalars_of renderer (codes "background")) pass.0;
  ambient_color = color_within (scalars_of renderer (codes "ambientColor")) pass.1.0;
  ambient_radiance = amount_within (scalar_of renderer (codes "ambientRadiance")) pass.1.1.0;
}

-- sides
side_within : (n : ℕ) → is_side n ≡ true → IsSide n
side_within n pass =
    let both : (nat_le 1 n ≡ true) × (nat_le n 4096 ≡ true) = and_parts (nat_le 1 n) (nat_le n 4096) pass in
    record { least = leb-true 1 n both.0; most = leb-true n 4096 both.1 }

sides_within : (size : List ℕ) → length size ≡ 2 → list_all is_side size ≡ true → IsSide (slice_index_or size 0 0) × IsSide (slice_index_or size 1 0)
sides_within [] two pass = absurd (omega (arith, two))
sides_within (w ∷ []) two pass = absurd (omega (arith, two))
sides_within (w ∷ h ∷ rest) two pass =
    let first : (is_side w ≡ true) × (list_all is_side (h ∷ rest) ≡ true) = and_parts (is_side w) (list_all is_side (h ∷ rest)) pass in
    let second : (is_side h ≡ true) × (list_all is_side rest ≡ true) = and_parts (is_side h) (list_all is_side rest) first.1 in
    (side_within w first.0, side_within h second.0)

-- of a visited frame
module _ (objects : SceneObjects) (f : ℕ) (frame : SceneObject) (typed : IsTyped objects) (there : object_at objects f ≡ Some frame) (kind : frame.kind ≡ FrameDefault)
    (below : HoldsBelow (Passes objects) objects (visit (at_origin, f) frame)) where
  camera_of_frame : IsReadCamera (camera_of objects frame) → IsCameraWithin (camera_of objects frame)
  camera_of_frame = by (object_named objects frame (codes "camera")) refl
    where
      by : (x : Option SceneObject) → object_named objects frame (codes "camera") ≡ x →
          IsReadCamera (let camera : SceneObject = unwrap_or x (nothing_of CameraOrthographic) in camera_by camera.kind camera) →
          IsCameraWithin (let camera : SceneObject = unwrap_or x (nothing_of CameraOrthographic) in camera_by camera.kind camera)
      by None is read = no_camera_within read
      by (Some camera) is read =
          let visited = holds_of_named (Passes objects) objects (visit (at_origin, f) frame) 1 (codes "camera") (required_row ty.Camera) camera (ap (λ k. slice_get (rows_of k) 1) kind) is below in
          let takes : Takes (required_row ty.Camera) camera.kind =
          subst (λ k. IsSomeAnd (row_of k (codes "camera")) (λ row. Takes row camera.kind)) kind (typed.named f frame (codes "camera") camera there is) in
          camera_within camera.kind (at_parameters_of frame.kind frame at_origin).transform camera takes.0 visited.1.1.0 read

  lighting_of_frame : (lights : List LightRow) → length lights ≤ 256 → All IsLightWithin lights →
      IsLightingWithin (lighting_by lights (unwrap_or (object_named objects frame (codes "renderer")) (nothing_of RendererDefault)))
  lighting_of_frame lights few within = by (object_named objects frame (codes "renderer")) refl
    where
      by : (x : Option SceneObject) → object_named objects frame (codes "renderer") ≡ x → IsLightingWithin (lighting_by lights (unwrap_or x (nothing_of RendererDefault)))
      by None is = lighting_within lights at_origin.transform (nothing_of RendererDefault) few within (refl, (refl, (refl, tt)))
      by (Some renderer) is =
          let visited = holds_of_named (Passes objects) objects (visit (at_origin, f) frame) 2 (codes "renderer") (required_row ty.Renderer) renderer (ap (λ k. slice_get (rows_of k) 2) kind) is below in
          let takes : Takes (required_row ty.Renderer) renderer.kind =
          subst (λ k. IsSomeAnd (row_of k (codes "renderer")) (λ row. Takes row renderer.kind)) kind (typed.named f frame (codes "renderer") renderer there is) in
          let m : Mat34 = (at_parameters_of frame.kind frame at_origin).transform in
          lighting_within lights m renderer few within (subst (λ k. AllPass (tests_of k m renderer)) (is_renderer renderer.kind takes.0) visited.1.1.0)

-- all that a walk shows
pub primitives_within : (objects : SceneObjects) (f : ℕ) → IsTyped objects → All (HoldsBelow (Passes objects) objects) (walk objects f) → All IsPrimitiveWithin (primitives_of objects (walk objects f))
unfolding primitives_of
primitives_within objects f typed below =
    put_together IsPrimitiveWithin (primitives_at objects) (walk objects f)
    (both_hold (λ v. object_at objects v.handle ≡ Some v.object) (λ v. All IsPrimitiveWithin (primitives_at objects v)) (walk objects f)
    (each (HoldsBelow (Passes objects) objects) (λ v. object_at objects v.handle ≡ Some v.object → All IsPrimitiveWithin (primitives_at objects v)) (walk objects f)
    (λ v below there. visit_within objects typed v there below) below)
    (visits_are_objects objects f))

-- what a frame adds to the world that it shows, under the world's lights
pub record IsFrameWithin (objects : SceneObjects) (frame : SceneObject) (lights : List LightRow) : Type 0 where
  pub camera : IsCameraWithin (camera_of objects frame)
  pub lighting : IsLightingWithin (lighting_by lights (unwrap_or (object_named objects frame (codes "renderer")) (nothing_of RendererDefault)))
  pub width : IsSide (side_of frame 0)
  pub height : IsSide (side_of frame 1)

pub frame_within : (objects : SceneObjects) (f : ℕ) (frame : SceneObject) (lights : List LightRow) → IsTyped objects → AreRanked objects → object_at objects f ≡ Some frame → frame.kind ≡ FrameDefault →
    IsFaultless objects (walk objects f) → length (sizes_in (value_at frame (codes "size"))) ≡ 2 → IsReadCamera (camera_of objects frame) → length lights ≤ 256 → All IsLightWithin lights →
    IsFrameWithin objects frame lights
unfolding walk
frame_within objects f frame lights typed ranked there kind faultless two camera few within =
    let below : All (HoldsBelow (Passes objects) objects) (walk objects f) = all_hold_below (Passes objects) objects f ranked faultless.passing in
    let here : HoldsBelow (Passes objects) objects (visit (at_origin, f) frame) = first_visit (HoldsBelow (Passes objects) objects) objects 9 (at_origin, f) frame there below in
    let own : Passes objects (visit (at_origin, f) frame) = first_visit (Passes objects) objects 9 (at_origin, f) frame there faultless.passing in
    let tests : AllPass (tests_of FrameDefault at_origin.transform frame) = subst (λ k. AllPass (tests_of k at_origin.transform frame)) kind own.0 in
    let sides : IsSide (side_of frame 0) × IsSide (side_of frame 1) = sides_within (sizes_in (value_at frame (codes "size"))) two tests.0 in
    record {
      camera = camera_of_frame objects f frame typed there kind here camera;
      lighting = lighting_of_frame objects f frame typed there kind here lights few within;
      width = sides.0;
      height = sides.1;
    }

scene_by_within : (objects : SceneObjects) (f : ℕ) (frame : SceneObject) → IsTyped objects → AreRanked objects → object_at objects f ≡ Some frame → frame.kind ≡ FrameDefault →
    IsFaultless objects (walk objects f) → length (sizes_in (value_at frame (codes "size"))) ≡ 2 → IsReadCamera (camera_of objects frame) → All IsReadLight (lights_of (walk objects f)) →
    IsSceneWithin (scene_by objects frame (walk objects f))
unfolding scene_by
scene_by_within objects f frame typed ranked there kind faultless two camera lights =
    let below : All (HoldsBelow (Passes objects) objects) (walk objects f) = all_hold_below (Passes objects) objects f ranked faultless.passing in
    let within : IsFrameWithin objects frame (lights_of (walk objects f)) =
    frame_within objects f frame (lights_of (walk objects f)) typed ranked there kind faultless two camera faultless.lights (lights_within objects (walk objects f) faultless.passing lights) in
    record {
      primitives = primitives_within objects f typed below;
      camera = within.camera;
      lighting = within.lighting;
      width = within.width;
      height = within.height;
    }

-- the scene of a frame whose walk has no fault is within the limits, where its size has two sides, and its numbers were read as values
pub scene_within : (objects : SceneObjects) (f : ℕ) (frame : SceneObject) → IsTyped objects → AreRanked objects → object_at objects f ≡ Some frame → frame.kind ≡ FrameDefault →
    fault_of objects (walk objects f) ≡ None → length (sizes_in (value_at frame (codes "size"))) ≡ 2 → IsReadScene (value_at frame (codes "size")) (scene objects f) → IsSceneWithin (scene objects f)
unfolding scene scene_by
scene_within objects f frame typed ranked there kind none two read =
    let is : scene objects f ≡ scene_by objects frame (walk objects f) = ap (λ x. scene_by objects (unwrap_or x (nothing_of FrameDefault)) (walk objects f)) there in
    let same : IsReadScene (value_at frame (codes "size")) (scene_by objects frame (walk objects f)) = subst (IsReadScene (value_at frame (codes "size"))) is read in
    subst IsSceneWithin (sym is) (scene_by_within objects f frame typed ranked there kind (faultless objects (walk objects f) none) two same.camera same.lights)

-- an object whose kind is told
pub found_kind : (x : Option SceneObject) (kind : Kind) → option_map (λ (o : SceneObject). o.kind) x ≡ Some kind → (o : SceneObject) × ((x ≡ Some o) × (o.kind ≡ kind))
found_kind None kind is = absurd cc
found_kind (Some o) kind is = (o, (refl, (let same : o.kind ≡ kind = cc in same)))

-- a test that finds nothing fails at each place
not_found : {X : Type 0} (p : X → Bool) (xs : List X) (i : ℕ) (x : X) → find p xs ≡ None → slice_get xs i ≡ Some x → p x ≡ false
not_found p [] i x none there = absurd cc
not_found p (y ∷ xs) i x none there = by (p y) refl i there (λ i rest. not_found p xs i x rest)
  where
    by : (b : Bool) → p y ≡ b → (i : ℕ) → slice_get (y ∷ xs) i ≡ Some x → ((i : ℕ) → find p xs ≡ None → slice_get xs i ≡ Some x → p x ≡ false) → p x ≡ false
    by true is i there rest = let some : Some y ≡ None = sym (ap (λ b. cond b (Some y) (find p xs)) is) ∙ none in absurd cc
    by false is zero there rest = let same : y ≡ x = cc in sym (ap p same) ∙ is
    by false is (suc i) there rest = rest i (sym (ap (λ b. cond b (Some y) (find p xs)) is) ∙ none) there

-- a complete frame has a size
pub has_size : (frame : SceneObject) → frame.kind ≡ FrameDefault → missing_parameter frame ≡ None → (v : Value) × (value_named (codes "size") frame.committed ≡ Some v)
has_size frame kind complete = by (value_named (codes "size") frame.committed) refl
  where
    of_map : (x : Option (List ℕ × Row)) → option_map (λ (row : List ℕ × Row). row.0) x ≡ None → x ≡ None
    of_map None none = refl
    of_map (Some x) none = absurd cc

    given : is_none (value_named (codes "size") frame.committed) ≡ false
    given =
        not_found (λ (row : List ℕ × Row). row.1.required && is_none (value_named row.0 frame.committed)) (rows_of frame.kind) 3 (codes "size", required_row ty.Uint32Vec2)
        (of_map (find (λ (row : List ℕ × Row). row.1.required && is_none (value_named row.0 frame.committed)) (rows_of frame.kind)) complete)
        (ap (λ k. slice_get (rows_of k) 3) kind)

    by : (x : Option Value) → value_named (codes "size") frame.committed ≡ x → (v : Value) × (value_named (codes "size") frame.committed ≡ Some v)
    by (Some v) is = (v, is)
    by None is = let wrong : true ≡ false = sym (ap is_none is) ∙ given in absurd cc

-- and that has two sides
pub two_sides : (v : Value) → type_of v ≡ ty.Uint32Vec2 → is_well_typed v ≡ true → HasSides (Some v) → length (sizes_in (Some v)) ≡ 2
two_sides (Uint32Vec2 sides) is typed read = read
two_sides (Named t h) is typed read = let wrong : false ≡ true = sym (ap is_object_type is) ∙ typed in absurd cc
two_sides (Int32 z) is typed read = absurd cc
two_sides _ is typed read = absurd cc

-- the size of a complete frame whose values have the types of their parameters
pub sized : (objects : SceneObjects) (f : ℕ) (frame : SceneObject) → AreFit objects → object_at objects f ≡ Some frame → frame.kind ≡ FrameDefault →
    IsFaultless objects (walk objects f) → HasSides (value_at frame (codes "size")) → length (sizes_in (value_at frame (codes "size"))) ≡ 2
unfolding walk
sized objects f frame fit there kind faultless sides =
    ap (λ x. length (sizes_in x)) value ∙ two_sides size.0 typed.0 typed.1 (subst HasSides value sides)
  where
    size : (v : Value) × (value_named (codes "size") frame.committed ≡ Some v)
    size = has_size frame kind (first_visit (λ v. missing_parameter v.object ≡ None) objects 9 (at_origin, f) frame there faultless.complete)

    value : value_at frame (codes "size") ≡ Some size.0
    value = ap (λ x. option_or x (default_of frame.kind (codes "size"))) size.1

    typed : HasTypeOf (required_row ty.Uint32Vec2) size.0
    typed = subst (λ k. MatchOption (row_of k (codes "size")) (Unit {0}) (λ row. HasTypeOf row size.0)) kind (fit.valued f frame (codes "size") size.0 there size.1)

-- so the scene of a frame whose walk has no fault is within the limits
pub fit_scene_within : (objects : SceneObjects) (f : ℕ) (frame : SceneObject) → AreFit objects → object_at objects f ≡ Some frame → frame.kind ≡ FrameDefault →
    fault_of objects (walk objects f) ≡ None → IsReadScene (value_at frame (codes "size")) (scene objects f) → IsSceneWithin (scene objects f)
fit_scene_within objects f frame fit there kind none read =
    scene_within objects f frame fit.typed fit.ranked there kind none (sized objects f frame fit there kind (faultless objects (walk objects f) none) read.sides) read

-- and so is what a frame adds to a world
pub fit_frame_within : (objects : SceneObjects) (f : ℕ) (frame : SceneObject) (lights : List LightRow) → AreFit objects → object_at objects f ≡ Some frame → frame.kind ≡ FrameDefault →
    fault_of objects (walk objects f) ≡ None → HasSides (value_at frame (codes "size")) → IsReadCamera (camera_of objects frame) → length lights ≤ 256 → All IsLightWithin lights →
    IsFrameWithin objects frame lights
fit_frame_within objects f frame lights fit there kind none sides camera few within =
    let faultless_ : IsFaultless objects (walk objects f) = faultless objects (walk objects f) none in
    frame_within objects f frame lights fit.typed fit.ranked there kind faultless_ (sized objects f frame fit there kind faultless_ sides) camera few within

-- what a walk without a fault shows, from any object
pub record IsShownWithin (objects : SceneObjects) (root : ℕ) : Type 0 where
  pub primitives : All IsPrimitiveWithin (primitives_of objects (walk objects root))
  pub few : length (lights_of (walk objects root)) ≤ 256
  pub lights : All IsReadLight (lights_of (walk objects root)) → All IsLightWithin (lights_of (walk objects root))

pub fit_shown_within : (objects : SceneObjects) (root : ℕ) → AreFit objects → fault_of objects (walk objects root) ≡ None → IsShownWithin objects root
fit_shown_within objects root fit none =
    let faultless_ : IsFaultless objects (walk objects root) = faultless objects (walk objects root) none in
    record {
      primitives = primitives_within objects root fit.typed (all_hold_below (Passes objects) objects root fit.ranked faultless_.passing);
      few = faultless_.lights;
      lights = lights_within objects (walk objects root) faultless_.passing;
    }
