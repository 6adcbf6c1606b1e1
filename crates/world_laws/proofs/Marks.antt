-- Whether an object is mapped has no part in what it shows.
use Rattle.std.proofs.Common.{◌≡◌, ◌∙◌, List, [], ◌∷◌, ◌++◌, Option, Some, None, map, refl, sym, ap}
use Rattle.std.specs.List.{filter_map, flat_map}
use Rattle.std.specs.Option.{option_and_then, option_map}
use Rattle.fx_math.specs.declared.scene.LightRow.{LightRow}
use Rattle.fx_math.specs.declared.transforms.Mat34.{Mat34}
use Rattle.kind_tables.specs.SceneObjects.{SceneObject, SceneObjects}
use Rattle.kind_tables.specs.Scenes.{light_at, light_by, lights_of, primitives_at, primitives_by}
use Rattle.kind_tables.specs.Shapes.{shapes_by, shapes_of}
use Rattle.kind_tables.specs.Walks.{Visit, visited}
use Rattle.kind_tables.specs.declared.kinds.Kind.{Kind}
use Rattle.kind_tables.specs.declared.kinds.Kind.TheVariants.{Array, CameraOrthographic, GeometrySphere, GeometryTriangle, LightDirectional, LightPoint, SurfaceDefault}
use Rattle.past_laws.specs.Stills.{unmarked, unmarked_visit}

primitives_unmarked_by : (kind : Kind) (objects : SceneObjects) (v : Visit) → primitives_by kind objects (unmarked_visit v) ≡ primitives_by kind objects v
primitives_unmarked_by SurfaceDefault objects v = refl
primitives_unmarked_by (Array elem) objects v = refl
primitives_unmarked_by CameraOrthographic objects v = refl
primitives_unmarked_by _ objects v = refl

pub primitives_unmarked : (objects : SceneObjects) (v : Visit) → primitives_at objects (unmarked_visit v) ≡ primitives_at objects v
primitives_unmarked objects v = primitives_unmarked_by v.object.kind objects v

light_unmarked_by : (kind : Kind) (v : Visit) → light_by kind v.spot (unmarked v.object) ≡ light_by kind v.spot v.object
light_unmarked_by LightDirectional v = refl
light_unmarked_by LightPoint v = refl
light_unmarked_by (Array elem) v = refl
light_unmarked_by CameraOrthographic v = refl
light_unmarked_by _ v = refl

light_unmarked : (v : Visit) → light_at (unmarked_visit v) ≡ light_at v
light_unmarked v = light_unmarked_by v.object.kind v

shapes_unmarked_by : (kind : Kind) (objects : SceneObjects) (g : SceneObject) (m : Mat34) → shapes_by kind objects (unmarked g) m ≡ shapes_by kind objects g m
shapes_unmarked_by GeometryTriangle objects g m = refl
shapes_unmarked_by GeometrySphere objects g m = refl
shapes_unmarked_by (Array elem) objects g m = refl
shapes_unmarked_by CameraOrthographic objects g m = refl
shapes_unmarked_by _ objects g m = refl

shapes_unmarked : (objects : SceneObjects) (g : SceneObject) (m : Mat34) → shapes_of objects (unmarked g) m ≡ shapes_of objects g m
unfolding shapes_of
shapes_unmarked objects g m = shapes_unmarked_by g.kind objects g m

pub same_shapes : (objects : SceneObjects) (g h : SceneObject) (m : Mat34) → unmarked g ≡ unmarked h → shapes_of objects g m ≡ shapes_of objects h m
same_shapes objects g h m same = sym (shapes_unmarked objects g m) ∙ ap (λ o. shapes_of objects o m) same ∙ shapes_unmarked objects h m

-- the block of an object that may be there
pub same_block : (x y : Option SceneObject) → option_map unmarked x ≡ option_map unmarked y → option_and_then (λ (o : SceneObject). o.block) x ≡ option_and_then (λ (o : SceneObject). o.block) y
same_block x y same = sym (of x) ∙ ap (option_and_then (λ (o : SceneObject). o.block)) same ∙ of y
  where
    of : (x : Option SceneObject) → option_and_then (λ (o : SceneObject). o.block) (option_map unmarked x) ≡ option_and_then (λ (o : SceneObject). o.block) x
    of None = refl
    of (Some o) = refl

-- lists of visits
pub flat_unmarked : (objects : SceneObjects) (vs : List Visit) → flat_map (primitives_at objects) (map unmarked_visit vs) ≡ flat_map (primitives_at objects) vs
flat_unmarked objects [] = refl
flat_unmarked objects (v ∷ vs) =
    ap (λ ps. ps ++ flat_map (primitives_at objects) (map unmarked_visit vs)) (primitives_unmarked objects v)
    ∙ ap (λ ps. primitives_at objects v ++ ps) (flat_unmarked objects vs)

lights_unmarked : (vs : List Visit) → filter_map light_at (map unmarked_visit vs) ≡ filter_map light_at vs
lights_unmarked [] = refl
lights_unmarked (v ∷ vs) = by (light_at v) (light_unmarked v) refl (lights_unmarked vs)
  where
    by : (l : Option LightRow) → light_at (unmarked_visit v) ≡ light_at v → light_at v ≡ l → filter_map light_at (map unmarked_visit vs) ≡ filter_map light_at vs →
        filter_map light_at (map unmarked_visit (v ∷ vs)) ≡ filter_map light_at (v ∷ vs)
    by None same is rest = rw same (rw is rest)
    by (Some l) same is rest = rw same (rw is (ap (λ ls. l ∷ ls) rest))

pub same_lights : (xs ys : List Visit) → map unmarked_visit xs ≡ map unmarked_visit ys → lights_of xs ≡ lights_of ys
unfolding lights_of
same_lights xs ys same = sym (lights_unmarked xs) ∙ ap (filter_map light_at) same ∙ lights_unmarked ys

visited_unmarked : (vs : List Visit) → visited (map unmarked_visit vs) ≡ visited vs
visited_unmarked [] = refl
visited_unmarked (v ∷ vs) = ap (λ hs. v.handle ∷ hs) (visited_unmarked vs)

pub same_reach : (xs ys : List Visit) → map unmarked_visit xs ≡ map unmarked_visit ys → visited xs ≡ visited ys
same_reach xs ys same = sym (visited_unmarked xs) ∙ ap visited same ∙ visited_unmarked ys
