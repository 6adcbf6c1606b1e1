-- The pictures of a scene: every primitive is tried at every pixel.
use Rattle.std.specs.Prelude.{Option, ℕ, zero, suc, ◌+◌, List, [], ◌++◌}
use Rattle.std.specs.Int.{to_le_bytes, w32}
use Rattle.std.specs.Option.{option_and_then, option_map, unwrap_or}
use Rattle.fx_math.specs.Ids.{no_id}
use Rattle.fx_math.specs.declared.vectors.Ray.{Ray}
use Rattle.picture_model.specs.declared.records.Plane.{Plane}
use Rattle.picture_model.specs.declared.records.Plane.TheVariants.{Color, PrimitiveId, ObjectId, InstanceId}
use Rattle.fx_math.specs.declared.scene.Primitive.{Primitive}
use Rattle.picture_model.specs.declared.records.Rect.{Rect}
use Rattle.fx_math.specs.declared.scene.Scene.{Scene}
use Rattle.picture_model.specs.Hits.{nearest}
use Rattle.picture_model.specs.Rays.{camera_ray}
use Rattle.picture_model.specs.Shading.{placed, primitive_at, shade}
use Rattle.picture_model.specs.Tiles.{tile_rect}

-- the picture with this number among the four, from 0
abbrev pub plane : ℕ → Plane
plane zero = Color
plane (suc zero) = PrimitiveId
plane (suc (suc zero)) = ObjectId
plane (suc (suc (suc n))) = InstanceId

-- the ray of pixel (x, y)
abbrev pub ray_at : Scene → ℕ → ℕ → Ray
ray_at scene x y = camera_ray scene.camera scene.width scene.height x y

-- the primitive that the ray meets first
abbrev pub front : List Primitive → Ray → Option Primitive
front primitives ray = option_and_then (λ h. primitive_at primitives h.place) (nearest ray (placed primitives))

-- an id, lowest byte first, where there may be none
abbrev pub id_bytes : Option ℕ → List ℕ
id_bytes id = to_le_bytes w32 (unwrap_or id no_id)

-- the four bytes of pixel (x, y): its colour, or an id of the front primitive
unfoldable pub pixel : Scene → Plane → ℕ → ℕ → List ℕ
pixel scene Color x y = shade scene.primitives scene.lighting (ray_at scene x y)
pixel scene PrimitiveId x y = id_bytes (option_map (λ p. p.place.prim) (front scene.primitives (ray_at scene x y)))
pixel scene ObjectId x y = id_bytes (option_map (λ p. p.object_id) (front scene.primitives (ray_at scene x y)))
pixel scene InstanceId x y = id_bytes (option_map (λ p. p.instance_id) (front scene.primitives (ray_at scene x y)))

-- f i, f (i + 1) and so on, n lists in a row
abbrev pub in_a_row : (ℕ → List ℕ) → ℕ → ℕ → List ℕ
in_a_row f i zero = []
in_a_row f i (suc n) = f i ++ in_a_row f (i + 1) n

-- the pixels of row y of a rectangle
abbrev pub row_of : (ℕ → ℕ → List ℕ) → Rect → ℕ → List ℕ
row_of pixel_at rect y = in_a_row (λ x. pixel_at x y) rect.x0 rect.w

-- the pixels of a rectangle by rows from its lower left one
unfoldable pub pixels_in : (ℕ → ℕ → List ℕ) → Rect → List ℕ
pixels_in pixel_at rect = in_a_row (row_of pixel_at rect) rect.y0 rect.h

-- the rectangle of all pixels of a frame of w by h
abbrev pub whole : ℕ → ℕ → Rect
whole w h = record { x0 = 0; y0 = 0; w = w; h = h }

-- one picture of a scene
unfoldable pub picture : Scene → Plane → List ℕ
picture scene plane = pixels_in (pixel scene plane) (whole scene.width scene.height)

-- the part of it that a tile shows
unfoldable pub part : Scene → Plane → ℕ → List ℕ
part scene plane tile = pixels_in (pixel scene plane) (tile_rect scene.width scene.height tile)
