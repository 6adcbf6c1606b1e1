-- A tile on its way: row by row from the lowest, and in each row channel by channel.
use Rattle.std.specs.Prelude.{◌≡◌, ℕ, ◌+◌, ◌*◌, ◌<◌}
use Rattle.fx_math.specs.declared.scene.Scene.{Scene}
use Rattle.picture_model.specs.declared.records.Plane.TheVariants.{Color, PrimitiveId, ObjectId, InstanceId}
use Rattle.picture_model.specs.Pictures.{in_a_row, pixel}
use Rattle.tile_claims.specs.declared.key.Key.{Key}
use Rattle.tile_claims.specs.Parts.{row_shown}
use Rattle.tile_claims.specs.Pixels.{Pixels, row}
use Rattle.tile_render.specs.declared.pixels.Pixel.{Pixel}
use Rattle.tile_render.specs.declared.rows.RowPixels.{RowPixels}

-- the pixel is that of a place in the four pictures
pub record IsPixelAt (scene : Scene) (x y : ℕ) (p : Pixel) : Type 0 where
  pub color : p.color ≡ pixel scene Color x y
  pub primitive_id : p.primitive_id ≡ pixel scene PrimitiveId x y
  pub object_id : p.object_id ≡ pixel scene ObjectId x y
  pub instance_id : p.instance_id ≡ pixel scene InstanceId x y

-- the pixels are n of row y of the four pictures, from column x0 on
pub record AreInRow (scene : Scene) (x0 n y : ℕ) (r : RowPixels) : Type 0 where
  pub color : r.color.items ≡ in_a_row (λ x. pixel scene Color x y) x0 n
  pub primitive_id : r.primitive_id.items ≡ in_a_row (λ x. pixel scene PrimitiveId x y) x0 n
  pub object_id : r.object_id.items ≡ in_a_row (λ x. pixel scene ObjectId x y) x0 n
  pub instance_id : r.instance_id.items ≡ in_a_row (λ x. pixel scene InstanceId x y) x0 n

-- the tile's rows are the picture's in all channels below row y, and in row y in the channels before this one
abbrev pub AreFilled : Key → ℕ → Pixels → ℕ → ℕ → Type 0
AreFilled key tile p y channel = (other z : ℕ) → other < 4 → z < p.h → z * 4 + other < y * 4 + channel → row p other z ≡ row_shown key tile other z
