-- A key's picture, and its parts.
use Rattle.std.specs.Prelude.{◌≡◌, ℕ, zero, suc, ◌+◌, ◌*◌, ◌<◌, List, Option, Some}
use mathlib.Core.Option.{some}
use lib.ListN.{get_elem?}
use Rattle.fx_math.specs.declared.scene.Scene.{Scene}
use Rattle.picture_model.specs.declared.records.Rect.{Rect}
use Rattle.picture_model.specs.Pictures.{in_a_row, part, pixel, plane, row_of}
use Rattle.picture_model.specs.Tiles.{tile_count, tile_rect}
use Rattle.tile_claims.specs.declared.key.Key.{Key}
use Rattle.tile_claims.specs.Pixels.{Pixels, row}

-- the scene of a key, at the key's size
abbrev pub scene_of : Key → Scene
scene_of key = record key.scene.names { width = key.w; height = key.h }

-- the number of its tiles
abbrev pub tiles_of : Key → ℕ
tiles_of key = tile_count key.w key.h

-- where a tile lies in it
abbrev pub rect_of : Key → ℕ → Rect
rect_of key tile = tile_rect key.w key.h tile

-- what a tile shows: its parts of the four pictures, one behind the other
abbrev pub shown : Key → ℕ → List ℕ
shown key tile = in_a_row (λ channel. part (scene_of key) (plane channel) tile) 0 4

-- the picture's row y of a tile in a channel
abbrev pub row_shown : Key → ℕ → ℕ → ℕ → List ℕ
row_shown key tile channel y = row_of (pixel (scene_of key) (plane channel)) (rect_of key tile) ((rect_of key tile).y0 + y)

-- the tile's rows are the picture's, as far as they stand before row y of a channel
abbrev pub AreRows : Key → ℕ → Pixels → ℕ → ℕ → Type 0
AreRows key tile p channel y = (other z : ℕ) → other < 4 → z < p.h → other * p.h + z < channel * p.h + y → row p other z ≡ row_shown key tile other z

-- the pixels have the sides of the tile
pub record IsSized (key : Key) (tile : ℕ) (p : Pixels) : Type 0 where
  pub width : p.w ≡ (rect_of key tile).w
  pub height : p.h ≡ (rect_of key tile).h

-- the first `count` slots have the pixels of their tiles
abbrev pub AreSlots : Key → ℕ → List (Option Pixels) → Type 0
AreSlots key count slots = (tile : ℕ) → tile < count → (p : Pixels) × (get_elem? slots tile ≡ some (Some p)) × IsSized key tile p

-- the pixels are the tile's parts of the key's pictures
pub record IsFilled (key : Key) (tile : ℕ) (p : Pixels) : Type 0 where
  pub sized : IsSized key tile p
  pub shows : p.bytes ≡ shown key tile
