-- The tiles of a frame: 16 by 16 pixels, cut at the right and the upper border, numbered by rows from the lower left.
use Rattle.std.specs.Prelude.{ℕ, min, ◌+◌, ◌-◌, ◌*◌, ◌/◌, ◌%◌, ◌<◌, ◌≤◌}
use Rattle.picture_model.specs.declared.records.Rect.{Rect}

-- how many tiles stand side by side over n pixels
abbrev pub tiles_over : ℕ → ℕ
tiles_over n = (n + 15) / 16

-- the number of tiles of a frame of w by h
abbrev pub tile_count : ℕ → ℕ → ℕ
tile_count w h = tiles_over w * tiles_over h

-- the pixels of a tile of a frame of w by h
unfoldable pub tile_rect : ℕ → ℕ → ℕ → Rect
tile_rect w h tile =
    let x0 = 16 * (tile % tiles_over w) in
    let y0 = 16 * (tile / tiles_over w) in
    record { x0 = x0; y0 = y0; w = min 16 (w - x0); h = min 16 (h - y0) }

-- pixel (x, y) lies in the rectangle
pub record IsIn (rect : Rect) (x y : ℕ) : Type 0 where
  pub left : rect.x0 ≤ x
  pub right : x < rect.x0 + rect.w
  pub below : rect.y0 ≤ y
  pub above : y < rect.y0 + rect.h
