-- A mapped channel of a frame (ANARI 1.0 Specification, Frame: mapping).
use Rattle.std.specs.Prelude.{ℕ, ◌+◌, ◌-◌, ◌*◌, min, List, take, drop}
use Rattle.dev_types.specs.declared.handles.Channel.{Channel}

-- the frame, the channel, the number of the loan, the size in pixels, and the picture's bytes: four a pixel, by rows from the lowest
pub record Mapped : Type 0 where
  pub frame : ℕ
  pub channel : Channel
  pub number : ℕ
  pub width : ℕ
  pub height : ℕ
  pub bytes : List ℕ

-- the bytes of a number of pixels of row y from column x on
abbrev pub pixels_at : Mapped → ℕ → ℕ → ℕ → List ℕ
pixels_at m x y count = take (4 * count) (drop (4 * (y * m.width + x)) m.bytes)

-- the bytes of pixel (x, y)
abbrev pub pixel_at : Mapped → ℕ → ℕ → List ℕ
pixel_at m x y = pixels_at m x y 1

-- the bytes of row y within a column of tiles, which are 16 pixels wide, or less at the right border
abbrev pub part_at : Mapped → ℕ → ℕ → List ℕ
part_at m y tile = pixels_at m (16 * tile) y (min 16 (m.width - 16 * tile))
