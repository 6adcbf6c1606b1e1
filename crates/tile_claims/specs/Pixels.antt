-- What contracts see of a tile's pixels.
use Rattle.std.specs.Prelude.{◌≡◌, ℕ, ◌+◌, ◌*◌, ◌≤◌, List, ◌++◌, length, take, drop}
use Rattle.std.specs.List.{refill}

-- four channels, one behind the other, each with h rows of w pixels of 4 bytes
pub record Pixels : Type 0 where
  pub w : ℕ
  pub h : ℕ
  pub bytes : List ℕ

-- the sides are those of a tile, and the bytes as many as they need
pub record IsWhole (w h : ℕ) (bytes : List ℕ) : Type 0 where
  pub width : w ≤ 16
  pub height : h ≤ 16
  pub size : length bytes ≡ 4 * h * (4 * w)

-- where row y of a channel begins
abbrev pub row_start : Pixels → ℕ → ℕ → ℕ
row_start p channel y = (channel * p.h + y) * (4 * p.w)

-- the bytes of row y of a channel
abbrev pub row : Pixels → ℕ → ℕ → List ℕ
row p channel y = take (4 * p.w) (drop (row_start p channel y) p.bytes)

-- the same pixels with other bytes from there on: as many as the row has
abbrev pub with_row : Pixels → ℕ → ℕ → List ℕ → Pixels
with_row p channel y bytes =
    let start : ℕ = row_start p channel y in
    record p { bytes = refill (length p.bytes) p.bytes (take start p.bytes ++ (bytes ++ drop (length bytes) (drop start p.bytes))) }
