-- The tiles of a finished picture.
use Rattle.std.specs.Prelude.{◌≡◌, ℕ, List, length, Some}
use Rattle.std.specs.List.{slice_get}
use Rattle.dev_types.specs.declared.handles.Channel.{Channel}
use Rattle.picture_model.specs.Limits.{IsSide}
use Rattle.picture_model.specs.Pictures.{picture}
use Rattle.seq_model.specs.Pictures.{plane_of}
use Rattle.tile_claims.specs.declared.key.Key.{Key}
use Rattle.tile_claims.specs.Parts.{scene_of, tiles_of, IsFilled}
use Rattle.tile_claims.specs.Pixels.{Pixels}

-- the picture of a key in a channel
abbrev pub picture_of : Key → Channel → List ℕ
picture_of key c = picture (scene_of key) (plane_of c)

-- both sides of a key are those of a frame
pub record IsSized (key : Key) : Type 0 where
  pub width : IsSide key.w
  pub height : IsSide key.h

-- these are the first tiles of the key's picture, each with its pixels
abbrev pub AreTiles : Key → List Pixels → Type 0
AreTiles key tiles = (tile : ℕ) (p : Pixels) → slice_get tiles tile ≡ Some p → IsFilled key tile p

-- they are all of them
pub record AreAll (key : Key) (tiles : List Pixels) : Type 0 where
  pub sized : IsSized key
  pub count : length tiles ≡ tiles_of key
  pub filled : AreTiles key tiles
