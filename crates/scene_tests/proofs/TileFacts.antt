-- How high the first tile of a frame is.
use Rattle.std.proofs.Common.{◌≡◌, ℕ, ◌+◌, ◌/◌, ◌≤◌, arith}
use Rattle.std.proofs.Math.Nat.{zero-div}
use Rattle.picture_model.specs.Tiles.{tile_rect}

-- the first tile of a frame that is not higher is as high as the frame
pub first_height : (w h : ℕ) → h ≤ 16 → (tile_rect w h 0).h ≡ h
unfolding tile_rect
first_height w h small = let lowest : 0 / ((w + 15) / 16) ≡ 0 = zero-div ((w + 15) / 16) in omega (arith, lowest, small)
