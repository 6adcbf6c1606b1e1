-- The tiles of a frame lie in it, and each pixel lies in exactly one of them.
use Rattle.std.proofs.Common.{◌≡◌, ℕ, zero, suc, ◌+◌, ◌*◌, ◌/◌, ◌%◌, ◌<◌, ◌≤◌, arith, sym}
use Rattle.std.proofs.lemmas.Nat.{div-add-mod', div-mul-add, mod-mul-add}
use Rattle.std.proofs.Math.Nat.{div-lt_iff_lt-mul}
use Rattle.picture_model.specs.Tiles.{IsIn, tile_count, tile_rect, tiles_over}

factor_positive : (a b t : ℕ) → t < a * b → 0 < a
factor_positive zero b t l = let none : zero * b ≡ 0 = omega arith in absurd (omega arith)
factor_positive (suc a) b t l = omega arith

-- a tile's column and row are among those of the frame
pub tile_column : (w h tile : ℕ) → tile < tile_count w h → tile % tiles_over w < tiles_over w
tile_column w h tile l = let some = factor_positive (tiles_over w) (tiles_over h) tile l in omega arith

pub tile_row : (w h tile : ℕ) → tile < tile_count w h → tile / tiles_over w < tiles_over h
tile_row w h tile l = (div-lt_iff_lt-mul (let column = tile_column w h tile l in omega arith)).1 (omega arith)

pub tile_rect-columns : (w h tile : ℕ) → tile < tile_count w h → (tile_rect w h tile).x0 + (tile_rect w h tile).w ≤ w
unfolding tile_rect
tile_rect-columns w h tile l = let column = tile_column w h tile l in omega arith

pub tile_rect-rows : (w h tile : ℕ) → tile < tile_count w h → (tile_rect w h tile).y0 + (tile_rect w h tile).h ≤ h
unfolding tile_rect
tile_rect-rows w h tile l = let row = tile_row w h tile l in omega arith

-- a pixel lies in the tile of its column and row of tiles
pub tile_rect-holds : (w h x y : ℕ) → x < w → y < h → IsIn (tile_rect w h (y / 16 * tiles_over w + x / 16)) x y
unfolding tile_rect
tile_rect-holds w h x y p q =
    let fits : x / 16 < tiles_over w = omega arith in
    let column = mod-mul-add (y / 16) (tiles_over w) (x / 16) fits in
    let row = div-mul-add (y / 16) (tiles_over w) (x / 16) fits in
    rw (column, row) (record { left = omega arith; right = omega arith; below = omega arith; above = omega arith })

-- and in no other
pub tile_rect-alone : (w h x y tile : ℕ) → IsIn (tile_rect w h tile) x y → tile ≡ y / 16 * tiles_over w + x / 16
unfolding tile_rect
tile_rect-alone w h x y tile inside =
    let column : x / 16 ≡ tile % tiles_over w = omega (arith, inside.left, inside.right) in
    let row : y / 16 ≡ tile / tiles_over w = omega (arith, inside.below, inside.above) in
    rw (column, row) (sym (div-add-mod' tile (tiles_over w)))
