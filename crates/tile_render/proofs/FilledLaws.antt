-- A tile is filled row by row, and in each row channel by channel.
use Rattle.std.proofs.Common.{◌≡◌, ℕ, suc, ◌+◌, ◌*◌, ◌<◌, ◌≤◌, List, ◌++◌, length, arith, sym, ap, subst, ◌∙◌, lt_of_not-le}
use mathlib.Core.Logic.{dite}
use native.Mathlib.Decide.{dec_le}
use Rattle.fx_math.specs.declared.scene.Scene.{Scene}
use Rattle.picture_model.proofs.PixelRows.{in_a_row-suc}
use Rattle.picture_model.specs.Pictures.{in_a_row, pixel, plane}
use Rattle.picture_model.specs.declared.records.Plane.{Plane}
use Rattle.picture_model.proofs.PictureSizes.{length-pixel, length-in_a_row}
use Rattle.tile_claims.proofs.RowLaws.{row-with_row, row-with_other, rows_fill}
use Rattle.tile_claims.specs.declared.key.Key.{Key}
use Rattle.tile_claims.specs.Parts.{scene_of, rect_of, row_shown, IsSized, IsFilled}
use Rattle.tile_claims.specs.Pixels.{Pixels, IsWhole, row, with_row}
use Rattle.tile_render.specs.Filled.{AreFilled}

-- a row of the picture is as long as a row of the tile
pub length-row_shown : (key : Key) (tile : ℕ) (p : Pixels) (channel y : ℕ) → IsSized key tile p → length (row_shown key tile channel y) ≡ 4 * p.w
length-row_shown key tile p channel y sized =
    length-in_a_row _ 4 (λ x. length-pixel (scene_of key) (plane channel) x ((rect_of key tile).y0 + y)) (rect_of key tile).x0 (rect_of key tile).w
    ∙ omega (arith, sized.width)

-- one more row of a channel is the picture's
pub filled_more : (key : Key) (tile : ℕ) (p : Pixels) (channel y : ℕ) (bytes : List ℕ) → IsSized key tile p → IsWhole p.w p.h p.bytes → channel < 4 → y < p.h
    → bytes ≡ row_shown key tile channel y → AreFilled key tile p y channel → AreFilled key tile (with_row p channel y bytes) y (channel + 1)
filled_more key tile p channel y bytes sized whole below low shows before other z below' low' early = dite (dec_le (y * 4 + channel) (z * 4 + other))
    (λ le.
    let c_is : channel ≡ other = omega (arith, le, early, below, below') in
    let y_is : y ≡ z = omega (arith, le, early, below, below') in
    subst (λ (t : ℕ × ℕ). row (with_row p channel y bytes) t.0 t.1 ≡ row_shown key tile t.0 t.1) (λ i. (c_is i, y_is i))
    (row-with_row p channel y bytes whole below low long ∙ shows))
    (λ apart.
    let earlier : z * 4 + other < y * 4 + channel = lt_of_not-le apart in
    row-with_other p channel y other z bytes whole below low below' low' long (λ c_is y_is. omega (arith, earlier, c_is, y_is))
    ∙ before other z below' low' earlier)
  where
    long : length bytes ≡ 4 * p.w
    long = ap length shows ∙ length-row_shown key tile p channel y sized

-- the next row begins where a row is done
pub filled_row : (key : Key) (tile : ℕ) (p : Pixels) (y : ℕ) → AreFilled key tile p y 4 → AreFilled key tile p (y + 1) 0
filled_row key tile p y before other z below low early = before other z below low (omega (arith, early))

-- a tile whose rows are all done is filled
pub filled_all : (key : Key) (tile : ℕ) (p : Pixels) (y : ℕ) → IsSized key tile p → IsWhole p.w p.h p.bytes → p.h ≤ y → AreFilled key tile p y 0 → IsFilled key tile p
filled_all key tile p y sized whole all rows = rows_fill key tile p sized whole (λ channel z below low. rows channel z below low (omega (arith, all, below, low)))

-- ---- the pixels of a row
pub length-pixels : (scene : Scene) (plane : Plane) (x0 n y : ℕ) (bytes : List ℕ) → bytes ≡ in_a_row (λ x. pixel scene plane x y) x0 n → length bytes ≡ n * 4
length-pixels scene plane x0 n y bytes is = ap length is ∙ length-in_a_row _ 4 (λ x. length-pixel scene plane x y) x0 n

-- one more pixel
pub one_more : (scene : Scene) (plane : Plane) (x0 n y : ℕ) (bytes four : List ℕ) → bytes ≡ in_a_row (λ x. pixel scene plane x y) x0 n → four ≡ pixel scene plane (x0 + n) y →
    bytes ++ four ≡ in_a_row (λ x. pixel scene plane x y) x0 (n + 1)
one_more scene plane x0 n y bytes four is pixel_is =
    let f : ℕ → List ℕ = λ x. pixel scene plane x y in
    let one : suc n ≡ n + 1 = omega arith in
    (λ i. is i ++ pixel_is i) ∙ sym (in_a_row-suc f x0 n) ∙ ap (in_a_row f x0) one
