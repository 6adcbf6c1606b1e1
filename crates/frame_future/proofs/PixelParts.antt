-- The parts of a picture's bytes.
use Rattle.std.proofs.Common.{◌≡◌, ℕ, zero, suc, ◌+◌, ◌-◌, ◌*◌, ◌/◌, ◌%◌, ◌<◌, ◌≤◌, min, List, [], ◌∷◌, Some, ◌++◌, length, take, drop, arith, refl, sym, ap, ◌∙◌, subst, mul_assoc, suc-mul, mul-le-mul_right, get_or}
use Rattle.std.proofs.lemmas.List.{append-nil, length-drop, length-take-le, take-take, drop-drop, drop-take}
use Rattle.std.proofs.Math.Seq.{take-add, take-append-add, drop-append-add, drop-cons}
use Rattle.std.proofs.lemmas.Nat.{mod-mul-add, div-mul-add}
use Rattle.std.proofs.Math.Nat.{mul_comm}
use Rattle.std.proofs.lemmas.Option.{slice_get-get_or}
use Rattle.std.specs.Int.{div_ceil}
use Rattle.std.specs.List.{slice_get}
use Rattle.dev_types.specs.declared.handles.Channel.{Channel}
use Rattle.dev_types.specs.declared.handles.Channel.TheVariants.{Color, PrimitiveId, ObjectId, InstanceId}
use Rattle.fx_math.specs.declared.scene.Scene.{Scene}
use Rattle.seq_model.specs.Pictures.{plane_of}
use Rattle.tile_claims.specs.declared.key.Key.{Key}
use Rattle.tile_claims.specs.Parts.{rect_of, scene_of}
use Rattle.picture_model.specs.Pictures.{plane, in_a_row, picture, pixel, pixels_in, row_of, whole}
use Rattle.tile_claims.specs.Pixels.{Pixels, row}
use Rattle.tile_claims.proofs.RowLaws.{filled_rows}
use Rattle.dev_types.specs.Channels.{number_of_channel}
use Rattle.frame_future.specs.Mapped.{Mapped, part_at, pixel_at}
use Rattle.frame_future.specs.Pixels.{picture_of, AreAll}
use Rattle.picture_model.specs.declared.records.Plane.{Plane}
use Rattle.picture_model.specs.declared.records.Rect.{Rect}
use Rattle.picture_model.specs.Tiles.{tile_rect, tiles_over}
use Rattle.picture_model.proofs.PictureSizes.{length-pixel, length-in_a_row, length-picture}

-- lists of m in a row: the first c of them
take-in_a_row : (f : ℕ → List ℕ) (m : ℕ) → ((i : ℕ) → length (f i) ≡ m) → (i n c : ℕ) → c ≤ n → take (c * m) (in_a_row f i n) ≡ in_a_row f i c
take-in_a_row f m each i n zero le = let e : 0 * m ≡ 0 = omega arith in rw e refl
take-in_a_row f m each i zero (suc c) le = absurd (omega (arith, le))
take-in_a_row f m each i (suc n) (suc c) le =
    let one = each i in
    let e : suc c * m ≡ m + c * m = omega arith in
    let rest = take-in_a_row f m each (i + 1) n c (omega (arith, le)) in
    let front : take (length (f i) + c * m) (f i ++ in_a_row f (i + 1) n) ≡ f i ++ take (c * m) (in_a_row f (i + 1) n) = take-append-add (f i) (in_a_row f (i + 1) n) (c * m) in
    ap (λ k. take k (f i ++ in_a_row f (i + 1) n)) e ∙ ap (λ k. take (k + c * m) (f i ++ in_a_row f (i + 1) n)) (sym one) ∙ front ∙ ap (λ xs. f i ++ xs) rest

-- without the first k
drop-in_a_row : (f : ℕ → List ℕ) (m : ℕ) → ((i : ℕ) → length (f i) ≡ m) → (i n k : ℕ) → k ≤ n → drop (k * m) (in_a_row f i n) ≡ in_a_row f (i + k) (n - k)
drop-in_a_row f m each i n zero le = let e : 0 * m ≡ 0 = omega arith in let a : i + 0 ≡ i = omega arith in let b : n - 0 ≡ n = omega arith in rw (e, a, b) refl
drop-in_a_row f m each i zero (suc k) le = absurd (omega (arith, le))
drop-in_a_row f m each i (suc n) (suc k) le =
    let one = each i in
    let e : suc k * m ≡ m + k * m = omega arith in
    let rest = drop-in_a_row f m each (i + 1) n k (omega (arith, le)) in
    let a : i + 1 + k ≡ i + suc k = omega arith in
    let b : n - k ≡ suc n - suc k = omega arith in
    ap (λ j. drop j (f i ++ in_a_row f (i + 1) n)) e ∙ ap (λ j. drop (j + k * m) (f i ++ in_a_row f (i + 1) n)) (sym one) ∙ drop-append-add (f i) (in_a_row f (i + 1) n) (k * m) ∙ rest ∙ (λ t. in_a_row f (a t) (b t))

-- c of them from the k-th on
pub part-in_a_row : (f : ℕ → List ℕ) (m : ℕ) → ((i : ℕ) → length (f i) ≡ m) → (n k c : ℕ) → k + c ≤ n → take (c * m) (drop (k * m) (in_a_row f 0 n)) ≡ in_a_row f k c
part-in_a_row f m each n k c le =
    let z : 0 + k ≡ k = omega arith in
    ap (take (c * m)) (drop-in_a_row f m each 0 n k (omega (arith, le))) ∙ take-in_a_row f m each (0 + k) (n - k) c (omega (arith, le)) ∙ ap (λ i. in_a_row f i c) z

-- a piece of a piece
pub piece-of_piece : (s m t n : ℕ) (xs : List ℕ) → t + n ≤ m → take n (drop t (take m (drop s xs))) ≡ take n (drop (s + t) xs)
piece-of_piece s m t n xs le =
    let rest : ℕ = m - t in
    let whole : t + rest ≡ m = omega arith in
    ap (λ k. take n (drop t (take k (drop s xs)))) (sym whole) ∙ ap (take n) (drop-take t rest (drop s xs)) ∙ take-take n rest (drop t (drop s xs)) (omega arith) ∙ ap (take n) (drop-drop t s xs)

-- the bytes of `count` pixels of row y from column x on
pub picture_row : (scene : Scene) (plane : Plane) (x y count : ℕ) → y < scene.height → x + count ≤ scene.width
    → take (4 * count) (drop (4 * (y * scene.width + x)) (picture scene plane)) ≡ in_a_row (λ x. pixel scene plane x y) x count
unfolding picture pixels_in
picture_row scene plane x y count h w =
    let rows : ℕ → List ℕ = row_of (pixel scene plane) (whole scene.width scene.height) in
    let long : (z : ℕ) → length (rows z) ≡ scene.width * 4 = (λ z. length-in_a_row _ 4 (λ x. length-pixel scene plane x z) 0 scene.width) in
    let row = part-in_a_row rows (scene.width * 4) long scene.height y 1 (omega (arith, h)) in
    let cells = part-in_a_row (λ x. pixel scene plane x y) 4 (λ x. length-pixel scene plane x y) scene.width x count w in
    let only : in_a_row rows y 1 ≡ rows y = append-nil (rows y) in
    let size : 1 * (scene.width * 4) ≡ 4 * scene.width = omega arith in
    let start : y * (scene.width * 4) ≡ 4 * (y * scene.width) = omega (arith, mul_assoc y scene.width 4) in
    let whole_row : take (4 * scene.width) (drop (4 * (y * scene.width)) (in_a_row rows 0 scene.height)) ≡ rows y = (λ i. take (sym size i) (drop (sym start i) (in_a_row rows 0 scene.height))) ∙ row ∙ only in
    let at : 4 * (y * scene.width) + 4 * x ≡ 4 * (y * scene.width + x) = omega arith in
    let four : count * 4 ≡ 4 * count = omega arith in
    let from : x * 4 ≡ 4 * x = omega arith in
    ap (λ k. take (4 * count) (drop k (in_a_row rows 0 scene.height))) (sym at)
    ∙ sym (piece-of_piece (4 * (y * scene.width)) (4 * scene.width) (4 * x) (4 * count) (in_a_row rows 0 scene.height) (omega (arith, w)))
    ∙ ap (λ xs. take (4 * count) (drop (4 * x) xs)) whole_row
    ∙ (λ i. take (sym four i) (drop (sym from i) (rows y)))
    ∙ cells

-- where a tile of a frame begins and how wide it is, by its column and a row of pixels in it
pub tile_of_column : (w h y column : ℕ) → 16 * column < w → (rect : Rect) → rect ≡ tile_rect w h (y / 16 * tiles_over w + column)
    → (rect.x0 ≡ 16 * column) × (rect.w ≡ min 16 (w - 16 * column)) × (rect.y0 ≡ 16 * (y / 16)) × (rect.h ≡ min 16 (h - 16 * (y / 16)))
unfolding tile_rect
tile_of_column w h y column l rect is =
    let fits : column < tiles_over w = omega arith in
    let across = mod-mul-add (y / 16) (tiles_over w) column fits in
    let up = div-mul-add (y / 16) (tiles_over w) column fits in
    subst (λ (r : Rect). (r.x0 ≡ 16 * column) × (r.w ≡ min 16 (w - 16 * column)) × (r.y0 ≡ 16 * (y / 16)) × (r.h ≡ min 16 (h - 16 * (y / 16)))) (sym is)
    (rw (across, up) (refl, refl, refl, refl))

pub plane_at : (c : Channel) → plane (number_of_channel c) ≡ plane_of c
plane_at Color = refl
plane_at PrimitiveId = refl
plane_at ObjectId = refl
plane_at InstanceId = refl

pub place_within : (c : Channel) → number_of_channel c < 4
place_within Color = omega arith
place_within PrimitiveId = omega arith
place_within ObjectId = omega arith
place_within InstanceId = omega arith

-- a row of a tile is the picture's
pub tile_part : (key : Key) (tiles : List Pixels) (c : Channel) (y column tile : ℕ) (p : Pixels) → AreAll key tiles → y < key.h → 16 * column < key.w
    → tile ≡ y / 16 * tiles_over key.w + column → slice_get tiles tile ≡ Some p
    → (y % 16 < p.h) × (row p (number_of_channel c) (y % 16) ≡ take (4 * min 16 (key.w - 16 * column)) (drop (4 * (y * key.w + 16 * column)) (picture_of key c)))
tile_part key tiles c y column tile p all h w number at =
    let filled = all.filled tile p at in
    let rect : Rect = rect_of key tile in
    let place = tile_of_column key.w key.h y column w rect (ap (tile_rect key.w key.h) number) in
    let high : y % 16 < p.h = omega (arith, filled.sized.height, place.3, h) in
    let shown = filled_rows key tile p filled (number_of_channel c) (y % 16) (place_within c) high in
    let line : rect.y0 + y % 16 ≡ y = omega (arith, place.2) in
    let across : 16 * column + min 16 (key.w - 16 * column) ≤ key.w = omega (arith, w) in
    (high, shown ∙ (λ i. in_a_row (λ x. pixel (scene_of key) (plane_at c i) x (line i)) (place.0 i) (place.1 i)) ∙ sym (picture_row (scene_of key) (plane_of c) (16 * column) y (min 16 (key.w - 16 * column)) h across))

div_ceil_16 : (w : ℕ) → div_ceil w 16 ≡ tiles_over w
div_ceil_16 w = omega arith

-- the tile that a part is of is one of the frame's
tile_within : (key : Key) (tiles : List Pixels) (y column tile : ℕ) → AreAll key tiles → y < key.h → 16 * column < key.w
    → tile ≡ y / 16 * tiles_over key.w + column → tile < length tiles
tile_within key tiles y column tile all h w number =
    let up : suc (y / 16) ≤ tiles_over key.h = omega (arith, h) in
    let fits : column < tiles_over key.w = omega (arith, w) in
    let rows : suc (y / 16) * tiles_over key.w ≤ tiles_over key.h * tiles_over key.w = mul-le-mul_right (tiles_over key.w) up in
    let turned : tiles_over key.h * tiles_over key.w ≡ tiles_over key.w * tiles_over key.h = mul_comm (tiles_over key.h) (tiles_over key.w) in
    let one : suc (y / 16) * tiles_over key.w ≡ y / 16 * tiles_over key.w + tiles_over key.w = suc-mul (y / 16) (tiles_over key.w) in
    omega (arith, all.count)

-- the row of a tile that is read, as the code finds it
pub part_found : (key now : Key) (tiles : List Pixels) (w across : ℕ) (c : Channel) (y column : ℕ) (p : Pixels) → key ≡ now → w ≡ key.w → AreAll key tiles
    → across ≡ div_ceil w 16 → y < now.h → 16 * column < now.w → p ≡ get_or tiles (y / 16 * across + column) p
    → (y % 16 < p.h) × (row p (number_of_channel c) (y % 16) ≡ take (4 * min 16 (now.w - 16 * column)) (drop (4 * (y * now.w + 16 * column)) (picture_of now c)))
part_found key now tiles w across c y column p same wide all over tall within here =
    let h : y < key.h = subst (λ (k : Key). y < k.h) (sym same) tall in
    let l : 16 * column < key.w = subst (λ (k : Key). 16 * column < k.w) (sym same) within in
    let tile : ℕ = y / 16 * across + column in
    let number : tile ≡ y / 16 * tiles_over key.w + column = ap (λ n. y / 16 * n + column) (over ∙ div_ceil_16 w ∙ ap tiles_over wide) in
    let at : slice_get tiles tile ≡ Some p = slice_get-get_or tiles tile p (tile_within key tiles y column tile all h l number) ∙ ap Some (sym here) in
    let read = tile_part key tiles c y column tile p all h l number at in
    (read.0, read.1 ∙ ap (λ (k : Key). take (4 * min 16 (k.w - 16 * column)) (drop (4 * (y * k.w + 16 * column)) (picture_of k c))) same)

-- a part has four bytes a pixel
pub length-part : (key : Key) (c : Channel) (y column : ℕ) → y < key.h → 16 * column < key.w
    → length (take (4 * min 16 (key.w - 16 * column)) (drop (4 * (y * key.w + 16 * column)) (picture_of key c))) ≡ 4 * min 16 (key.w - 16 * column)
length-part key c y column h w =
    let all = length-picture (scene_of key) (plane_of c) in
    let rows : suc y * key.w ≤ key.h * key.w = mul-le-mul_right key.w h in
    let turned : 4 * key.w * key.h ≡ 4 * (key.h * key.w) = mul_assoc 4 key.w key.h ∙ ap (λ n. 4 * n) (mul_comm key.w key.h) in
    let one : suc y * key.w ≡ y * key.w + key.w = suc-mul y key.w in
    length-take-le _ _ (omega (arith, length-drop (4 * (y * key.w + 16 * column)) (picture_of key c), w))

-- four elements
step : (xs : List ℕ) (k n : ℕ) → n ≡ suc k → k < length xs → drop k xs ≡ get_or xs k 0 ∷ drop n xs
step xs k n next h = drop-cons xs k 0 h ∙ ap (λ j. get_or xs k 0 ∷ drop j xs) (sym next)

pub four_of : (xs : List ℕ) (i : ℕ) → i + 4 ≤ length xs → get_or xs i 0 ∷ get_or xs (i + 1) 0 ∷ get_or xs (i + 2) 0 ∷ get_or xs (i + 3) 0 ∷ [] ≡ take 4 (drop i xs)
four_of xs i h =
    let a = get_or xs i 0 in
    let b = get_or xs (i + 1) 0 in
    let c = get_or xs (i + 2) 0 in
    let first = step xs i (i + 1) (omega arith) (omega (arith, h)) in
    let second = step xs (i + 1) (i + 2) (omega arith) (omega (arith, h)) in
    let third = step xs (i + 2) (i + 3) (omega arith) (omega (arith, h)) in
    let fourth = step xs (i + 3) (i + 4) (omega arith) (omega (arith, h)) in
    sym (ap (take 4) first ∙ ap (λ ys. a ∷ take 3 ys) second ∙ ap (λ ys. a ∷ b ∷ take 2 ys) third ∙ ap (λ ys. a ∷ b ∷ c ∷ take 1 ys) fourth)

-- the pixel of a part
pub pixel_of_part : (m : Mapped) (x y : ℕ) (part : List ℕ) → x < m.width → part ≡ part_at m y (x / 16) → length part ≡ 4 * min 16 (m.width - 16 * (x / 16))
    → let i = 4 * (x % 16) in get_or part i 0 ∷ get_or part (i + 1) 0 ∷ get_or part (i + 2) 0 ∷ get_or part (i + 3) 0 ∷ [] ≡ pixel_at m x y
pixel_of_part m x y part w is long =
    let place : 4 * (y * m.width + 16 * (x / 16)) + 4 * (x % 16) ≡ 4 * (y * m.width + x) = omega arith in
    four_of part (4 * (x % 16)) (omega (arith, long, w)) ∙ ap (λ xs. take 4 (drop (4 * (x % 16)) xs)) is
    ∙ piece-of_piece (4 * (y * m.width + 16 * (x / 16))) (4 * min 16 (m.width - 16 * (x / 16))) (4 * (x % 16)) 4 m.bytes (omega (arith, w))
    ∙ ap (λ k. take 4 (drop k m.bytes)) place

-- one more part of a row is written
pub row_written : (m : Mapped) (y tile : ℕ) (before now part : List ℕ) → 16 * tile < m.width → part ≡ part_at m y tile
    → length part ≡ 4 * min 16 (m.width - 16 * tile)
    → take (4 * (y * m.width + min m.width (16 * tile))) before ≡ take (4 * (y * m.width + min m.width (16 * tile))) m.bytes
    → take (4 * (y * m.width + 16 * tile) + length part) now ≡ take (4 * (y * m.width + 16 * tile)) before ++ part
    → take (4 * (y * m.width + min m.width (16 * (tile + 1)))) now ≡ take (4 * (y * m.width + min m.width (16 * (tile + 1)))) m.bytes
row_written m y tile before now part w is long was put =
    let at : ℕ = 4 * (y * m.width + 16 * tile) in
    let count : ℕ = 4 * min 16 (m.width - 16 * tile) in
    let here : 4 * (y * m.width + min m.width (16 * tile)) ≡ at = omega (arith, w) in
    let next : at + count ≡ 4 * (y * m.width + min m.width (16 * (tile + 1))) = omega (arith, w) in
    let old : take at before ≡ take at m.bytes = (λ i. take (sym here i) before) ∙ was ∙ (λ i. take (here i) m.bytes) in
    (λ i. take (sym next i) now) ∙ (λ i. take (at + sym long i) now) ∙ put ∙ (λ i. old i ++ is i) ∙ sym (take-add at count m.bytes) ∙ (λ i. take (next i) m.bytes)
