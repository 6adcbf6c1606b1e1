-- A tile's bytes are its rows, one behind the other.
use Rattle.std.proofs.Common.{◌≡◌, ◌≢◌, ◌⊎◌, ℕ, zero, suc, ◌+◌, ◌-◌, ◌*◌, ◌<◌, ◌≤◌, List, ◌++◌, length, take, drop, length-append, length-drop, arith, refl, sym, ap, ◌∙◌, subst, inl, inr, ⊎_elim, lt_of_not-le, mul-le-mul_right, suc-mul, mul_assoc, ◌/◌}
use Rattle.std.proofs.lemmas.List.{length-take-le, take-append-le, drop-append-le, take-append-drop, take-take, drop-drop, drop-take, nil_from_length}
use Rattle.std.proofs.Math.Seq.{take-append_seam, drop-append_seam, drop-append-add}
use Rattle.std.proofs.Math.Nat.{add-mul}
use Rattle.std.proofs.lemmas.Nat.{div-mul-add}
use Rattle.std.specs.List.{refill, length_refill}
use mathlib.Core.Logic.{dite}
use native.Mathlib.Decide.{dec_le}
use Rattle.picture_model.specs.Pictures.{in_a_row, part, pixel, pixels_in, row_of, plane}
use Rattle.picture_model.proofs.PictureSizes.{length-pixel, length-in_a_row}
use Rattle.tile_claims.specs.declared.key.Key.{Key}
use Rattle.tile_claims.specs.Parts.{scene_of, rect_of, row_shown, AreRows, IsSized, IsFilled}
use Rattle.tile_claims.specs.declared.seats.Claim.{Claim}
use Rattle.tile_claims.specs.declared.seats.Claims.{Claims}
use Rattle.tile_claims.specs.Seats.{pixels_of, IsClaimOf, with_row as claim_with_row}
use Rattle.tile_claims.specs.Pixels.{Pixels, IsWhole, row, row_start, with_row}

-- pieces of a list

-- the piece of m from s on
abbrev piece : ℕ → ℕ → List ℕ → List ℕ
piece s m xs = take m (drop s xs)

-- xs with bs over what it has from s on
abbrev over : List ℕ → ℕ → List ℕ → List ℕ
over xs s bs = take s xs ++ (bs ++ drop (length bs) (drop s xs))

piece-over : (xs bs : List ℕ) (s : ℕ) → s ≤ length xs → piece s (length bs) (over xs s bs) ≡ bs
piece-over xs bs s within =
    let rest : List ℕ = bs ++ drop (length bs) (drop s xs) in
    let cut : drop s (take s xs ++ rest) ≡ rest = subst (λ k. drop k (take s xs ++ rest) ≡ rest) (length-take-le s xs within) (drop-append_seam (take s xs) rest) in
    ap (take (length bs)) cut ∙ take-append_seam bs (drop (length bs) (drop s xs))

piece-early : (xs more : List ℕ) (s t m : ℕ) → t + m ≤ s → s ≤ length xs → piece t m (take s xs ++ more) ≡ piece t m (take s xs)
piece-early xs more s t m before within =
    let long = length-take-le s xs within in
    ap (take m) (drop-append-le t (take s xs) more (omega arith)) ∙ take-append-le m (drop t (take s xs)) more (omega (arith, length-drop t (take s xs)))

piece-over_before : (xs bs : List ℕ) (s t m : ℕ) → t + m ≤ s → s ≤ length xs → piece t m (over xs s bs) ≡ piece t m xs
piece-over_before xs bs s t m before within =
    piece-early xs (bs ++ drop (length bs) (drop s xs)) s t m before within
    ∙ sym (piece-early xs (drop s xs) s t m before within)
    ∙ ap (piece t m) (take-append-drop s xs)

drop-over : (xs bs : List ℕ) (s t : ℕ) → s + length bs ≤ t → s ≤ length xs → drop t (over xs s bs) ≡ drop t xs
drop-over xs bs s t after within =
    let rest : List ℕ = bs ++ drop (length bs) (drop s xs) in
    let more : ℕ = t - (s + length bs) in
    let far : s + (length bs + more) ≡ t = omega arith in
    let front : drop s (take s xs ++ rest) ≡ rest = subst (λ k. drop k (take s xs ++ rest) ≡ rest) (length-take-le s xs within) (drop-append_seam (take s xs) rest) in
    let left : drop (length bs + more) (drop s (over xs s bs)) ≡ drop t (over xs s bs) = drop-drop (length bs + more) s (over xs s bs) ∙ ap (λ k. drop k (over xs s bs)) far in
    let here : drop (length bs + more) rest ≡ drop more (drop (length bs) (drop s xs)) = drop-append-add bs (drop (length bs) (drop s xs)) more in
    let there : drop more (drop (length bs) (drop s xs)) ≡ drop t xs = drop-drop more (length bs) (drop s xs) ∙ drop-drop (length bs + more) s xs ∙ ap (λ k. drop k xs) far in
    sym left ∙ ap (drop (length bs + more)) front ∙ here ∙ there

-- as many bytes as are there are not refilled
refill-over : (xs bs : List ℕ) (s : ℕ) → s + length bs ≤ length xs → refill (length xs) xs (over xs s bs) ≡ over xs s bs
refill-over xs bs s within =
    let ws : List ℕ = over xs s bs in
    let rest : List ℕ = drop (length bs) (drop s xs) in
    let a = length-append (take s xs) (bs ++ rest) in
    let b = length-append bs rest in
    let long : length ws ≡ length xs = omega (arith, a, b, length-take-le s xs (omega arith), length-drop (length bs) (drop s xs), length-drop s xs) in
    subst (λ k. take k (ws ++ drop (length ws) xs) ≡ ws) long (take-append_seam ws (drop (length ws) xs))

-- lists in a row

-- a list of n pieces of m bytes is these in a row
in_a_row-pieces : (f : ℕ → List ℕ) (m n i : ℕ) (xs : List ℕ) → length xs ≡ n * m → ((k : ℕ) → k < n → piece (k * m) m xs ≡ f (i + k)) → xs ≡ in_a_row f i n
in_a_row-pieces f m zero i xs long each = nil_from_length xs (long ∙ omega arith)
in_a_row-pieces f m (suc n) i xs long each =
    let some : m ≤ length xs = omega (arith, suc-mul n m) in
    let first : take m xs ≡ f i = (let e : 0 * m ≡ 0 = omega arith in let p : i + 0 ≡ i = omega arith in ap (λ s. piece s m xs) (sym e) ∙ each 0 (omega arith) ∙ ap f p) in
    let rest : drop m xs ≡ in_a_row f (i + 1) n = in_a_row-pieces f m n (i + 1) (drop m xs) (length-drop m xs ∙ omega (arith, suc-mul n m)) (λ k below.
    let e : m + k * m ≡ (k + 1) * m = omega (arith, suc-mul k m) in
    let p : i + (k + 1) ≡ i + 1 + k = omega arith in
    ap (take m) (drop-drop (k * m) m xs ∙ ap (λ s. drop s xs) e) ∙ each (k + 1) (omega arith) ∙ ap f p) in
    sym (take-append-drop m xs) ∙ ap (λ l. l ++ drop m xs) first ∙ ap (λ l. f i ++ l) rest

-- and the other way round
piece-in_a_row : (f : ℕ → List ℕ) (m : ℕ) → ((i : ℕ) → length (f i) ≡ m) → (n i k : ℕ) → k < n → piece (k * m) m (in_a_row f i n) ≡ f (i + k)
piece-in_a_row f m each zero i k below = absurd (omega arith)
piece-in_a_row f m each (suc n) i zero below =
    let e : 0 * m ≡ 0 = omega arith in
    let p : i ≡ i + 0 = omega arith in
    ap (λ s. piece s m (f i ++ in_a_row f (i + 1) n)) e ∙ subst (λ k. take k (f i ++ in_a_row f (i + 1) n) ≡ f i) (each i) (take-append_seam (f i) (in_a_row f (i + 1) n)) ∙ ap f p
piece-in_a_row f m each (suc n) i (suc k) below =
    let e : suc k * m ≡ length (f i) + k * m = omega (arith, each i, suc-mul k m) in
    let p : i + 1 + k ≡ i + suc k = omega arith in
    ap (λ s. piece s m (f i ++ in_a_row f (i + 1) n)) e ∙ ap (take m) (drop-append-add (f i) (in_a_row f (i + 1) n) (k * m)) ∙ piece-in_a_row f m each n (i + 1) k (omega arith) ∙ ap f p

-- a piece of a piece
piece-piece : (xs : List ℕ) (s l t m : ℕ) → t + m ≤ l → piece t m (piece s l xs) ≡ piece (s + t) m xs
piece-piece xs s l t m within =
    let e : t + (l - t) ≡ l = omega arith in
    let cut : drop t (take l (drop s xs)) ≡ take (l - t) (drop t (drop s xs)) = ap (λ k. drop t (take k (drop s xs))) (sym e) ∙ drop-take t (l - t) (drop s xs) in
    ap (take m) cut ∙ take-take m (l - t) (drop t (drop s xs)) (omega arith) ∙ ap (take m) (drop-drop t s xs)

-- tiles

-- a channel's bytes
abbrev channel_bytes : Pixels → ℕ → List ℕ
channel_bytes p channel = piece (channel * (p.h * (4 * p.w))) (p.h * (4 * p.w)) p.bytes

row-channel : (p : Pixels) (channel y : ℕ) → y < p.h → piece (y * (4 * p.w)) (4 * p.w) (channel_bytes p channel) ≡ row p channel y
row-channel p channel y below =
    let m : ℕ = 4 * p.w in
    let within : (y + 1) * m ≤ p.h * m = mul-le-mul_right m (omega arith) in
    let start : channel * (p.h * m) + y * m ≡ row_start p channel y = sym (add-mul (channel * p.h) y m ∙ ap (λ k. k + y * m) (mul_assoc channel p.h m)) in
    piece-piece p.bytes (channel * (p.h * m)) (p.h * m) (y * m) m (omega (arith, within, suc-mul y m)) ∙ ap (λ s. piece s m p.bytes) start

-- a row of the picture has four bytes a pixel
length-row_shown : (key : Key) (tile : ℕ) (channel : ℕ) (y : ℕ) → length (row_of (pixel (scene_of key) (plane channel)) (rect_of key tile) y) ≡ 4 * (rect_of key tile).w
length-row_shown key tile channel y = length-in_a_row _ 4 (λ x. length-pixel (scene_of key) (plane channel) x y) (rect_of key tile).x0 (rect_of key tile).w ∙ omega arith

part_rows : (key : Key) (tile channel : ℕ) → part (scene_of key) (plane channel) tile ≡ in_a_row (row_of (pixel (scene_of key) (plane channel)) (rect_of key tile)) (rect_of key tile).y0 (rect_of key tile).h
unfolding part pixels_in
part_rows key tile channel = refl

length-part : (key : Key) (tile channel : ℕ) → length (part (scene_of key) (plane channel) tile) ≡ (rect_of key tile).h * (4 * (rect_of key tile).w)
length-part key tile channel = ap length (part_rows key tile channel) ∙ length-in_a_row _ (4 * (rect_of key tile).w) (length-row_shown key tile channel) (rect_of key tile).y0 (rect_of key tile).h

-- a tile whose rows are the picture's is filled
pub rows_fill : (key : Key) (tile : ℕ) (p : Pixels) → IsSized key tile p → IsWhole p.w p.h p.bytes
    → ((channel y : ℕ) → channel < 4 → y < p.h → row p channel y ≡ row_shown key tile channel y) → IsFilled key tile p
rows_fill key tile p sized whole rows = record {
  sized = sized;
  shows = in_a_row-pieces (λ channel. part (scene_of key) (plane channel) tile) M 4 0 p.bytes (whole.size ∙ mul_assoc 4 p.h (4 * p.w)) (λ channel below. channel_is channel below ∙ ap (λ c. part (scene_of key) (plane c) tile) (omega arith));
}
  where
    M : ℕ
    M = p.h * (4 * p.w)

    channel_is : (channel : ℕ) → channel < 4 → channel_bytes p channel ≡ part (scene_of key) (plane channel) tile
    channel_is channel below =
        let f : ℕ → List ℕ = row_of (pixel (scene_of key) (plane channel)) (rect_of key tile) in
        let last : (channel + 1) * M ≤ 4 * M = mul-le-mul_right M (omega arith) in
        let long : length (channel_bytes p channel) ≡ p.h * (4 * p.w) = length-take-le M (drop (channel * M) p.bytes) (omega (arith, length-drop (channel * M) p.bytes, whole.size, mul_assoc 4 p.h (4 * p.w), last, suc-mul channel M)) in
        in_a_row-pieces f (4 * p.w) p.h (rect_of key tile).y0 (channel_bytes p channel) long (λ y low. row-channel p channel y low ∙ rows channel y below low)
        ∙ ap (λ h. in_a_row f (rect_of key tile).y0 h) sized.height ∙ sym (part_rows key tile channel)

-- and the rows of one that is filled are the picture's
pub filled_rows : (key : Key) (tile : ℕ) (p : Pixels) → IsFilled key tile p → (channel y : ℕ) → channel < 4 → y < p.h → row p channel y ≡ row_shown key tile channel y
filled_rows key tile p filled channel y below low =
    let rect = rect_of key tile in
    let width = filled.sized.width in
    let height = filled.sized.height in
    let f : ℕ → List ℕ = row_of (pixel (scene_of key) (plane channel)) rect in
    let size : p.h * (4 * p.w) ≡ rect.h * (4 * rect.w) = ap (λ h. h * (4 * p.w)) height ∙ ap (λ w. rect.h * (4 * w)) width in
    let M : ℕ = rect.h * (4 * rect.w) in
    let mine : channel_bytes p channel ≡ part (scene_of key) (plane channel) tile =
    (ap (λ m. piece (channel * m) m p.bytes) size ∙ ap (piece (channel * M) M) filled.shows
    ∙ piece-in_a_row (λ c. part (scene_of key) (plane c) tile) M (λ c. length-part key tile c) 4 0 channel below ∙ ap (λ c. part (scene_of key) (plane c) tile) (omega arith)) in
    sym (row-channel p channel y low)
    ∙ ap (λ b. piece (y * (4 * p.w)) (4 * p.w) b) (mine ∙ part_rows key tile channel)
    ∙ ap (λ w. piece (y * (4 * w)) (4 * w) (in_a_row f rect.y0 rect.h)) width
    ∙ piece-in_a_row f (4 * rect.w) (length-row_shown key tile channel) rect.h rect.y0 y (omega arith)

-- rows that are written

row_within : (p : Pixels) (channel y : ℕ) → IsWhole p.w p.h p.bytes → channel < 4 → y < p.h → row_start p channel y + 4 * p.w ≤ length p.bytes
row_within p channel y whole below low =
    let last : (channel + 1) * p.h ≤ 4 * p.h = mul-le-mul_right p.h (omega arith) in
    let next : (channel * p.h + y + 1) * (4 * p.w) ≤ 4 * p.h * (4 * p.w) = mul-le-mul_right (4 * p.w) (omega (arith, last, suc-mul channel p.h)) in
    omega (arith, next, whole.size, suc-mul (channel * p.h + y) (4 * p.w))

with_row-bytes : (p : Pixels) (channel y : ℕ) (bytes : List ℕ) → IsWhole p.w p.h p.bytes → channel < 4 → y < p.h → length bytes ≡ 4 * p.w
    → (with_row p channel y bytes).bytes ≡ over p.bytes (row_start p channel y) bytes
with_row-bytes p channel y bytes whole below low long = refill-over p.bytes bytes (row_start p channel y) (omega (arith, row_within p channel y whole below low, long))

-- what is written to a row stands in it
pub row-with_row : (p : Pixels) (channel y : ℕ) (bytes : List ℕ) → IsWhole p.w p.h p.bytes → channel < 4 → y < p.h → length bytes ≡ 4 * p.w
    → row (with_row p channel y bytes) channel y ≡ bytes
row-with_row p channel y bytes whole below low long =
    ap (piece (row_start p channel y) (4 * p.w)) (with_row-bytes p channel y bytes whole below low long)
    ∙ ap (λ m. piece (row_start p channel y) m (over p.bytes (row_start p channel y) bytes)) (sym long)
    ∙ piece-over p.bytes bytes (row_start p channel y) (omega (arith, row_within p channel y whole below low))

-- a row's number tells its channel and its place there
same_place : (c d h a b : ℕ) → a < h → b < h → c * h + a ≡ d * h + b → (c ≡ d) × (a ≡ b)
same_place c d h a b p q e =
    let c_is : c ≡ d = sym (div-mul-add c h a p) ∙ ap (λ k. k / h) e ∙ div-mul-add d h b q in
    (c_is, (let f : c * h ≡ d * h = ap (λ k. k * h) c_is in omega (arith, e, f)))

-- and the other rows stay
pub row-with_other : (p : Pixels) (channel y other z : ℕ) (bytes : List ℕ) → IsWhole p.w p.h p.bytes → channel < 4 → y < p.h → other < 4 → z < p.h → length bytes ≡ 4 * p.w
    → (channel ≡ other → y ≢ z) → row (with_row p channel y bytes) other z ≡ row p other z
row-with_other p channel y other z bytes whole below low below' low' long apart =
    ap (piece (row_start p other z) (4 * p.w)) (with_row-bytes p channel y bytes whole below low long)
    ∙ ⊎_elim
    (λ (before : other * p.h + z < channel * p.h + y).
    let step : (other * p.h + z + 1) * m ≤ (channel * p.h + y) * m = mul-le-mul_right m (omega arith) in
    piece-over_before p.bytes bytes (row_start p channel y) (row_start p other z) m (omega (arith, step, suc-mul (other * p.h + z) m)) start)
    (λ (after : channel * p.h + y < other * p.h + z).
    let step : (channel * p.h + y + 1) * m ≤ (other * p.h + z) * m = mul-le-mul_right m (omega arith) in
    ap (take m) (drop-over p.bytes bytes (row_start p channel y) (row_start p other z) (omega (arith, step, long, suc-mul (channel * p.h + y) m)) start))
    (places (dec_le (channel * p.h + y) (other * p.h + z)) (dec_le (other * p.h + z) (channel * p.h + y)))
  where
    m : ℕ
    m = 4 * p.w

    start : row_start p channel y ≤ length p.bytes
    start = omega (arith, row_within p channel y whole below low)

    places : Dec (channel * p.h + y ≤ other * p.h + z) → Dec (other * p.h + z ≤ channel * p.h + y) → (other * p.h + z < channel * p.h + y) ⊎ (channel * p.h + y < other * p.h + z)
    places (no above) b = inl (lt_of_not-le above)
    places (yes le) (no above) = inr (lt_of_not-le above)
    places (yes le) (yes ge) = (let same = same_place channel other p.h y z low low' (omega arith) in absurd (apart same.0 same.1))

-- a tile with other bytes in a row is as large
pub with_row-whole : (p : Pixels) (channel y : ℕ) (bytes : List ℕ) → IsWhole p.w p.h p.bytes → IsWhole p.w p.h (with_row p channel y bytes).bytes
with_row-whole p channel y bytes whole = record {
  width = whole.width;
  height = whole.height;
  size = sym (length_refill (length p.bytes) p.bytes _ refl) ∙ whole.size;
}

-- one more row is the picture's
pub rows_more : (key : Key) (tile : ℕ) (p : Pixels) (channel y : ℕ) (bytes : List ℕ) → IsSized key tile p → IsWhole p.w p.h p.bytes → channel < 4 → y < p.h
    → bytes ≡ row_shown key tile channel y → AreRows key tile p channel y → AreRows key tile (with_row p channel y bytes) channel (y + 1)
rows_more key tile p channel y bytes sized whole below low shows before other z below' low' early = dite (dec_le (channel * p.h + y) (other * p.h + z))
    (λ le.
    let same = same_place channel other p.h y z low low' (omega (arith, early)) in
    subst (λ (t : ℕ × ℕ). row (with_row p channel y bytes) t.0 t.1 ≡ row_shown key tile t.0 t.1) (λ i. (same.0 i, same.1 i))
    (row-with_row p channel y bytes whole below low long ∙ shows))
    (λ apart.
    let earlier : other * p.h + z < channel * p.h + y = lt_of_not-le apart in
    row-with_other p channel y other z bytes whole below low below' low' long
    (λ c_is y_is. let moved : channel * p.h ≡ other * p.h = ap (λ c. c * p.h) c_is in omega (arith, earlier, moved, y_is))
    ∙ before other z below' low' earlier)
  where
    long : length bytes ≡ 4 * p.w
    long = ap length shows ∙ length-row_shown key tile channel ((rect_of key tile).y0 + y) ∙ ap (λ w. 4 * w) (sym sized.width)

-- a tile of which all rows are the picture's is filled
pub rows_all : (key : Key) (tile : ℕ) (p : Pixels) → IsSized key tile p → IsWhole p.w p.h p.bytes → AreRows key tile p 4 0 → IsFilled key tile p
rows_all key tile p sized whole rows = rows_fill key tile p sized whole (λ channel y below low.
    let last : (channel + 1) * p.h ≤ 4 * p.h = mul-le-mul_right p.h (omega arith) in
    rows channel y below low (omega (arith, last, suc-mul channel p.h)))

-- a claim to whose row something was written is of the same tile
pub claim_written : (claims : Claims) (c : Claim) (channel y : ℕ) (bytes : List ℕ) → IsClaimOf claims c → IsClaimOf claims (claim_with_row c channel y bytes)
claim_written claims c channel y bytes of = record {
  table = of.table;
  within = of.within;
  sized = record { width = of.sized.width; height = of.sized.height };
  whole = with_row-whole (pixels_of c) channel y bytes of.whole;
}
