-- Pixels in a row, one by one.
use Rattle.std.proofs.Common.{◌≡◌, ℕ, zero, suc, ◌+◌, ◌-◌, ◌*◌, ◌/◌, ◌<◌, ◌≤◌, min, List, ◌++◌, append_assoc, arith, ap, sym, refl, ◌∙◌, inl, inr}
use Rattle.std.proofs.lemmas.List.{append-nil}
use Rattle.std.proofs.lemmas.Nat.{mod-mul-add}
use Rattle.picture_model.proofs.Spheres.{le_or_below}
use Rattle.picture_model.specs.Pictures.{in_a_row, row_of, whole}
use Rattle.picture_model.specs.Tiles.{tile_rect, tiles_over}

-- one more list at the end
pub in_a_row-suc : (f : ℕ → List ℕ) (i n : ℕ) → in_a_row f i (suc n) ≡ in_a_row f i n ++ f (i + n)
in_a_row-suc f i zero = let e : i + 0 ≡ i = omega arith in rw e (append-nil (f i))
in_a_row-suc f i (suc n) =
    let e : i + 1 + n ≡ i + suc n = omega arith in
    let more = rw e at (in_a_row-suc f (i + 1) n) in
    ap (λ xs. f i ++ xs) more ∙ sym (append_assoc (f i) (in_a_row f (i + 1) n) (f (i + suc n)))

-- the same where the place is counted and not the number
pub in_a_row-more : (f : ℕ → List ℕ) (i x : ℕ) → i ≤ x → in_a_row f i (x + 1 - i) ≡ in_a_row f i (x - i) ++ f x
in_a_row-more f i x h =
    let count : x + 1 - i ≡ suc (x - i) = omega arith in
    let place : i + (x - i) ≡ x = omega arith in
    let more = rw place at (in_a_row-suc f i (x - i)) in
    rw count more

in_a_row-split : (f : ℕ → List ℕ) (i m n : ℕ) → in_a_row f i (m + n) ≡ in_a_row f i m ++ in_a_row f (i + m) n
in_a_row-split f i zero n = let e : 0 + n ≡ n = omega arith in let a : i + 0 ≡ i = omega arith in rw (e, a) refl
in_a_row-split f i (suc m) n =
    let e : suc m + n ≡ suc (m + n) = omega arith in
    let a : i + 1 + m ≡ i + suc m = omega arith in
    let rest = rw a at (in_a_row-split f (i + 1) m n) in
    rw e (ap (λ xs. f i ++ xs) rest ∙ sym (append_assoc (f i) (in_a_row f (i + 1) m) (in_a_row f (i + suc m) n)))

in_a_row-same : (f g : ℕ → List ℕ) (i n : ℕ) → ((k : ℕ) → i ≤ k → k < i + n → f k ≡ g k) → in_a_row f i n ≡ in_a_row g i n
in_a_row-same f g i zero h = refl
in_a_row-same f g i (suc n) h =
    rw (h i (omega arith) (omega arith)) (ap (λ xs. g i ++ xs) (in_a_row-same f g (i + 1) n (λ k l m. h k (omega arith) (omega arith))))

-- the last piece begins where the others end, or is empty
last_piece : (f : ℕ → List ℕ) (w n : ℕ) → in_a_row f (0 + min w (16 * n)) (min 16 (w - 16 * n)) ≡ in_a_row f (16 * (0 + n)) (min 16 (w - 16 * (0 + n)))
last_piece f w n =
    let same : 0 + n ≡ n = omega arith in
    rw same (elim (le_or_below w (16 * n)) [
      | inl lt ↦ (let none : min 16 (w - 16 * n) ≡ 0 = omega arith in rw none refl)
      | inr ge ↦ (let start : 0 + min w (16 * n) ≡ 16 * n = omega arith in rw start refl)
    ])

-- pieces of 16, cut at the end, cover a row
pieces : (f : ℕ → List ℕ) (w n : ℕ) → in_a_row (λ c. in_a_row f (16 * c) (min 16 (w - 16 * c))) 0 n ≡ in_a_row f 0 (min w (16 * n))
pieces f w zero = let e : min w (16 * 0) ≡ 0 = omega arith in rw e refl
pieces f w (suc n) =
    let e : min w (16 * suc n) ≡ min w (16 * n) + min 16 (w - 16 * n) = omega arith in
    rw (e, in_a_row-suc (λ c. in_a_row f (16 * c) (min 16 (w - 16 * c))) 0 n, pieces f w n)
    (ap (λ xs. in_a_row f 0 (min w (16 * n)) ++ xs) (sym (last_piece f w n)) ∙ sym (in_a_row-split f 0 (min w (16 * n)) (min 16 (w - 16 * n))))

tile_row_of : (pixel_at : ℕ → ℕ → List ℕ) (w h y c : ℕ) → c < tiles_over w →
    in_a_row (λ x. pixel_at x y) (16 * c) (min 16 (w - 16 * c)) ≡ row_of pixel_at (tile_rect w h (y / 16 * tiles_over w + c)) y
unfolding tile_rect
tile_row_of pixel_at w h y c l = rw (mod-mul-add (y / 16) (tiles_over w) c l) refl

-- a row of a frame is the rows of its tiles side by side
pub row_of-tiles : (pixel_at : ℕ → ℕ → List ℕ) (w h y : ℕ) →
    row_of pixel_at (whole w h) y ≡ in_a_row (λ c. row_of pixel_at (tile_rect w h (y / 16 * tiles_over w + c)) y) 0 (tiles_over w)
row_of-tiles pixel_at w h y =
    let all : min w (16 * tiles_over w) ≡ w = omega arith in
    (rw all at (sym (pieces (λ x. pixel_at x y) w (tiles_over w))))
    ∙ in_a_row-same _ _ 0 (tiles_over w) (λ c l m. tile_row_of pixel_at w h y c (omega arith))
