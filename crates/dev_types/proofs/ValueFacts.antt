-- Lists of numbers and their bytes, four a number.
use Rattle.std.proofs.Common.{ℕ, ℤ, pos, zero, suc, ◌*◌, ◌+◌, ◌^◌, ◌<◌, ◌≤◌, ◌≡◌, ◌∙◌, ap, sym, refl, List, [], ◌∷◌, ◌++◌, length, take, drop, map, get_or, arith, length-append, length-drop, length-take, append-nil, append_assoc, lit<}
use Rattle.std.proofs.Math.ListN.{set}
use Rattle.std.proofs.Math.Seq.{take-append_seam, drop-append_seam, take-length, take-add}
use Rattle.std.proofs.lemmas.Bool.{cases_lt}
use Rattle.std.proofs.lemmas.Slice.{take-put_mid}
use borrow.Rule.Slice.PartMut.{put_mid}
use Rattle.std.proofs.lemmas.List.{length-take-le, take-append-drop, get_or-drop, get_or-take, get_or_past, take_more, take_more_set, drop-drop}
use Rattle.std.proofs.lemmas.Grind.{flat_map-append}
use Rattle.std.proofs.Common.{inl, inr}
use Rattle.std.proofs.Math.Facts.{Fits-of_z}
use Rattle.std.proofs.lemmas.Int.{to_z-of_z, of_z-to_z}
use Rattle.std.proofs.lemmas.Nat.{from_le_bytes-to_le_bytes_4, le_bytes_4}
use Rattle.std.specs.Prelude.{FitsSigned}
use Rattle.std.specs.Int.{w32, cast_signed, cast_unsigned}
use Rattle.std.specs.List.{flat_map}
use Rattle.dev_types.specs.ValueBytes.{unsigned_bytes, signed_bytes, unsigned_number, signed_number, groups, unsigned_numbers, signed_numbers}

-- each is a byte
abbrev pub AreBytes : List ℕ → Type 0
AreBytes bs = (i : ℕ) → get_or bs i 0 < 256

-- as many groups of four bytes as numbers
length_bytes : {X : Type 0} (f : X → List ℕ) (xs : List X) → ((x : X) → length (f x) ≡ 4) → length (flat_map f xs) ≡ 4 * length xs
length_bytes f [] four = refl
length_bytes f (x ∷ xs) four = omega (arith, length-append (f x) (flat_map f xs), four x, length_bytes f xs four)

pub length_unsigned : (ns : List ℕ) → length (flat_map unsigned_bytes ns) ≡ 4 * length ns
length_unsigned ns = length_bytes unsigned_bytes ns (λ n. refl)

pub length_signed : (zs : List ℤ) → length (flat_map signed_bytes zs) ≡ 4 * length zs
length_signed zs = length_bytes signed_bytes zs (λ z. refl)

-- a number is read from its bytes
pub number_of_bytes : (n : ℕ) → n < 2 ^ 32 → unsigned_number (unsigned_bytes n) ≡ n
number_of_bytes n fits = from_le_bytes-to_le_bytes_4 n fits

pub signed_of_bytes : (z : ℤ) → FitsSigned w32 z → signed_number (signed_bytes z) ≡ z
signed_of_bytes z fits = ap (cast_signed w32) (from_le_bytes-to_le_bytes_4 (cast_unsigned w32 z) (Fits-of_z {w = w32} fits).fits) ∙ to_z-of_z w32 z fits

-- the number of four bytes fits them
number_fits : (bs : List ℕ) → AreBytes bs → unsigned_number bs < 2 ^ 32
number_fits bs bytes =
    let b0 : get_or bs 0 0 < 256 = bytes 0 in
    let b1 : get_or bs 1 0 < 256 = bytes 1 in
    let b2 : get_or bs 2 0 < 256 = bytes 2 in
    let b3 : get_or bs 3 0 < 256 = bytes 3 in
    omega arith

-- four bytes are those of their number
pub bytes_of_number : (bs : List ℕ) → length bs ≡ 4 → AreBytes bs → unsigned_bytes (unsigned_number bs) ≡ bs
bytes_of_number bs four bytes = le_bytes_4 bs (unsigned_number bs) four bytes refl

pub bytes_of_signed : (bs : List ℕ) → length bs ≡ 4 → AreBytes bs → signed_bytes (signed_number bs) ≡ bs
bytes_of_signed bs four bytes = ap unsigned_bytes (of_z-to_z w32 (unsigned_number bs) (number_fits bs bytes)) ∙ bytes_of_number bs four bytes

-- the first group, and the rest
first_group : (b bs : List ℕ) (n : ℕ) → length b ≡ 4 → groups (suc n) (b ++ bs) ≡ b ∷ groups n bs
first_group b bs n four = rw (← four) (rw (take-append_seam b bs, drop-append_seam b bs) refl)

-- the groups of the bytes of numbers are each number's bytes
groups_of_bytes : {X : Type 0} (f : X → List ℕ) (xs : List X) → ((x : X) → length (f x) ≡ 4) → groups (length xs) (flat_map f xs) ≡ map f xs
groups_of_bytes f [] four = refl
groups_of_bytes f (x ∷ xs) four = let here : length (f x) ≡ 4 = four x in first_group (f x) (flat_map f xs) (length xs) here ∙ ap (λ (gs : List (List ℕ)). f x ∷ gs) (groups_of_bytes f xs four)

-- numbers are read from their bytes
numbers_of_bytes : {X : Type 0} (f : X → List ℕ) (g : List ℕ → X) (d : X) (xs : List X) → ((x : X) → length (f x) ≡ 4) →
    ((i : ℕ) → i < length xs → g (f (get_or xs i d)) ≡ get_or xs i d) → map g (groups (length xs) (flat_map f xs)) ≡ xs
numbers_of_bytes {X} f g d [] four back = refl
numbers_of_bytes {X} f g d (x ∷ xs) four back =
    ap (map g) (first_group (f x) (flat_map f xs) (length xs) (four x)) ∙
    ap (λ (y : X). y ∷ map g (groups (length xs) (flat_map f xs))) (back 0 (omega arith)) ∙
    ap (λ (ys : List X). x ∷ ys) (numbers_of_bytes f g d xs four (λ i within. back (suc i) (omega arith)))

-- the front of bytes is bytes
are_bytes-take : (n : ℕ) (bs : List ℕ) → AreBytes bs → AreBytes (take n bs)
are_bytes-take n bs bytes i =
    elim (cases_lt i n) [ inl below ↦ rw get_or-take (bytes i) | inr above ↦ let past : length (take n bs) ≤ i = omega (arith, length-take n bs) in rw (get_or_past (take n bs) i 0 past) (lit< tt) ]

-- bytes are those of the numbers in them
bytes_of_numbers : {X : Type 0} (f : X → List ℕ) (g : List ℕ → X) (n : ℕ) (bs : List ℕ) →
    ((b : List ℕ) → length b ≡ 4 → AreBytes b → f (g b) ≡ b) → length bs ≡ 4 * n → AreBytes bs → flat_map f (map g (groups n bs)) ≡ bs
bytes_of_numbers f g zero [] back long bytes = refl
bytes_of_numbers f g zero (b ∷ bs) back long bytes = absurd (omega arith)
bytes_of_numbers f g (suc n) bs back long bytes =
    let four : length (take 4 bs) ≡ 4 = length-take-le 4 bs (omega arith) in
    let first : AreBytes (take 4 bs) = are_bytes-take 4 bs bytes in
    let rest : AreBytes (drop 4 bs) = λ i. rw get_or-drop (bytes (4 + i)) in
    let long_rest : length (drop 4 bs) ≡ 4 * n = omega (arith, length-drop 4 bs) in
    ap (λ (front : List ℕ). front ++ flat_map f (map g (groups n (drop 4 bs)))) (back (take 4 bs) four first) ∙
    ap (λ (tail : List ℕ). take 4 bs ++ tail) (bytes_of_numbers f g n (drop 4 bs) back long_rest rest) ∙
    take-append-drop 4 bs

-- after all numbers were written, the bytes are theirs
whole : {X : Type 0} (f : X → List ℕ) (xs : List X) (bs : List ℕ) (i : ℕ) → length xs ≡ i → length bs ≡ 4 * i →
    take (4 * i) bs ≡ flat_map f (take i xs) → bs ≡ flat_map f xs
whole {X} f xs bs i many long written =
    let left : take (4 * i) bs ≡ bs = rw (← long) (take-length bs) in
    let right : take i xs ≡ xs = rw (← many) (take-length xs) in
    sym left ∙ written ∙ ap (flat_map f) right

pub unsigned_back : (ns : List ℕ) (bs : List ℕ) (n i : ℕ) → length ns ≡ n → length bs ≡ 4 * n → i ≡ n →
    take (4 * i) bs ≡ flat_map unsigned_bytes (take i ns) → ((k : ℕ) → k < i → get_or ns k 0 < 2 ^ 32) → unsigned_numbers n bs ≡ ns
unsigned_back ns bs n i many long all written fit =
    let e : bs ≡ flat_map unsigned_bytes ns = whole unsigned_bytes ns bs i (omega arith) (omega arith) written in
    ap (λ (w : List ℕ). unsigned_numbers n w) e ∙ ap (λ (m : ℕ). unsigned_numbers m (flat_map unsigned_bytes ns)) (sym many) ∙
    numbers_of_bytes unsigned_bytes unsigned_number 0 ns (λ x. refl) (λ k within. number_of_bytes (get_or ns k 0) (fit k (omega arith)))

pub signed_back : (zs : List ℤ) (bs : List ℕ) (n i : ℕ) → length zs ≡ n → length bs ≡ 4 * n → i ≡ n →
    take (4 * i) bs ≡ flat_map signed_bytes (take i zs) → ((k : ℕ) → k < i → FitsSigned w32 (get_or zs k (pos 0))) → signed_numbers n bs ≡ zs
signed_back zs bs n i many long all written fit =
    let e : bs ≡ flat_map signed_bytes zs = whole signed_bytes zs bs i (omega arith) (omega arith) written in
    ap (λ (w : List ℕ). signed_numbers n w) e ∙ ap (λ (m : ℕ). signed_numbers m (flat_map signed_bytes zs)) (sym many) ∙
    numbers_of_bytes signed_bytes signed_number (pos 0) zs (λ x. refl) (λ k within. signed_of_bytes (get_or zs k (pos 0)) (fit k (omega arith)))

-- one more number written
pub write_step : {X : Type 0} (f : X → List ℕ) (xs : List X) (d : X) (i k : ℕ) (into piece : List ℕ) → ((x : X) → length (f x) ≡ 4) →
    i < length xs → 4 * i ≤ length into → piece ≡ f (get_or xs i d) → take (4 * i) into ≡ flat_map f (take i xs) →
    take (4 * (i + 1)) (put_mid (4 * i) k into piece) ≡ flat_map f (take (i + 1) xs)
write_step {X} f xs d i k into piece four within long this before =
    let four_more : length piece ≡ 4 = ap length this ∙ four (get_or xs i d) in
    let one : flat_map f (get_or xs i d ∷ []) ≡ f (get_or xs i d) = append-nil (f (get_or xs i d)) in
    take-put_mid (4 * i) k into piece (4 * (i + 1)) (omega arith) long ∙
    ap (λ (front : List ℕ). front ++ piece) before ∙
    ap (λ (back : List ℕ). flat_map f (take i xs) ++ back) (this ∙ sym one) ∙
    sym (ap (flat_map f) (take_more xs i d within) ∙ flat_map-append f (take i xs) (get_or xs i d ∷ []))

-- one more number read: its value, and that the bytes so far are those of the numbers so far
pub read_step : {X : Type 0} (g : List ℕ → X) (ys : List X) (bs : List ℕ) (i n : ℕ) (y : X) → i < length ys → y ≡ g (take 4 (drop (4 * i) bs)) →
    ((m : ℕ) → i + m ≡ n → take i ys ++ map g (groups m (drop (4 * i) bs)) ≡ map g (groups n bs)) →
    (m : ℕ) → i + 1 + m ≡ n → take (i + 1) (set ys i y) ++ map g (groups m (drop (4 * (i + 1)) bs)) ≡ map g (groups n bs)
read_step {X} g ys bs i n y within this before m many =
    let on : drop 4 (drop (4 * i) bs) ≡ drop (4 * (i + 1)) bs = drop-drop 4 (4 * i) bs ∙ ap (λ (k : ℕ). drop k bs) (omega arith) in
    ap (λ (front : List X). front ++ map g (groups m (drop (4 * (i + 1)) bs))) (take_more_set ys i y within) ∙
    append_assoc (take i ys) (y ∷ []) (map g (groups m (drop (4 * (i + 1)) bs))) ∙
    ap (λ (z : X). take i ys ++ (z ∷ map g (groups m (drop (4 * (i + 1)) bs)))) this ∙
    ap (λ (after : List ℕ). take i ys ++ (g (take 4 (drop (4 * i) bs)) ∷ map g (groups m after))) (sym on) ∙
    before (suc m) (omega arith)

pub same_step : {X : Type 0} (f : X → List ℕ) (ys : List X) (bs : List ℕ) (i : ℕ) (y : X) → i < length ys → f y ≡ take 4 (drop (4 * i) bs) →
    flat_map f (take i ys) ≡ take (4 * i) bs → flat_map f (take (i + 1) (set ys i y)) ≡ take (4 * (i + 1)) bs
same_step {X} f ys bs i y within this before =
    let one : flat_map f (y ∷ []) ≡ f y = append-nil (f y) in
    let more : take (4 * (i + 1)) bs ≡ take (4 * i) bs ++ take 4 (drop (4 * i) bs) = ap (λ (k : ℕ). take k bs) (omega arith) ∙ take-add (4 * i) 4 bs in
    ap (flat_map f) (take_more_set ys i y within) ∙ flat_map-append f (take i ys) (y ∷ []) ∙
    ap (λ (back : List ℕ). flat_map f (take i ys) ++ back) (one ∙ this) ∙
    ap (λ (front : List ℕ). front ++ take 4 (drop (4 * i) bs)) before ∙ sym more

-- all numbers read
pub read_done : {X : Type 0} (g : List ℕ → X) (ys : List X) (bs : List ℕ) (i n : ℕ) → length ys ≡ n → i ≡ n →
    ((m : ℕ) → i + m ≡ n → take i ys ++ map g (groups m (drop (4 * i) bs)) ≡ map g (groups n bs)) → ys ≡ map g (groups n bs)
read_done {X} g ys bs i n many all before =
    let whole_length : length ys ≡ i = omega arith in
    let front : take i ys ≡ ys = rw (← whole_length) (take-length ys) in
    sym front ∙ sym (append-nil (take i ys)) ∙ before 0 (omega arith)
