-- Lists that are made item by item.
use Rattle.std.proofs.Common.{◌≡◌, ℕ, suc, ◌+◌, ◌<◌, Bool, true, false, List, [], ◌∷◌, ◌++◌, Option, Some, None, length, get_or, take, map, refl, ap, sym, ◌∙◌, arith}
use Rattle.std.specs.List.{enumerate_from, filter_map, flat_map, cons_option, list_all, range_with_len}
use Rattle.std.specs.Option.{option_to_list}
use Rattle.std.proofs.lemmas.List.{append-nil, get_or-map, length-map, length-take-le, map-append, map-id, map_more, take_more}
use Rattle.std.proofs.lemmas.List.Folds.{list_all_at}
use Rattle.std.proofs.lemmas.List.Elements.{filter_map-append}
use Rattle.std.proofs.lemmas.List.FromFn.{map-range_with_len_more}
use Rattle.std.proofs.lemmas.Grind.{flat_map-append}

-- one more number
range_more : (n : ℕ) → range_with_len 0 (n + 1) ≡ range_with_len 0 n ++ n ∷ []
range_more n =
    sym (map-id (range_with_len 0 (n + 1))) ∙ map-range_with_len_more (λ x. x) 0 n n (omega arith) ∙ ap (λ xs. xs ++ n ∷ []) (map-id (range_with_len 0 n))

-- one more item, if there is one
one_more : {Y : Type 0} (o : Option Y) → cons_option o [] ≡ option_to_list o
one_more None = refl
one_more (Some y) = refl

-- what a function gives of one more number
pub filter_map-range_more : {Y : Type 0} (h : ℕ → Option Y) (n : ℕ) → filter_map h (range_with_len 0 (n + 1)) ≡ filter_map h (range_with_len 0 n) ++ option_to_list (h n)
filter_map-range_more h n = rw (range_more n) (filter_map-append h (range_with_len 0 n) (n ∷ []) ∙ ap (λ xs. filter_map h (range_with_len 0 n) ++ xs) (one_more (h n)))

-- what a function gives of one more item
pub filter_map-take_more : {X Y : Type 0} (h : X → Option Y) (xs : List X) (i : ℕ) (d : X) → i < length xs →
    filter_map h (take (i + 1) xs) ≡ filter_map h (take i xs) ++ option_to_list (h (get_or xs i d))
filter_map-take_more h xs i d l =
    rw (take_more xs i d l) (filter_map-append h (take i xs) (get_or xs i d ∷ []) ∙ ap (λ ys. filter_map h (take i xs) ++ ys) (one_more (h (get_or xs i d))))

-- all lists behind one another, with one more
pub flat_map-take_more : {X Y : Type 0} (f : X → List Y) (xs : List X) (i : ℕ) (d : X) → i < length xs →
    flat_map f (take (i + 1) xs) ≡ flat_map f (take i xs) ++ f (get_or xs i d)
flat_map-take_more f xs i d l =
    rw (take_more xs i d l) (flat_map-append f (take i xs) (get_or xs i d ∷ []) ∙ ap (λ ys. flat_map f (take i xs) ++ ys) (append-nil (f (get_or xs i d))))

-- the same of a mapped list
pub filter_map-map_more : {X Y Z : Type 0} (f : X → Y) (h : Y → Option Z) (xs : List X) (i : ℕ) (d : X) → i < length xs →
    filter_map h (map f (take (i + 1) xs)) ≡ filter_map h (map f (take i xs)) ++ option_to_list (h (f (get_or xs i d)))
filter_map-map_more f h xs i d l =
    rw (map_more f xs i d l)
    (filter_map-append h (map f (take i xs)) (f (get_or xs i d) ∷ []) ∙ ap (λ ys. filter_map h (map f (take i xs)) ++ ys) (one_more (h (f (get_or xs i d)))))

-- a test of all items holds of each
test_is : {Y : Type 0} (p : Y → Bool) (xs : List Y) (i : ℕ) (d : Y) → i < length xs → list_all p xs ≡ true → (b : Bool) → p (get_or xs i d) ≡ b → b ≡ true
test_is p xs i d l all true e = refl
test_is p xs i d l all false e = let none : list_all p xs ≡ false = list_all_at p xs i d l e in cc

pub list_all-map_at : {X Y : Type 0} (f : X → Y) (p : Y → Bool) (xs : List X) (i : ℕ) (d : X) → i < length xs → list_all p (map f xs) ≡ true → p (f (get_or xs i d)) ≡ true
list_all-map_at f p xs i d l all =
    let within : i < length (map f xs) = omega (arith, length-map xs f) in
    let e : get_or (map f xs) i (f d) ≡ f (get_or xs i d) = get_or-map f xs i d (f d) l in
    ap p (sym e) ∙ test_is p (map f xs) i (f d) within all (p (get_or (map f xs) i (f d))) refl

pub flat_map-map_more : {X Y Z : Type 0} (f : X → Y) (g : Y → List Z) (xs : List X) (i : ℕ) (d : X) → i < length xs →
    flat_map g (map f (take (i + 1) xs)) ≡ flat_map g (map f (take i xs)) ++ g (f (get_or xs i d))
flat_map-map_more f g xs i d l =
    rw (map_more f xs i d l)
    (flat_map-append g (map f (take i xs)) (f (get_or xs i d) ∷ []) ∙ ap (λ ys. flat_map g (map f (take i xs)) ++ ys) (append-nil (g (f (get_or xs i d)))))

-- one more item takes the next number
enumerate_at : {X : Type 0} (n : ℕ) (xs : List X) (x : X) → enumerate_from n (xs ++ x ∷ []) ≡ enumerate_from n xs ++ (n + length xs, x) ∷ []
enumerate_at n [] x = let e : n + 0 ≡ n = omega arith in rw e refl
enumerate_at n (y ∷ xs) x =
    let e : n + 1 + length xs ≡ n + suc (length xs) = omega arith in
    ap (λ zs. (n, y) ∷ zs) (rw e at (enumerate_at (n + 1) xs x))

enumerate-append : {X : Type 0} (xs : List X) (x : X) → enumerate_from 0 (xs ++ x ∷ []) ≡ enumerate_from 0 xs ++ (length xs, x) ∷ []
enumerate-append xs x = let e : 0 + length xs ≡ length xs = omega arith in rw e at (enumerate_at 0 xs x)

-- numbered items of the first places, with one more
pub enumerate_more : {X Y : Type 0} (f : ℕ × X → Y) (xs : List X) (i : ℕ) (d : X) → i < length xs →
    map f (enumerate_from 0 (take (i + 1) xs)) ≡ map f (enumerate_from 0 (take i xs)) ++ f (i, get_or xs i d) ∷ []
enumerate_more f xs i d l =
    rw (take_more xs i d l, enumerate-append (take i xs) (get_or xs i d), length-take-le i xs (omega arith)) (map-append f (enumerate_from 0 (take i xs)) ((i, get_or xs i d) ∷ []))
