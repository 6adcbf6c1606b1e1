-- Tests, one after the other.
use Rattle.std.proofs.Common.{◌≡◌, ℕ, ℤ, pos, ◌+◌, ◌<◌, ◌≤◌, Bool, true, false, not, ◌&&◌, cond, Option, None, List, [], ◌∷◌, ◌++◌, Some, length, get_or, drop, take, refl, ap, sym, ◌∙◌, arith}
use Rattle.std.specs.Borrow.{Bor}
use Rattle.std.specs.List.{find, flat_map, list_all}
use Rattle.std.specs.Option.{is_some, option_map, option_or}
use Rattle.std.proofs.lemmas.Bool.{le-leb, lt-leb}
use Rattle.std.proofs.lemmas.List.{drop_all, drop_more, get_or-take, length-take, length-take-le}
use Rattle.std.proofs.lemmas.List.Folds.{find-append}
use Rattle.fx_math.specs.declared.transforms.Mat34.{Mat34}
use Rattle.kind_tables.specs.Ranges.{first_broken, is_radius}
use Rattle.scene_read.specs.Tested.{are_radii, tests_in}

-- the first test fails, or the first that fails is among the others
first_broken_by : (name : List ℕ) (holds : Bool) (tests : List (List ℕ × Bool)) → first_broken ((name, holds) ∷ tests) ≡ cond holds (first_broken tests) (Some name)
first_broken_by name true tests = refl
first_broken_by name false tests = refl

pub first_broken_from : (tests : List (Bor (List ℕ) × Bool)) (i : ℕ) (d : Bor (List ℕ) × Bool) (holds : Bool) → i < length tests → (get_or tests i d).1 ≡ holds →
    first_broken (tests_in (drop i tests)) ≡ cond holds (first_broken (tests_in (drop (i + 1) tests))) (Some (get_or tests i d).0.now)
first_broken_from tests i d holds l e =
    ap (λ ts. first_broken (tests_in ts)) (drop_more tests i d l)
    ∙ first_broken_by (get_or tests i d).0.now (get_or tests i d).1 (tests_in (drop (i + 1) tests))
    ∙ ap (λ b. cond b (first_broken (tests_in (drop (i + 1) tests))) (Some (get_or tests i d).0.now)) e

-- the first that fails of two lists, and of lists behind one another
option_or-map : {X Y : Type 0} (f : X → Y) (a b : Option X) → option_map f (option_or a b) ≡ option_or (option_map f a) (option_map f b)
option_or-map f None b = refl
option_or-map f (Some x) b = refl

pub first_broken-append : (xs ys : List (List ℕ × Bool)) → first_broken (xs ++ ys) ≡ option_or (first_broken xs) (first_broken ys)
first_broken-append xs ys =
    ap (option_map (λ test. test.0)) (find-append (λ test. not test.1) xs ys)
    ∙ option_or-map (λ test. test.0) (find (λ test. not test.1) xs) (find (λ test. not test.1) ys)

pub first_broken_of_from : {X : Type 0} (f : X → List (List ℕ × Bool)) (xs : List X) (i : ℕ) (d : X) (broken : Option (List ℕ)) → i < length xs →
    broken ≡ first_broken (f (get_or xs i d)) →
    first_broken (flat_map f (drop i xs)) ≡ option_or broken (first_broken (flat_map f (drop (i + 1) xs)))
first_broken_of_from f xs i d broken l e =
    ap (λ ys. first_broken (flat_map f ys)) (drop_more xs i d l)
    ∙ first_broken-append (f (get_or xs i d)) (flat_map f (drop (i + 1) xs))
    ∙ ap (λ b. option_or b (first_broken (flat_map f (drop (i + 1) xs)))) (sym e)

-- a test of all items from a place on
pub list_all_from : {X : Type 0} (p : X → Bool) (xs : List X) (i : ℕ) (d : X) (b : Bool) → i < length xs → p (get_or xs i d) ≡ b →
    list_all p (drop i xs) ≡ (b && list_all p (drop (i + 1) xs))
list_all_from p xs i d b l e = ap (list_all p) (drop_more xs i d l) ∙ ap (λ c. c && list_all p (drop (i + 1) xs)) e

-- two tests of one name are one
pub joined_tests : (first : List ℕ × Bool) (name : List ℕ) (a b : Bool) → first_broken (first ∷ (name, a) ∷ (name, b) ∷ []) ≡ first_broken (first ∷ (name, a && b) ∷ [])
joined_tests (n, true) name true b = refl
joined_tests (n, true) name false true = refl
joined_tests (n, true) name false false = refl
joined_tests (n, false) name a b = refl

-- an answer stands before the others
pub answer_first : {X : Type 0} (a b : Option X) → is_some a ≡ true → option_or a b ≡ a
answer_first None b e = cc
answer_first (Some x) b e = refl

pub no_answer_first : {X : Type 0} (a b : Option X) → is_some a ≡ false → option_or a b ≡ b
no_answer_first None b e = refl
no_answer_first (Some x) b e = cc

-- too few radii, or enough of them
pub too_few : (m : Mat34) (radii : List ℤ) (count : ℕ) → length radii < count → are_radii m radii count ≡ false
too_few m radii count l = ap (λ b. b && list_all (is_radius m) (take count radii)) (lt-leb count (length radii) l)

pub enough : (m : Mat34) (radii : List ℤ) (count : ℕ) → count ≤ length radii → are_radii m radii count ≡ list_all (is_radius m) (take count radii)
enough m radii count l = ap (λ b. b && list_all (is_radius m) (take count radii)) (le-leb count (length radii) l)

-- the radii from a place on
pub radii_from : (m : Mat34) (radii : List ℤ) (count i : ℕ) (b : Bool) → count ≤ length radii → i < count → is_radius m (get_or radii i (pos 0)) ≡ b →
    list_all (is_radius m) (drop i (take count radii)) ≡ (b && list_all (is_radius m) (drop (i + 1) (take count radii)))
radii_from m radii count i b enough l e =
    let within : i < length (take count radii) = omega (arith, length-take-le count radii enough) in
    list_all_from (is_radius m) (take count radii) i (pos 0) b within (ap (is_radius m) (get_or-take count radii i (pos 0) l) ∙ e)

pub no_radii_left : (m : Mat34) (radii : List ℤ) (count i : ℕ) → count ≤ i → list_all (is_radius m) (drop i (take count radii)) ≡ true
no_radii_left m radii count i l =
    ap (list_all (is_radius m)) (drop_all i (take count radii) (omega (arith, length-take count radii)))

-- an answer, or else the next
pub first_or : {X : Type 0} (x a b : Option X) → x ≡ a → is_some x ≡ true → x ≡ option_or a b
first_or x a b e some = e ∙ sym (answer_first a b (sym (ap is_some e) ∙ some))

pub next_or : {X : Type 0} (x a y b : Option X) → x ≡ a → is_some x ≡ false → y ≡ b → y ≡ option_or a b
next_or x a y b e none f = f ∙ sym (no_answer_first a b (sym (ap is_some e) ∙ none))
