-- Lists whose last element stands first.
use Rattle.std.proofs.Common.{◌≡◌, ◌∙◌, ◌+◌, ◌≤◌, List, [], ◌∷◌, ◌++◌, Option, Some, None, length, length-append, refl, sym, ap, subst, arith}
use Rattle.std.specs.List.{cons_option, filter_map}
use Rattle.std.specs.Prelude.{reverse}
use Rattle.std.specs.List.Sorted.{IsPermutation}
use Rattle.std.specs.Option.{option_to_list}
use Rattle.std.proofs.lemmas.List.{length-reverse, reverse-append, reverse-reverse}
use Rattle.std.proofs.lemmas.List.Elements.{filter_map-append}
use Rattle.std.proofs.lemmas.List.Sorted.{IsPermutation-reverse, IsPermutation-sym, IsPermutation-trans}

module _ {X : Type 0} where
  pub reversed_length : (xs : List X) → length (reverse xs) ≡ length xs
  reversed_length xs = length-reverse xs

  pub reversed_with : (xs : List X) (x : X) → reverse (xs ++ x ∷ []) ≡ x ∷ reverse xs
  reversed_with xs x = reverse-append xs (x ∷ [])

  pub reversed_taken : (xs : List X) (x : Option X) → reverse (xs ++ option_to_list x) ≡ option_to_list x ++ reverse xs
  reversed_taken xs None = reverse-append xs []
  reversed_taken xs (Some x) = reverse-append xs (x ∷ [])

  -- what is sorted and turned is read in that order
  pub reordered : (xs ys : List X) → IsPermutation xs ys → IsPermutation (reverse xs) (reverse (reverse ys))
  reordered xs ys moved =
      subst (IsPermutation (reverse xs)) (sym (reverse-reverse ys)) (IsPermutation-trans (reverse xs) xs ys (IsPermutation-sym xs (reverse xs) (IsPermutation-reverse xs)) moved)

  pub reversed_none : (xs : List X) → length xs ≡ 0 → reverse xs ≡ []
  reversed_none [] none = refl
  reversed_none (x ∷ xs) none = absurd cc

-- what is collected of a list and of one element more
pub collected_more : {X Y : Type 0} (f : X → Option Y) (xs : List X) (x : X) → length (filter_map f (xs ++ x ∷ [])) ≡ length (filter_map f xs) + length (option_to_list (f x))
collected_more {X} {Y} f xs x = ap length (filter_map-append f xs (x ∷ [])) ∙ length-append (filter_map f xs) (cons_option (f x) []) ∙ ap (λ n. length (filter_map f xs) + n) (alone (f x))
  where
    alone : (y : Option Y) → length (cons_option y []) ≡ length (option_to_list y)
    alone None = refl
    alone (Some y) = refl

pub front_collected : {X Y : Type 0} (f : X → Option Y) (xs : List X) (x : X) → length (filter_map f (x ∷ xs)) ≡ length (filter_map f xs) + length (option_to_list (f x))
front_collected {X} {Y} f xs x = by (f x)
  where
    by : (y : Option Y) → length (cons_option y (filter_map f xs)) ≡ length (filter_map f xs) + length (option_to_list y)
    by None = omega arith
    by (Some y) = omega arith

-- as much is collected of a list from its end
pub reversed_collected : {X Y : Type 0} (f : X → Option Y) (xs : List X) → length (filter_map f (reverse xs)) ≡ length (filter_map f xs)
reversed_collected f [] = refl
reversed_collected f (x ∷ xs) =
    ap (λ ys. length (filter_map f ys)) (reverse-append (x ∷ []) xs)
    ∙ collected_more f (reverse xs) x ∙ ap (λ n. n + length (option_to_list (f x))) (reversed_collected f xs) ∙ sym (front_collected f xs x)

pub one_of : {X Y : Type 0} (f : X → Option Y) (xs : List X) → length (filter_map f xs) ≤ length xs
one_of {X} {Y} f [] = omega arith
one_of {X} {Y} f (x ∷ xs) = by (f x) (one_of f xs)
  where
    by : (y : Option Y) → length (filter_map f xs) ≤ length xs → length (cons_option y (filter_map f xs)) ≤ length (x ∷ xs)
    by None rest = omega (arith, rest)
    by (Some y) rest = omega (arith, rest)
