-- The bytes of components, one after the other.
use Rattle.std.proofs.Common.{◌≡◌, ℕ, ◌+◌, ◌<◌, ◌≤◌, List, [], ◌∷◌, ◌++◌, Bool, true, false, Option, Some, None, drop, length, get_or, refl, ap, sym, ◌∙◌, append_assoc, append-nil, true≢false}
use Rattle.std.specs.Prelude.{option_map, option_and_then}
use Rattle.std.specs.List.{concat}
use Rattle.trace_text.specs.Json.{each}
use Rattle.trace_text.specs.Components.{IsPushed}
use Rattle.trace_text.proofs.JsonFacts.{next_item, drop_past}

-- bytes found so far, before those that the rest gives
abbrev pub joined : {A : Type 0} → (A → Option (List ℕ)) → List ℕ → List A → Option (List ℕ)
joined f found xs = option_map (λ rest. found ++ concat rest) (each f xs)

joined-push : (found bytes : List ℕ) (o : Option (List (List ℕ))) →
    option_map (λ rest. found ++ concat rest) (option_map (λ rest. bytes ∷ rest) o) ≡ option_map (λ rest. (found ++ bytes) ++ concat rest) o
joined-push found bytes None = refl
joined-push found bytes (Some rest) = ap Some (sym (append_assoc found bytes (concat rest)))

joined-cons : {A : Type 0} (f : A → Option (List ℕ)) (found new : List ℕ) (fits : Bool) (o : Option (List ℕ)) (x : A) (xs : List A) → f x ≡ o → IsPushed o found new fits → fits ≡ true →
    joined f found (x ∷ xs) ≡ joined f new xs
joined-cons f found new fits None x xs is pushed true_is = absurd (true≢false (sym true_is ∙ pushed))
joined-cons f found new fits (Some bytes) x xs is pushed true_is =
    ap (λ o. option_map (λ rest. found ++ concat rest) (option_and_then (λ y. option_map (λ ys. y ∷ ys) (each f xs)) o)) is
    ∙ joined-push found bytes (each f xs)
    ∙ ap (λ n. joined f n xs) (sym pushed.1)

joined-none : {A : Type 0} (f : A → Option (List ℕ)) (found new : List ℕ) (fits : Bool) (o : Option (List ℕ)) (x : A) (xs : List A) → f x ≡ o → IsPushed o found new fits → fits ≡ false →
    joined f found (x ∷ xs) ≡ None
joined-none f found new fits None x xs is pushed false_is = ap (λ o. option_map (λ rest. found ++ concat rest) (option_and_then (λ y. option_map (λ ys. y ∷ ys) (each f xs)) o)) is
joined-none f found new fits (Some bytes) x xs is pushed false_is = absurd (true≢false (sym pushed.0 ∙ false_is))

-- a component that was pushed
pub joined-step : {A : Type 0} (f : A → Option (List ℕ)) (xs : List A) (i : ℕ) (e : A) (found new : List ℕ) (fits : Bool) (all : Option (List ℕ)) →
    i < length xs → IsPushed (f (get_or xs i e)) found new fits → fits ≡ true → joined f found (drop i xs) ≡ all → joined f new (drop (i + 1) xs) ≡ all
joined-step f xs i e found new fits all within pushed is before =
    sym (joined-cons f found new fits _ (get_or xs i e) (drop (i + 1) xs) refl pushed is) ∙ ap (joined f found) (sym (next_item xs i e within)) ∙ before

-- a number that is out of its range
pub joined-stops : {A : Type 0} (f : A → Option (List ℕ)) (xs : List A) (i : ℕ) (e : A) (found new : List ℕ) (fits : Bool) (all : Option (List ℕ)) →
    i < length xs → IsPushed (f (get_or xs i e)) found new fits → fits ≡ false → joined f found (drop i xs) ≡ all → None ≡ all
joined-stops f xs i e found new fits all within pushed is before =
    sym (joined-none f found new fits _ (get_or xs i e) (drop (i + 1) xs) refl pushed is) ∙ ap (joined f found) (sym (next_item xs i e within)) ∙ before

pub joined-ends : {A : Type 0} (f : A → Option (List ℕ)) (xs : List A) (i : ℕ) (found : List ℕ) (all : Option (List ℕ)) →
    length xs ≤ i → joined f found (drop i xs) ≡ all → Some found ≡ all
joined-ends f xs i found all past before = ap Some (sym (append-nil found)) ∙ ap (joined f found) (sym (drop_past xs i past)) ∙ before

pub joined-all : {A : Type 0} (f : A → Option (List ℕ)) (xs : List A) → joined f [] xs ≡ option_map concat (each f xs)
joined-all f xs = refl
