-- Lists over rising numbers, one more at a time, and the states of the generator.
use Rattle.std.proofs.Common.{◌≡◌, ℕ, zero, suc, ◌+◌, ◌*◌, List, [], ◌∷◌, ◌++◌, map, ap, sym, ◌∙◌, append_assoc, append-nil, add-one, arith}
use Rattle.std.proofs.lemmas.List.{map-append}
use Rattle.std.specs.List.{flat_map, range_with_len}
use Rattle.trace_make.specs.Draws.{next_state, state_after}

flat_from : {A : Type 0} (f : ℕ → List A) (a n : ℕ) → flat_map f (range_with_len a (suc n)) ≡ flat_map f (range_with_len a n) ++ f (a + n)
flat_from f a zero = append-nil (f a) ∙ (let e : a ≡ a + 0 = omega arith in ap f e)
flat_from f a (suc n) =
    let e : a + 1 + n ≡ a + suc n = omega arith in
    ap (λ l. f a ++ l) (flat_from f (a + 1) n) ∙ sym (append_assoc (f a) (flat_map f (range_with_len (a + 1) n)) (f (a + 1 + n)))
    ∙ ap (λ k. flat_map f (range_with_len a (suc n)) ++ f k) e

-- what f gives of one number more
pub flat_range_more : {A : Type 0} (f : ℕ → List A) (n : ℕ) → flat_map f (range_with_len 0 (n + 1)) ≡ flat_map f (range_with_len 0 n) ++ f n
flat_range_more f n =
    let e : 0 + n ≡ n = omega arith in
    ap (λ k. flat_map f (range_with_len 0 k)) (add-one n) ∙ flat_from f 0 n ∙ ap (λ k. flat_map f (range_with_len 0 n) ++ f k) e

-- a loop that adds what f gives of each number
pub added_of : {A : Type 0} (f : ℕ → List A) (n : ℕ) (old now new piece : List A) → now ≡ old ++ flat_map f (range_with_len 0 n) → new ≡ now ++ piece → piece ≡ f n →
    new ≡ old ++ flat_map f (range_with_len 0 (n + 1))
added_of f n old now new piece before grown is =
    grown ∙ (λ i. before i ++ is i) ∙ append_assoc old (flat_map f (range_with_len 0 n)) (f n) ∙ ap (λ l. old ++ l) (sym (flat_range_more f n))

-- one element, and then others
pub one_then : {A : Type 0} (old now new : List A) (d : A) (rest : List A) → now ≡ old ++ d ∷ [] → new ≡ now ++ rest → new ≡ old ++ d ∷ rest
one_then old now new d rest first others = others ∙ ap (λ l. l ++ rest) first ∙ append_assoc old (d ∷ []) rest

-- some elements, and then others
pub some_then : {A : Type 0} (old now new xs rest : List A) → now ≡ old ++ xs → new ≡ now ++ rest → new ≡ old ++ (xs ++ rest)
some_then old now new xs rest first others = others ∙ ap (λ l. l ++ rest) first ∙ append_assoc old xs rest

-- ---- what two functions give, one after the other, of rising numbers

maps_from : {A B : Type 0} (h : A → B) (g : ℕ → A) (a n : ℕ) → map h (map g (range_with_len a (suc n))) ≡ map h (map g (range_with_len a n)) ++ h (g (a + n)) ∷ []
maps_from h g a zero = let e : a ≡ a + 0 = omega arith in ap (λ k. h (g k) ∷ []) e
maps_from h g a (suc n) =
    let e : a + 1 + n ≡ a + suc n = omega arith in
    ap (λ l. h (g a) ∷ l) (maps_from h g (a + 1) n) ∙ ap (λ k. map h (map g (range_with_len a (suc n))) ++ h (g k) ∷ []) e

-- a loop that puts behind what is seen as what they give of each number
pub listed_of : {A B C : Type 0} (seen : C → B) (h : A → B) (g : ℕ → A) (n : ℕ) (now new : List C) (piece : C) → map seen now ≡ map h (map g (range_with_len 0 n)) → new ≡ now ++ piece ∷ [] →
    seen piece ≡ h (g n) → map seen new ≡ map h (map g (range_with_len 0 (n + 1)))
listed_of seen h g n now new piece before grown is =
    let e : 0 + n ≡ n = omega arith in
    ap (map seen) grown ∙ map-append seen now (piece ∷ []) ∙ (λ i. before i ++ is i ∷ []) ∙ ap (λ k. map h (map g (range_with_len 0 n)) ++ h (g k) ∷ []) (sym e)
    ∙ sym (maps_from h g 0 n) ∙ ap (λ k. map h (map g (range_with_len 0 k))) (sym (add-one n))

-- ---- states

pub state-next : (x k : ℕ) → state_after x (k + 1) ≡ next_state (state_after x k)
unfolding state_after
state-next x k = ap (state_after x) (add-one k)

pub state-add : (x a b : ℕ) → state_after (state_after x a) b ≡ state_after x (a + b)
unfolding state_after
state-add x a zero = let e : a ≡ a + 0 = omega arith in ap (state_after x) e
state-add x a (suc b) = let e : suc (a + b) ≡ a + suc b = omega arith in ap next_state (state-add x a b) ∙ ap (state_after x) e

-- a loop that draws so many numbers at each turn
pub moved_by : (x k step : ℕ) (now new : ℕ) → now ≡ state_after x (step * k) → new ≡ state_after now step → new ≡ state_after x (step * (k + 1))
moved_by x k step now new before is =
    let e : step * k + step ≡ step * (k + 1) = omega arith in
    is ∙ ap (λ s. state_after s step) before ∙ state-add x (step * k) step ∙ ap (state_after x) e
