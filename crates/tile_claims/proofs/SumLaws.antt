-- Sums over the numbers below a bound.
use Rattle.std.proofs.Common.{◌≡◌, ◌≢◌, ◌⊎◌, ℕ, zero, suc, ◌+◌, ◌<◌, ◌≤◌, List, [], ◌∷◌, length, refl, sym, arith, ⊎_elim, lt_of_not-le}
use Rattle.std.specs.List.{sum_by}
use Rattle.std.proofs.lemmas.List.Sums.{sum_by-cons}
use Rattle.dev_types.specs.Counting.{times}
use Rattle.dev_types.proofs.SumLaws.{times-same, times-other, times-cons, times-more}

-- the sum of f over the numbers below c
pub upto : (ℕ → ℕ) → ℕ → ℕ
upto f zero = 0
upto f (suc c) = upto f c + f c

pub upto-same : (f g : ℕ → ℕ) (c : ℕ) → ((t : ℕ) → t < c → f t ≡ g t) → upto f c ≡ upto g c
unfolding upto
upto-same f g zero same = refl
upto-same f g (suc c) same = omega (arith, upto-same f g c (λ t below. same t (omega arith)), same c (omega arith))

pub upto-add : (f g : ℕ → ℕ) (c : ℕ) → upto (λ t. f t + g t) c ≡ upto f c + upto g c
unfolding upto
upto-add f g zero = refl
upto-add f g (suc c) = omega (arith, upto-add f g c)

upto-none : (c : ℕ) → upto (λ t. 0) c ≡ 0
unfolding upto
upto-none zero = refl
upto-none (suc c) = omega (arith, upto-none c)

pub upto-ones : (c : ℕ) → upto (λ t. 1) c ≡ c
unfolding upto
upto-ones zero = refl
upto-ones (suc c) = omega (arith, upto-ones c)

upto-miss : (u c : ℕ) → c ≤ u → upto (λ t. times t (u ∷ [])) c ≡ 0
unfolding upto
upto-miss u zero above = refl
upto-miss u (suc c) above = omega (arith, upto-miss u c (omega arith), times-other c u [] (λ e. omega (arith, e)))

upto-hit : (u c : ℕ) → u < c → upto (λ t. times t (u ∷ [])) c ≡ 1
unfolding upto
upto-hit u zero below = absurd (omega arith)
upto-hit u (suc c) below = ⊎_elim
    (λ (e : (u ≡ c) × (times c (u ∷ []) ≡ 1 + times c [])). omega (arith, upto-miss u c (omega (arith, e.0)), e.1))
    (λ (e : (u ≢ c) × (times c (u ∷ []) ≡ times c [])). let apart : u ≢ c = e.0 in omega (arith, upto-hit u c (omega arith), e.1))
    (times-cons c u [])

-- a list of numbers below c is as long as they stand in it often
pub upto-length : (xs : List ℕ) (c : ℕ) → ((t : ℕ) → c ≤ t → times t xs ≡ 0) → upto (λ t. times t xs) c ≡ length xs
upto-length [] c above = upto-none c
upto-length (x ∷ xs) c above =
    let below : x < c = lt_of_not-le (λ le. omega (arith, above x le, times-same x xs)) in
    let rest = upto-length xs c (λ t le. omega (arith, above t le, times-more t x xs)) in
    let parts = upto-same (λ t. times t (x ∷ xs)) (λ t. times t (x ∷ []) + times t xs) c (λ t _. times-more t x xs) in
    omega (arith, parts, upto-add (λ t. times t (x ∷ [])) (λ t. times t xs) c, upto-hit x c below, rest)

-- two sums one in the other
pub upto-sum : {A : Type 0} (f : ℕ → A → ℕ) (xs : List A) (c : ℕ) → sum_by (λ v. upto (λ t. f t v) c) xs ≡ upto (λ t. sum_by (f t) xs) c
upto-sum f [] c = sym (upto-none c)
upto-sum f (x ∷ xs) c =
    let parts = upto-same (λ t. sum_by (f t) (x ∷ xs)) (λ t. f t x + sum_by (f t) xs) c (λ t _. sum_by-cons (f t) x xs) in
    omega (arith, sum_by-cons (λ v. upto (λ t. f t v) c) x xs, upto-sum f xs c, parts, upto-add (λ t. f t x) (λ t. sum_by (f t) xs) c)
