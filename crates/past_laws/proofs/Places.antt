-- Lists of numbers in turn, as the places of a history are.
use Rattle.std.proofs.Common.{ℕ, zero, suc, ◌+◌, ◌≡◌, ◌<◌, ◌≤◌, ◌∙◌, Bool, true, false, List, [], ◌∷◌, ◌++◌, Option, Some, None, refl, ap, arith}
use Rattle.std.specs.Prelude.{cond, count_by, fold, ◌||◌}
use Rattle.std.specs.List.{filter, last_or, list_any, range_with_len}

-- one number more
pub range_more : (a n : ℕ) → range_with_len a (suc n) ≡ range_with_len a n ++ (a + n) ∷ []
range_more a zero = let same : a ≡ a + 0 = omega arith in ap (λ k. k ∷ []) same
range_more a (suc n) =
    let same : a + 1 + n ≡ a + suc n = omega arith in
    ap (λ rest. a ∷ rest) (range_more (a + 1) n ∙ ap (λ k. range_with_len (a + 1) n ++ k ∷ []) same)

-- tests that agree on all numbers of the list
pub any_alike : (f g : ℕ → Bool) (a n m : ℕ) → a + n ≤ m → ((q : ℕ) → q < m → f q ≡ g q) → list_any f (range_with_len a n) ≡ list_any g (range_with_len a n)
any_alike f g a zero m less same = refl
any_alike f g a (suc n) m less same =
    ap (λ b. b || list_any f (range_with_len (a + 1) n)) (same a (omega (arith, less))) ∙
    ap (λ b. g a || b) (any_alike f g (a + 1) n m (omega (arith, less)) same)

pub filter_alike : (f g : ℕ → Bool) (a n m : ℕ) → a + n ≤ m → ((q : ℕ) → q < m → f q ≡ g q) → filter f (range_with_len a n) ≡ filter g (range_with_len a n)
filter_alike f g a zero m less same = refl
filter_alike f g a (suc n) m less same =
    ap (λ b. cond b (a ∷ filter f (range_with_len (a + 1) n)) (filter f (range_with_len (a + 1) n))) (same a (omega (arith, less))) ∙
    ap (λ rest. cond (g a) (a ∷ rest) rest) (filter_alike f g (a + 1) n m (omega (arith, less)) same)

pub count_alike : (f g : ℕ → Bool) (a n m : ℕ) → a + n ≤ m → ((q : ℕ) → q < m → f q ≡ g q) → count_by f (range_with_len a n) ≡ count_by g (range_with_len a n)
count_alike f g a n m less same = from 0 a n less
  where
    from : (sum a n : ℕ) → a + n ≤ m → fold (λ k q. k + cond (f q) 1 0) sum (range_with_len a n) ≡ fold (λ k q. k + cond (g q) 1 0) sum (range_with_len a n)
    from sum a zero less = refl
    from sum a (suc n) less =
        ap (λ b. fold (λ k q. k + cond (f q) 1 0) (sum + cond b 1 0) (range_with_len (a + 1) n)) (same a (omega (arith, less))) ∙
        from (sum + cond (g a) 1 0) (a + 1) n (omega (arith, less))

-- a test that passes at none of the numbers
pub any_none : (f : ℕ → Bool) (a n m : ℕ) → a + n ≤ m → ((q : ℕ) → q < m → f q ≡ false) → list_any f (range_with_len a n) ≡ false
any_none f a zero m less none = refl
any_none f a (suc n) m less none = ap (λ b. b || list_any f (range_with_len (a + 1) n)) (none a (omega (arith, less))) ∙ any_none f (a + 1) n m (omega (arith, less)) none

-- the last of a list with one more item
pub last_more : {X : Type 0} (o : Option X) (xs : List X) (x : X) → last_or o (xs ++ x ∷ []) ≡ Some x
last_more o [] x = refl
last_more o (y ∷ ys) x = last_more (Some y) ys x

-- the last number that passes a test is one of the list
pub last_within : (f : ℕ → Bool) (a n m p : ℕ) → a + n ≤ m → last_or None (filter f (range_with_len a n)) ≡ Some p → p < m
last_within f a n m p less = from None a n (λ q is. absurd cc) less
  where
    from : (o : Option ℕ) (a n : ℕ) → ((q : ℕ) → o ≡ Some q → q < m) → a + n ≤ m → last_or o (filter f (range_with_len a n)) ≡ Some p → p < m
    from o a zero here less found = here p found
    from o a (suc n) here less found =
        by (f a) found (from o (a + 1) n here (omega (arith, less)))
        (from (Some a) (a + 1) n (λ q is. let same : a ≡ q = cc in omega (arith, less, same)) (omega (arith, less)))
      where
        by : (b : Bool) → last_or o (cond b (a ∷ filter f (range_with_len (a + 1) n)) (filter f (range_with_len (a + 1) n))) ≡ Some p →
            (last_or o (filter f (range_with_len (a + 1) n)) ≡ Some p → p < m) → (last_or (Some a) (filter f (range_with_len (a + 1) n)) ≡ Some p → p < m) → p < m
        by true found out taken = taken found
        by false found out taken = out found
