-- The flights of a history by rising ticket, and what is left of it when each has left.
use Rattle.std.proofs.Common.{◌≡◌, ◌∙◌, ◌==◌, ◌||◌, ◌+◌, ◌<◌, ◌≤◌, inl, inr, ℕ, zero, suc, Bool, true, false, cond, List, [], ◌∷◌, ◌++◌, fold, length, map, arith, refl, sym, ap}
use Rattle.std.proofs.lemmas.Bool.{cases_eq, eq-eqb}
use Rattle.std.proofs.lemmas.List.Folds.{fold-map}
use Rattle.std.specs.List.{AllByRecursion, filter, range_with_len}
use Rattle.frame_future.specs.Future.{Rising}
use Rattle.seq_model.proofs.Afters.{seen_from, seen_is_history}
use Rattle.seq_model.specs.Endings.{ended, open_flights}
use Rattle.seq_model.specs.Histories.{History}
use Rattle.seq_model.specs.Life.{has}
use Rattle.seq_model.specs.State.{flights}
use Rattle.seq_model.specs.Steps.{Past, after, step}
use Rattle.seq_model.specs.declared.calls.Entry.TheVariants.{Closed, Left}

apart : (m n : ℕ) → m < n → (m == n) ≡ false
apart m n less = grind (arith, less)

apart_too : (m n : ℕ) → m < n → (n == m) ≡ false
apart_too m n less = grind (arith, less)

-- a number below all of a list is not in it
not_there : (first : ℕ) (ts : List ℕ) → AllByRecursion (λ t. first < t) ts → has first ts ≡ false
not_there first [] above = refl
not_there first (t ∷ ts) above = ap (λ b. b || has first ts) (apart_too first t above.0) ∙ not_there first ts above.1

higher : (first t : ℕ) (ts : List ℕ) → first ≤ t → AllByRecursion (λ u. t < u) ts → AllByRecursion (λ u. first < u) ts
higher first t [] low above = tt
higher first t (u ∷ ts) low above = (let less = above.0 in omega (arith, low, less), higher first t ts low above.1)

raised : (t : ℕ) (ts : List ℕ) → AllByRecursion (λ u. t < u) ts → AllByRecursion (λ u. t + 1 ≤ u) ts
raised t [] above = tt
raised t (u ∷ ts) above = (let less = above.0 in omega (arith, less), raised t ts above.1)

shifted : (first n : ℕ) (ts : List ℕ) → AllByRecursion (λ t. t < first + suc n) ts → AllByRecursion (λ t. t < (first + 1) + n) ts
shifted first n [] below = tt
shifted first n (t ∷ ts) below = (let less = below.0 in omega (arith, less), shifted first n ts below.1)

-- the numbers that are in a rising list, from one on, are the list
pub picked : (p : ℕ → Bool) (n first : ℕ) (ts : List ℕ) → Rising ts → AllByRecursion (λ t. first ≤ t) ts → AllByRecursion (λ t. t < first + n) ts
    → ((u : ℕ) → first ≤ u → p u ≡ has u ts) → filter p (range_with_len first n) ≡ ts
picked p zero first [] rising from below agrees = refl
picked p zero first (t ∷ ts) rising from below agrees =
    let low = from.0 in let less = below.0 in absurd (omega (arith, low, less))
picked p (suc n) first [] rising from below agrees =
    ap (λ b. cond b (first ∷ filter p (range_with_len (first + 1) n)) (filter p (range_with_len (first + 1) n))) (agrees first (omega arith))
    ∙ picked p n (first + 1) [] tt tt tt (λ u low. agrees u (omega (arith, low)))
picked p (suc n) first (t ∷ ts) rising from below agrees =
    elim (cases_eq first t) [
      | inl same ↦
          let passes : p first ≡ true = agrees first (omega arith) ∙ ap (λ b. b || has first ts) (eq-eqb t first (sym same)) in
          let above : AllByRecursion (λ u. first < u) ts = higher first t ts from.0 rising.0 in
          let later : (u : ℕ) → first + 1 ≤ u → p u ≡ has u ts =
          λ u low. agrees u (omega (arith, low)) ∙ ap (λ b. b || has u ts) (apart t u (omega (arith, low, same))) in
          ap (λ b. cond b (first ∷ filter p (range_with_len (first + 1) n)) (filter p (range_with_len (first + 1) n))) passes
          ∙ (λ i. same i ∷ picked p n (first + 1) ts rising.1 (raised first ts above) (shifted first n ts below.1) later i)
      | inr other ↦
          let low = from.0 in
          let less : first < t = omega (arith, low, other) in
          let fails : p first ≡ false = agrees first (omega arith) ∙ not_there first (t ∷ ts) (less, higher first t ts low rising.0) in
          ap (λ b. cond b (first ∷ filter p (range_with_len (first + 1) n)) (filter p (range_with_len (first + 1) n))) fails
          ∙ picked p n (first + 1) (t ∷ ts) rising (raised first (t ∷ ts) (less, higher first t ts low rising.0)) (shifted first n (t ∷ ts) below) (λ u low. agrees u (omega (arith, low)))
    ]

one_more : (n : ℕ) (ts : List ℕ) → AllByRecursion (λ t. t ≤ n) ts → AllByRecursion (λ t. t < 1 + n) ts
one_more n [] within = tt
one_more n (t ∷ ts) within = (let less = within.0 in omega (arith, less), one_more n ts within.1)

-- so the flights of a history are those of a list of tickets that rise, in its order
pub flights_in_order : (history : History) (ts : List ℕ) → Rising ts → AllByRecursion (λ t. 1 ≤ t) ts → AllByRecursion (λ t. t ≤ length history) ts
    → ((t : ℕ) → has t (flights (after history).state) ≡ has t ts) → open_flights (after history) ≡ ts
flights_in_order history ts rising first within agrees =
    ap (λ (h : History). filter (λ t. has t (flights (after history).state)) (range_with_len 1 (length h))) (seen_is_history history)
    ∙ picked (λ t. has t (flights (after history).state)) (length history) 1 ts rising first (one_more (length history) ts within) (λ u low. agrees u)

-- each leaves, and the device is closed
pub ended_is : (history : History) (ts : List ℕ) → open_flights (after history) ≡ ts → (ended (after history)).seen ≡ (history ++ map Left ts) ++ Closed ∷ []
unfolding step
ended_is history ts flights_are =
    ap (λ us. (fold (λ p t. step p (Left t)) (after history) us).seen ++ Closed ∷ []) flights_are
    ∙ ap (λ (p : Past). p.seen ++ Closed ∷ []) (sym (fold-map step Left (after history) ts))
    ∙ ap (λ (h : History). h ++ Closed ∷ []) (seen_from (after history) (map Left ts) ∙ ap (λ (h : History). h ++ map Left ts) (seen_is_history history))
