-- Laws of places: how often one stands in a list, lists that rise, and the called places of a history.
use Rattle.std.proofs.Common.{◌≡◌, ◌≢◌, ◌==◌, ◌⊎◌, ℕ, suc, ◌+◌, ◌<◌, ◌≤◌, List, [], ◌∷◌, ◌++◌, Option, Some, None, Bool, true, false, length, cond, nat_lt, refl, sym, ap, ◌∙◌, subst, inl, inr, arith, eq-eqb, ne_eqb, append_assoc, append-nil, length-append, ⊎_elim}
use mathlib.Core.Logic.{dite}
use native.Mathlib.Decide.{ℕ_discrete}
use Rattle.std.proofs.lemmas.Bool.Decides.{nat_tests}
use Rattle.std.proofs.lemmas.List.Sums.{sum_by-cons, sum_by-append}
use Rattle.std.proofs.Math.Seq.{drop-append_seam}
use Rattle.std.specs.List.{cons_option}
use Rattle.std.proofs.lemmas.List.Elements.{filter_map-append}
use Rattle.dev_types.specs.Counting.{times}
use Rattle.turn_lock.specs.Histories.{Extends, place_if, places_from, places, new_places, AreRising, AreApart, with_place, merged, longer, shorter, callers, AddsOneCall}

pub times-same : (p : ℕ) (xs : List ℕ) → times p (p ∷ xs) ≡ 1 + times p xs
times-same p xs = sum_by-cons (λ q. cond (q == p) 1 0) p xs ∙ ap (λ b. cond b 1 0 + times p xs) (eq-eqb p p refl)

pub times-other : (p q : ℕ) (xs : List ℕ) → q ≢ p → times p (q ∷ xs) ≡ times p xs
times-other p q xs ne = sum_by-cons (λ r. cond (r == p) 1 0) q xs ∙ ap (λ b. cond b 1 0 + times p xs) (ne_eqb q p ne) ∙ omega arith

pub times-append : (p : ℕ) (xs ys : List ℕ) → times p (xs ++ ys) ≡ times p xs + times p ys
times-append p xs ys = sum_by-append (λ q. cond (q == p) 1 0) xs ys

-- an entry in front adds one, or nothing
pub times-cons : (p q : ℕ) (xs : List ℕ) → ((q ≡ p) × (times p (q ∷ xs) ≡ 1 + times p xs)) ⊎ ((q ≢ p) × (times p (q ∷ xs) ≡ times p xs))
times-cons p q xs = dite (ℕ_discrete q p)
    (λ e. inl (e, subst (λ r. times p (r ∷ xs) ≡ 1 + times p xs) (sym e) (times-same p xs)))
    (λ ne. inr (ne, times-other p q xs ne))

pub times-with_place : (p q : ℕ) (xs : List ℕ) → times p (with_place q xs) ≡ times p (q ∷ xs)
times-with_place p q [] = refl
times-with_place p q (x ∷ xs) = by_test (times-with_place p q xs) (nat_lt q x)
  where
    by_test : times p (with_place q xs) ≡ times p (q ∷ xs) → (b : Bool) → times p (cond b (q ∷ x ∷ xs) (x ∷ with_place q xs)) ≡ times p (q ∷ x ∷ xs)
    by_test rest true = refl
    by_test rest false =
        let count : ℕ → ℕ = λ r. cond (r == p) 1 0 in
        omega (arith, sum_by-cons count x (with_place q xs), sum_by-cons count q (x ∷ xs), sum_by-cons count x xs, sum_by-cons count q xs)

pub times-merged : (p : ℕ) (xs ys : List ℕ) → times p (merged xs ys) ≡ times p xs + times p ys
times-merged p [] ys = omega arith
times-merged p (x ∷ xs) ys =
    let rest = times-merged p xs ys in
    let count : ℕ → ℕ = λ r. cond (r == p) 1 0 in
    omega (arith, times-with_place p x (merged xs ys), sum_by-cons count x (merged xs ys), sum_by-cons count x xs)

-- rising places stand above `low`
pub times-low : (p low high : ℕ) (xs : List ℕ) → AreRising low high xs → p ≤ low → times p xs ≡ 0
times-low p low high [] rising le = refl
times-low p low high (x ∷ xs) rising le =
    let apart : x ≢ p = (λ e. omega (arith, e, rising.0)) in
    times-other p x xs apart ∙ times-low p x high xs rising.2 (omega (arith, rising.0))

-- and stand once
pub times-rising : (p low high : ℕ) (xs : List ℕ) → AreRising low high xs → times p xs ≤ 1
times-rising p low high [] rising = omega arith
times-rising p low high (x ∷ xs) rising = ⊎_elim
    (λ (e : (x ≡ p) × (times p (x ∷ xs) ≡ 1 + times p xs)). omega (arith, e.1, times-low p x high xs rising.2 (omega (arith, e.0))))
    (λ (e : (x ≢ p) × (times p (x ∷ xs) ≡ times p xs)). omega (arith, e.1, times-rising p x high xs rising.2))
    (times-cons p x xs)

pub rising-wider : (low low' high high' : ℕ) (xs : List ℕ) → low' ≤ low → high ≤ high' → AreRising low high xs → AreRising low' high' xs
rising-wider low low' high high' [] a b rising = tt
rising-wider low low' high high' (x ∷ xs) a b rising = (omega (arith, rising.0), omega (arith, rising.1), rising-wider x x high high' xs (omega arith) b rising.2)

pub rising-append : (low mid high : ℕ) (xs ys : List ℕ) → low ≤ mid → mid ≤ high → AreRising low mid xs → AreRising mid high ys → AreRising low high (xs ++ ys)
rising-append low mid high [] ys a b front back = rising-wider mid low high high ys a (omega arith) back
rising-append low mid high (x ∷ xs) ys a b front back = (front.0, omega (arith, front.1), rising-append x mid high xs ys front.1 b front.2 back)

pub rising-with_place : (low high p : ℕ) (xs : List ℕ) → low < p → p ≤ high → times p xs ≡ 0 → AreRising low high xs → AreRising low high (with_place p xs)
rising-with_place low high p [] above within apart rising = (above, within, tt)
rising-with_place low high p (x ∷ xs) above within apart rising = by_test (rising-with_place x high p xs) (nat_lt p x) refl
  where
    by_test : (x < p → p ≤ high → times p xs ≡ 0 → AreRising x high xs → AreRising x high (with_place p xs)) → (b : Bool) → nat_lt p x ≡ b → AreRising low high (cond b (p ∷ x ∷ xs) (x ∷ with_place p xs))
    by_test later true e = let below : p < x = grind (arith, nat_tests) in (above, within, (below, rising.1, rising.2))
    by_test later false e =
        let least : x ≤ p = grind (arith, nat_tests) in
        ⊎_elim
        (λ (same : (x ≡ p) × (times p (x ∷ xs) ≡ 1 + times p xs)). absurd (omega (arith, same.1)))
        (λ (other : (x ≢ p) × (times p (x ∷ xs) ≡ times p xs)).
        let next : x < p = omega (arith, other.0) in
        let none : times p xs ≡ 0 = omega (arith, other.1) in
        (rising.0, rising.1, later next within none rising.2))
        (times-cons p x xs)

-- two rising lists that have no place in common, in one
pub rising-merged : (low high : ℕ) (xs ys : List ℕ) → AreRising low high xs → AreRising low high ys → ((p : ℕ) → times p xs + times p ys ≤ 1) → AreRising low high (merged xs ys)
rising-merged low high [] ys one other apart = other
rising-merged low high (x ∷ xs) ys one other apart =
    let here : times x (merged xs ys) ≡ 0 = omega (arith, apart x, times-same x xs, times-merged x xs ys) in
    rising-with_place low high x (merged xs ys) one.0 one.1 here
    (rising-merged low high xs ys (rising-wider x low high high xs (omega (arith, one.0)) (omega arith) one.2) other
    (λ p. ⊎_elim
    (λ (e : (x ≡ p) × (times p (x ∷ xs) ≡ 1 + times p xs)). omega (arith, e.1, apart p))
    (λ (e : (x ≢ p) × (times p (x ∷ xs) ≡ times p xs)). omega (arith, e.1, apart p))
    (times-cons p x xs)))

-- lists in which each place stands once at most, all in all
pub apart-once : (xs ys : List ℕ) → ((place : ℕ) → times place xs + times place ys ≤ 1) → AreApart xs ys
apart-once xs ys once place = dite (ℕ_discrete (times place xs) 0) (λ here. inl here) (λ here. inr (omega (arith, here, once place)))

-- lists whose places rise together have none in common
pub apart-merged : (low high : ℕ) (xs ys : List ℕ) → AreRising low high (merged xs ys) → AreApart xs ys
apart-merged low high xs ys rising = apart-once xs ys (λ place. omega (arith, times-rising place low high (merged xs ys) rising, times-merged place xs ys))

-- rising lists with the same places are one list
pub rising-same : (low high high' : ℕ) (xs ys : List ℕ) → AreRising low high xs → AreRising low high' ys → ((p : ℕ) → times p xs ≡ times p ys) → xs ≡ ys
rising-same low high high' [] [] one other same = refl
rising-same low high high' [] (y ∷ ys) one other same = absurd (omega (arith, same y, times-same y ys))
rising-same low high high' (x ∷ xs) [] one other same = absurd (omega (arith, same x, times-same x xs))
rising-same low high high' (x ∷ xs) (y ∷ ys) one other same =
    let not_below : x < y → ⊥ = (λ below. omega (arith, same x, times-same x xs, times-low x x high' (y ∷ ys) (below, other.1, other.2) (omega arith))) in
    let not_above : y < x → ⊥ = (λ below. omega (arith, same y, times-same y ys, times-low y y high (x ∷ xs) (below, one.1, one.2) (omega arith))) in
    let head : x ≡ y = omega (arith, not_below, not_above) in
    let rest : (p : ℕ) → times p xs ≡ times p ys = λ p. rest_same p head in
    λ i. head i ∷ rising-same x high high' xs ys one.2 (subst (λ k. AreRising k high' ys) (sym head) other.2) rest i
  where
    rest_same : (p : ℕ) → x ≡ y → times p xs ≡ times p ys
    rest_same p head = subst (λ k. times p (x ∷ xs) ≡ times p (k ∷ ys) → times p xs ≡ times p ys) head
        (λ e. ⊎_elim
        (λ (here : (x ≡ p) × (times p (x ∷ xs) ≡ 1 + times p xs)). subst (λ q. times q (x ∷ xs) ≡ times q (x ∷ ys) → times q xs ≡ times q ys) here.0 (λ e'. omega (arith, e', times-same x xs, times-same x ys)) e)
        (λ (there : (x ≢ p) × (times p (x ∷ xs) ≡ times p xs)). sym there.1 ∙ e ∙ times-other p x ys there.0)
        (times-cons p x xs))
        (same p)

module _ {E : Type 0} (by : E → Option ℕ) where
  -- places of entries that stand after `first` are not above the last of these
  pub rising-places_from : (low : ℕ) (es : List E) → AreRising low (low + length es) (places_from by (low + 1) es)
  rising-places_from low [] = tt
  rising-places_from low (e ∷ es) = by_caller (rising-places_from (low + 1) es) (by e)
    where
      by_caller : AreRising (low + 1) (low + 1 + length es) (places_from by (low + 1 + 1) es) → (c : Option ℕ) → AreRising low (low + suc (length es)) (place_if c (low + 1) (places_from by (low + 1 + 1) es))
      by_caller rest (Some caller) = (omega arith, omega arith, rising-wider (low + 1) (low + 1) (low + 1 + length es) (low + suc (length es)) (places_from by (low + 1 + 1) es) (omega arith) (omega arith) rest)
      by_caller rest None = rising-wider (low + 1) low (low + 1 + length es) (low + suc (length es)) (places_from by (low + 1 + 1) es) (omega arith) (omega arith) rest

  pub rising-places : (history : List E) → AreRising 0 (length history) (places by history)
  rising-places history = subst (λ n. AreRising 0 n (places by history)) (omega arith) (rising-places_from 0 history)

  pub places_from-append : (first : ℕ) (xs ys : List E) → places_from by first (xs ++ ys) ≡ places_from by first xs ++ places_from by (first + length xs) ys
  places_from-append first [] ys = ap (λ n. places_from by n ys) (omega arith)
  places_from-append first (x ∷ xs) ys = by_caller (places_from-append (first + 1) xs ys) (by x)
    where
      by_caller : places_from by (first + 1) (xs ++ ys) ≡ places_from by (first + 1) xs ++ places_from by (first + 1 + length xs) ys → (c : Option ℕ)
          → place_if c first (places_from by (first + 1) (xs ++ ys)) ≡ place_if c first (places_from by (first + 1) xs) ++ places_from by (first + suc (length xs)) ys
      by_caller rest (Some caller) = let e : first + 1 + length xs ≡ first + suc (length xs) = omega arith in ap (λ l. first ∷ l) (rest ∙ ap (λ n. places_from by (first + 1) xs ++ places_from by n ys) e)
      by_caller rest None = let e : first + 1 + length xs ≡ first + suc (length xs) = omega arith in rest ∙ ap (λ n. places_from by (first + 1) xs ++ places_from by n ys) e

  -- the called places of a longer history
  pub places-extended : (before after : List E) → Extends before after → places by after ≡ places by before ++ new_places by before after
  places-extended before after (gained, e) = subst (λ h. places by h ≡ places by before ++ new_places by before h) (sym e)
      (places_from-append 1 before gained ∙ ap (λ l. places by before ++ l) (ap (λ n. places_from by n gained) (omega arith) ∙ ap (λ l. places_from by (length before + 1) l) (sym (drop-append_seam before gained))))

  pub rising-new_places : (before after : List E) → Extends before after → AreRising (length before) (length after) (new_places by before after)
  rising-new_places before after (gained, e) = subst (λ h. AreRising (length before) (length h) (new_places by before h)) (sym e)
      (subst (λ l. AreRising (length before) (length (before ++ gained)) (places_from by (length before + 1) l)) (sym (drop-append_seam before gained))
      (subst (λ n. AreRising (length before) n (places_from by (length before + 1) gained)) (sym (length-append before gained)) (rising-places_from (length before) gained)))

  -- entries that no one called have no places
  pub places_from-notes : (first : ℕ) (es : List E) → callers by es ≡ [] → places_from by first es ≡ []
  places_from-notes first [] empty = refl
  places_from-notes first (e ∷ es) empty = by_caller (by e) empty (places_from-notes (first + 1) es)
    where
      by_caller : (c : Option ℕ) → cons_option c (callers by es) ≡ [] → (callers by es ≡ [] → places_from by (first + 1) es ≡ []) → place_if c first (places_from by (first + 1) es) ≡ []
      by_caller (Some caller) empty rest = absurd (cc)
      by_caller None empty rest = rest empty

  -- notes alone were added
  pub new_places-notes : (before notes : List E) → callers by notes ≡ [] → new_places by before (before ++ notes) ≡ []
  new_places-notes before notes empty = ap (places_from by (length before + 1)) (drop-append_seam before notes) ∙ places_from-notes (length before + 1) notes empty

  -- between notes, one called entry was added
  pub new_places-call : (before early late : List E) (e : E) (caller : ℕ) → by e ≡ Some caller → callers by early ≡ [] → callers by late ≡ []
      → new_places by before (before ++ (early ++ e ∷ late)) ≡ (length before + 1 + length early) ∷ []
  new_places-call before early late e caller called none_early none_late =
      ap (places_from by (length before + 1)) (drop-append_seam before (early ++ e ∷ late)) ∙ places_from-append (length before + 1) early (e ∷ late)
      ∙ ap (λ l. l ++ places_from by (length before + 1 + length early) (e ∷ late)) (places_from-notes (length before + 1) early none_early)
      ∙ ap (λ c. place_if c (length before + 1 + length early) (places_from by (length before + 1 + length early + 1) late)) called
      ∙ ap (λ l. (length before + 1 + length early) ∷ l) (places_from-notes (length before + 1 + length early + 1) late none_late)

  pub adds-notes : (caller : ℕ) (before notes : List E) → callers by notes ≡ [] → AddsOneCall by caller before (before ++ notes)
  adds-notes caller before notes empty = ((notes, refl), inl (ap (callers by) (drop-append_seam before notes) ∙ empty))

  pub adds-call : (before early late : List E) (e : E) (caller : ℕ) → by e ≡ Some caller → callers by early ≡ [] → callers by late ≡ []
      → AddsOneCall by caller before (before ++ (early ++ e ∷ late))
  adds-call before early late e caller called none_early none_late = (
    (early ++ e ∷ late, refl),
    inr (
        ap (callers by) (drop-append_seam before (early ++ e ∷ late)) ∙ filter_map-append by early (e ∷ late)
        ∙ ap (λ l. l ++ callers by (e ∷ late)) none_early ∙ ap (λ c. cons_option c (callers by late)) called ∙ ap (λ l. caller ∷ l) none_late),
  )

module _ {E : Type 0} where
  pub extends-same : (xs : List E) → Extends xs xs
  extends-same xs = ([], sym (append-nil xs))

  pub extends-later : (xs ys zs : List E) → Extends xs ys → Extends ys zs → Extends xs zs
  extends-later xs ys zs (a, e) (b, f) = (a ++ b, f ∙ ap (λ l. l ++ b) e ∙ append_assoc xs a b)

  pub extends-length : (xs ys : List E) → Extends xs ys → length xs ≤ length ys
  extends-length xs ys (a, e) = omega (arith, ap length e, length-append xs a)

  -- the longer of two histories is one of them, and no shorter than either
  pub longer-extends : (xs ys log : List E) → Extends xs log → Extends ys log → Extends (longer xs ys) log
  longer-extends xs ys log one other = by_test (nat_lt (length xs) (length ys))
    where
      by_test : (b : Bool) → Extends (cond b ys xs) log
      by_test true = other
      by_test false = one

  -- of two beginnings of one history the shorter begins the longer
  pub begins_longer : (xs ys a b : List E) → xs ++ a ≡ ys ++ b → length xs ≤ length ys → Extends xs ys
  begins_longer [] ys a b e le = (ys, refl)
  begins_longer (x ∷ xs) [] a b e le = absurd (omega (arith, le))
  begins_longer (x ∷ xs) (y ∷ ys) a b e le =
      let head : x ≡ y = cc in
      let tails : xs ++ a ≡ ys ++ b = cc in
      let rest = begins_longer xs ys a b tails (omega (arith, le)) in
      (rest.0, λ i. sym head i ∷ rest.1 i)

  pub shorter-longer : (xs ys log : List E) → Extends xs log → Extends ys log → Extends (shorter xs ys) (longer xs ys)
  shorter-longer xs ys log one other = by_test (nat_lt (length xs) (length ys)) refl
    where
      by_test : (b : Bool) → nat_lt (length xs) (length ys) ≡ b → Extends (cond b xs ys) (cond b ys xs)
      by_test true e = let below : length xs < length ys = grind (arith, nat_tests) in begins_longer xs ys one.0 other.0 (sym one.1 ∙ other.1) (omega arith)
      by_test false e = let least : length ys ≤ length xs = grind (arith, nat_tests) in begins_longer ys xs other.0 one.0 (sym other.1 ∙ one.1) (omega arith)

  -- both begin the longer where the shorter does
  pub both_begin : (xs ys : List E) → Extends (shorter xs ys) (longer xs ys) → Extends xs (longer xs ys) × Extends ys (longer xs ys)
  both_begin xs ys = by_test (nat_lt (length xs) (length ys))
    where
      by_test : (b : Bool) → Extends (cond b xs ys) (cond b ys xs) → Extends xs (cond b ys xs) × Extends ys (cond b ys xs)
      by_test true e = (e, extends-same ys)
      by_test false e = (extends-same xs, e)

  pub length-longer : (xs ys : List E) → (length xs ≤ length (longer xs ys)) × (length ys ≤ length (longer xs ys))
  length-longer xs ys = by_test (nat_lt (length xs) (length ys)) refl
    where
      by_test : (b : Bool) → nat_lt (length xs) (length ys) ≡ b → (length xs ≤ length (cond b ys xs)) × (length ys ≤ length (cond b ys xs))
      by_test true e = let below : length xs < length ys = grind (arith, nat_tests) in (omega arith, omega arith)
      by_test false e = let least : length ys ≤ length xs = grind (arith, nat_tests) in (omega arith, omega arith)
