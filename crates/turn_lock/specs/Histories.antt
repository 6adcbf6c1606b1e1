-- Histories: lists of entries, of which some were called, each by a caller with a number. Places in a history are counted from 1.
use Rattle.std.specs.Prelude.{◌≡◌, ◌==◌, ◌⊎◌, ℕ, ◌+◌, ◌<◌, ◌≤◌, List, [], ◌∷◌, ◌++◌, Option, Some, None, if◌then◌else◌, length, drop, count_by, nat_lt}
use Rattle.std.specs.List.{filter_map}
use Rattle.std.specs.Coded.{Unit-prop, le_prop}
use Rattle.dev_types.specs.Counting.{times}

-- the history `after` begins with `before`
abbrev pub Extends : {E : Type 0} → List E → List E → Type 0
Extends {E} before after = (added : List E) × (after ≡ before ++ added)

-- what `after` has beyond `before`, which it begins with
abbrev pub added : {E : Type 0} → List E → List E → List E
added before after = drop (length before) after

-- the caller numbers of the called entries among these, in their order
abbrev pub callers : {E : Type 0} → (E → Option ℕ) → List E → List ℕ
callers by entries = filter_map by entries

-- the place, where there is a caller, before further places
abbrev pub place_if : Option ℕ → ℕ → List ℕ → List ℕ
place_if None place places = places
place_if (Some caller) place places = place ∷ places

-- the places of the called entries among these, of which the first entry stands at `first`
abbrev pub places_from : {E : Type 0} → (E → Option ℕ) → ℕ → List E → List ℕ
places_from by first [] = []
places_from by first (e ∷ es) = place_if (by e) first (places_from by (first + 1) es)

-- the places of the called entries of a history
abbrev pub places : {E : Type 0} → (E → Option ℕ) → List E → List ℕ
places by history = places_from by 1 history

-- the places of the called entries that `after` has beyond `before`
abbrev pub new_places : {E : Type 0} → (E → Option ℕ) → List E → List E → List ℕ
new_places by before after = places_from by (length before + 1) (added before after)

-- the places rise, each above `low` and none above `high`
abbrev pub AreRising : ℕ → ℕ → List ℕ → Type 0
AreRising low high [] = Unit {0}
AreRising low high (p ∷ ps) = (low < p) × (p ≤ high) × AreRising p high ps

-- whether places rise has one proof at most
pub AreRising-prop : (low high : ℕ) (xs : List ℕ) → IsProp (AreRising low high xs)
AreRising-prop low high [] = Unit-prop
AreRising-prop low high (p ∷ ps) = hlevel (le_prop, AreRising-prop p high ps)

-- no place stands in both lists
abbrev pub AreApart : List ℕ → List ℕ → Type 0
AreApart xs ys = (place : ℕ) → (times place xs ≡ 0) ⊎ (times place ys ≡ 0)

-- the place among rising ones, where it keeps them rising
abbrev pub with_place : ℕ → List ℕ → List ℕ
with_place p [] = p ∷ []
with_place p (q ∷ qs) = if nat_lt p q then p ∷ q ∷ qs else q ∷ with_place p qs

-- the places of two rising lists, in one
abbrev pub merged : List ℕ → List ℕ → List ℕ
merged [] qs = qs
merged (p ∷ ps) qs = with_place p (merged ps qs)

-- the longer of two histories, and the first where they are of one length
abbrev pub longer : {E : Type 0} → List E → List E → List E
longer xs ys = if nat_lt (length xs) (length ys) then ys else xs

-- the other of the two
abbrev pub shorter : {E : Type 0} → List E → List E → List E
shorter xs ys = if nat_lt (length xs) (length ys) then xs else ys

-- one list has the entries of the other and more, of which this caller called one at most and no one else called any
abbrev pub AddsOneCall : {E : Type 0} → (E → Option ℕ) → ℕ → List E → List E → Type 0
AddsOneCall {E} by caller before after =
    Extends before after × ((callers by (added before after) ≡ []) ⊎ (callers by (added before after) ≡ caller ∷ []))
