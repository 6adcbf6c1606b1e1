-- The rule of the turn's table, which holds between any two steps, and what the steps tell.
use Rattle.std.specs.Prelude.{◌≡◌, ◌≢◌, ℕ, ◌^◌, ◌<◌, ◌≤◌, List, [], ◌∷◌, Option, Some, true, false, sum_by}
use mathlib.Core.Option.{some}
use mathlib.Core.Option as maybe
use lib.ListN.{get_elem?}
use Rattle.atomic_table.specs.Table.{State, Me, Step}
use Rattle.turn_lock.specs.declared.view.View.{View}
use Rattle.dev_types.specs.Counting.{times}
use Rattle.turn_lock.specs.Histories.{Extends, places, AreApart}
use Rattle.turn_lock.specs.Views.{PlacesRise, parts_at, entering, leaving}

-- what one view may say, where `log` is the history last let go, and `holder` is the seat that holds the state where the word is 1
pub record Knows {E F : Type 0} (given : F) (log : List E) (word holder scale seat : ℕ) (v : View E F) : Type 0 where
  pub seen : Extends v.seen log
  pub older : Extends v.older v.seen
  pub rises : PlacesRise v
  pub holds : v.holding ≡ true → (word ≡ 1) × (seat ≡ holder) × (v.entered ≡ log)
  pub spent : v.share.parts ≡ 0 → (v.mine ≡ []) × (v.holding ≡ false)
  pub fixed : 0 < v.share.parts → v.fixed ≡ Some given
  pub scaled : v.share.halvings ≤ scale

-- the state is in its slot, with this history and this fixed data
abbrev pub IsHome : {S E F : Type 0} → (S → List E) → (S → F) → F → List E → List (maybe.Option (Option S)) → Type 0
IsHome {S} history fixed given log homes = (x : S) × (get_elem? homes 0 ≡ some (some (Some x))) × (history x ≡ log) × (fixed x ≡ given)

-- a seat holds the state
abbrev pub IsHolding : {E F : Type 0} → List (View E F) → ℕ → Type 0
IsHolding {E} {F} views seat = (v : View E F) × (get_elem? views seat ≡ some v) × (v.holding ≡ true)

-- of two seats' views no place stands in both
abbrev pub AreAllApart : {E F : Type 0} → List (View E F) → Type 0
AreAllApart {E} {F} views =
    (one other : ℕ) (v w : View E F) → get_elem? views one ≡ some v → get_elem? views other ≡ some w → other ≢ one → AreApart v.mine w.mine

-- The rule. `log` is the history last let go, and `holder` the seat that holds the state where one does; all shares are whole parts of a turn that is cut into 2 ^ scale
pub record Kept {S E F : Type 0} (history : S → List E) (fixed : S → F) (by : E → Option ℕ) (given : F) (s : State (Option S) (View E F)) : Type 0 where
  pub log : List E
  pub word : ℕ
  pub holder : ℕ
  pub scale : ℕ
  pub words : s.words ≡ word ∷ []
  -- the word is 0 where the state is home, and else 1, and then one seat holds the state: `holder`, and by `each` no other
  pub home : word ≡ 0 → IsHome history fixed given log s.homes
  pub away : word ≢ 0 → (word ≡ 1) × IsHolding s.views holder
  pub each : (seat : ℕ) (v : View E F) → get_elem? s.views seat ≡ some v → Knows given log word holder scale seat v
  -- each called place of the history stands in one view's list, and no other place in any
  pub counted : (place : ℕ) → sum_by (λ (v : View E F). times place v.mine) s.views ≡ times place (places by log)
  -- the shares add up to the whole
  pub shared : sum_by (λ (v : View E F). parts_at scale v.share) s.views ≡ 2 ^ scale

-- a seat: its view, and the slots that it holds
abbrev pub Sat : Type 0 → Type 0 → Type 0 → Type 0
Sat S E F = Me (Option S) (View E F)

-- Where the word was 0 the seat holds the state, whose history begins with all that it had seen; else nothing changed
abbrev pub Grabs : {S E F : Type 0} → (S → List E) → (S → F) → Step (Option S) → Sat S E F → ℕ → Sat S E F → Type 0
Grabs {S} history fixed step before found after =
    (found ≡ 0 → (x : S) × (after ≡ (entering before.0 (history x), (0, Some x) ∷ before.1)) × Extends before.0.seen (history x) × (before.0.fixed ≡ Some (fixed x)))
    × (found ≢ 0 → after ≡ before)

-- nothing changed, and the places of the seat's entries rise
abbrev pub Looks : {S E F : Type 0} → Step (Option S) → Sat S E F → ℕ → Sat S E F → Type 0
Looks step before found after = (after ≡ before) × PlacesRise before.0 × Extends before.0.older before.0.seen

-- the state in the seat's hand is home, and the seat has seen its history
abbrev pub LetsGo : {S E F : Type 0} → (S → List E) → (E → Option ℕ) → Step (Option S) → Sat S E F → ℕ → Sat S E F → Type 0
LetsGo {S} history by step before found after =
    (x : S) → before.1 ≡ (0, Some x) ∷ [] → (after ≡ (leaving by before.0 (history x), [])) × PlacesRise (leaving by before.0 (history x))
