-- The rule of a table of claims, which holds between any two steps, and what the steps tell.
use Rattle.std.specs.Prelude.{◌≡◌, ◌==◌, ℕ, ◌+◌, ◌^◌, ◌<◌, ◌≤◌, List, [], ◌∷◌, Option, Some, None, true, false, length, min, sum_by}
use mathlib.Core.Option.{some}
use lib.ListN.{get_elem?}
use Rattle.atomic_table.specs.Table.{State, Me, Step, rest}
use Rattle.tile_claims.specs.declared.key.Key.{Key}
use Rattle.tile_claims.specs.declared.view.View.{View}
use Rattle.tile_claims.specs.Parts.{tiles_of, IsSized, IsFilled}
use Rattle.tile_claims.specs.Pixels.{Pixels}
use Rattle.dev_types.specs.Counting.{times}
use Rattle.tile_claims.specs.Views.{open_tiles, claimed, one_if, taken, claiming, too_late, giving, looking_at_claims, looking_at_gives, stopping, collecting, IsAlone}

-- a table of claims: its words are the counts of claimed and of given tiles, and slot i has tile i's pixels
abbrev pub ClaimTable : Type 0
ClaimTable = State (Option Pixels) View

-- What one view may say where the counts stand so. The first seat is seat 0, and `stop`, `gathered` and `splits` are what its view says
pub record Knows (key : Key) (claims gives : ℕ) (stop : Option ℕ) (gathered : List ℕ) (splits seat : ℕ) (v : View) : Type 0 where
  pub keyed : v.key ≡ key
  pub first : v.first ≡ (seat == 0)
  pub leads : v.first ≡ true → (v.stop ≡ stop) × (v.collected ≡ gathered) × (v.splits ≡ splits)
  pub later : v.first ≡ false → (v.stop ≡ None) × (v.collected ≡ [])
  pub claims_seen : v.claims.last ≤ claims
  pub gives_seen : v.gives.last ≤ gives

-- how often a tile is open, or given, among all views
abbrev pub times_open : ℕ → List View → ℕ
times_open tile views = sum_by (λ v. times tile (open_tiles v)) views

abbrev pub times_given : ℕ → List View → ℕ
times_given tile views = sum_by (λ v. times tile v.given) views

-- the tile's slot is at home with its pixels, which are filled where it is given
abbrev pub IsHome : Key → ℕ → ClaimTable → Type 0
IsHome key tile s = (p : Pixels) × (get_elem? s.homes tile ≡ some (some (Some p))) × IsSized key tile p × (0 < times_given tile s.views → IsFilled key tile p)

-- The rule. `stop`, `gathered` and `splits` are what the first seat's view says, and `taken stop claims (tiles_of key)` is how many tiles are claimed
pub record Kept (key : Key) (s : ClaimTable) : Type 0 where
  pub claims : ℕ
  pub gives : ℕ
  pub stop : Option ℕ
  pub gathered : List ℕ
  pub splits : ℕ
  pub words : s.words ≡ claims ∷ gives ∷ []
  pub each : (seat : ℕ) (v : View) → get_elem? s.views seat ≡ some v → Knows key claims gives stop gathered splits seat v
  -- the open and the given tiles are the numbers below that of the claimed ones, each once
  pub once : (tile : ℕ) → tile < taken stop claims (tiles_of key) → times_open tile s.views + times_given tile s.views ≡ 1
  pub no_more : (tile : ℕ) → taken stop claims (tiles_of key) ≤ tile → times_open tile s.views + times_given tile s.views ≡ 0
  pub given : sum_by (λ v. length v.given) s.views ≡ gives
  -- the slots of all tiles are at home, but for those that are open or collected, and only given tiles are collected
  pub homes : (tile : ℕ) → tile < tiles_of key → times_open tile s.views ≡ 0 → times tile gathered ≡ 0 → IsHome key tile s
  pub collected : (tile : ℕ) → 0 < times tile gathered → 0 < times_given tile s.views
  -- a view claims too late once at most, and the views are the first one and those that it has split off: so the count of claims does not wrap
  pub late : claims ≤ tiles_of key + sum_by (λ v. one_if v.late) s.views
  pub seats : length s.views ≡ splits + 1
  pub few : splits ≤ 2 ^ 20
  -- once the claims are stopped, the count of claims has passed all tiles
  pub stopped : (m : ℕ) → stop ≡ Some m → (m ≤ tiles_of key) × (tiles_of key ≤ claims)

-- the seat has seen all tiles given, or as many as were claimed when it stopped the claims
abbrev pub HasSeenAll : View → Type 0
HasSeenAll v = v.gives.last ≡ tiles_of v.key

abbrev pub HasSeenStopped : View → Type 0
HasSeenStopped v = v.stop ≡ Some v.gives.last

-- the tile is given, and filled, in its slot where the first seat has not collected it
pub record IsShown (key : Key) (tile : ℕ) (s : ClaimTable) : Type 0 where
  pub given : times_given tile s.views ≡ 1
  pub filled : (first : View) → get_elem? s.views 0 ≡ some first → times tile first.collected ≡ 0
      → (p : Pixels) × (get_elem? s.homes tile ≡ some (some (Some p))) × IsFilled key tile p

-- no tile is open at any seat
abbrev pub NoneIsOpen : List View → Type 0
NoneIsOpen views = (seat : ℕ) (v : View) → get_elem? views seat ≡ some v → v.opened ≡ None

-- of two seats no tile is claimed by both, and none twice by one
abbrev pub AreClaimedOnce : List View → Type 0
AreClaimedOnce views = (tile : ℕ) → times_open tile views + times_given tile views ≤ 1

-- a seat: its view, and the slots that it holds
abbrev pub Sat : Type 0
Sat = Me (Option Pixels) View

-- Where fewer tiles than all were claimed, and the claims were not stopped, the seat holds the slot of the one of this number; else it has claimed too late.
-- A seat that is alone finds as many claimed as it has claimed itself
pub record TakesNext (step : Step (Option Pixels)) (before : Sat) (found : ℕ) (after : Sat) : Type 0 where
  pub taken : found < tiles_of before.0.key → (p : Pixels) × (after ≡ (claiming before.0 found, (found, Some p) ∷ before.1)) × IsSized before.0.key found p
  pub going : found < tiles_of before.0.key → before.0.stop ≡ None
  pub late : tiles_of before.0.key ≤ found → after ≡ (too_late before.0, before.1)
  pub alone : IsAlone before.0 → before.0.stop ≡ None → min found (tiles_of before.0.key) ≡ claimed before.0

-- the open tile is given
abbrev pub Counts : Step (Option Pixels) → Sat → ℕ → Sat → Type 0
Counts step before found after = (tile : ℕ) → before.0.opened ≡ Some tile → after ≡ (giving before.0 tile, rest before.1)

-- a look at the count of claims: not below the last one
pub record LooksAtClaims (step : Step (Option Pixels)) (before : Sat) (found : ℕ) (after : Sat) : Type 0 where
  pub seen : after ≡ (looking_at_claims before.0 found, before.1)
  pub rises : before.0.claims.last ≤ found
  pub alone : IsAlone before.0 → before.0.stop ≡ None → min found (tiles_of before.0.key) ≡ claimed before.0

-- a look at the count of given tiles: not below the last one, nor above how many there are, or were claimed
pub record LooksAtGives (step : Step (Option Pixels)) (before : Sat) (found : ℕ) (after : Sat) : Type 0 where
  pub seen : after ≡ (looking_at_gives before.0 found, before.1)
  pub rises : before.0.gives.last ≤ found
  pub within : found ≤ tiles_of before.0.key
  pub stopped : (m : ℕ) → before.0.stop ≡ Some m → found ≤ m
  pub alone : IsAlone before.0 → found ≡ length before.0.given

-- the claims are stopped: no fewer were claimed than were seen before
pub record Stops (step : Step (Option Pixels)) (before : Sat) (found : ℕ) (after : Sat) : Type 0 where
  pub seen : after ≡ (stopping before.0 (min found (tiles_of before.0.key)), before.1)
  pub rises : (min before.0.claims.last (tiles_of before.0.key) ≤ min found (tiles_of before.0.key)) × (before.0.gives.last ≤ min found (tiles_of before.0.key))
  pub alone : IsAlone before.0 → min found (tiles_of before.0.key) ≡ claimed before.0

-- the seat, at which no tile is open, holds the slot of the tile, which is filled
pub record Collects (tile : ℕ) (step : Step (Option Pixels)) (before : Sat) (found : ℕ) (after : Sat) : Type 0 where
  pub idle : before.0.opened ≡ None
  pub taken : (p : Pixels) × (after ≡ (collecting before.0 tile, (tile, Some p) ∷ before.1)) × IsFilled before.0.key tile p
