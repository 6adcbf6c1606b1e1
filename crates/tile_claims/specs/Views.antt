-- What a seat knows.
use Rattle.std.specs.Prelude.{◌≡◌, ◌==◌, ℕ, ◌+◌, List, [], ◌∷◌, Option, Some, None, Bool, true, false, map, min, ◌++◌, length, count_by, option_to_list}
use Rattle.tile_claims.specs.declared.key.Key.{Key}
use Rattle.tile_claims.specs.declared.view.Looks.{Looks}
use Rattle.tile_claims.specs.declared.view.View.{View}
use Rattle.tile_claims.specs.Pixels.{Pixels}

-- the open tile, if there is one
abbrev pub open_tiles : View → List ℕ
open_tiles v = option_to_list v.opened

-- how many tiles it has claimed
abbrev pub claimed : View → ℕ
claimed v = length (open_tiles v) + length v.given

-- one for a view that has claimed too late
abbrev pub one_if : Bool → ℕ
one_if true = 1
one_if false = 0

-- how many of n tiles are claimed, where the count of claims is `claims`: as many as were when they were stopped, or else all up to the count
abbrev pub taken : Option ℕ → ℕ → ℕ → ℕ
taken None claims n = min claims n
taken (Some stop) claims n = stop

abbrev pub no_looks : Looks
no_looks = record { count = 0; last = 0 }

-- one more look
abbrev pub looked : Looks → ℕ → Looks
looked looks read = record { count = looks.count + 1; last = read }

-- what a new seat knows, the first one or another
abbrev pub new_view : Bool → Key → View
new_view first key = record { key = key; first = first; splits = 0; opened = None; given = []; collected = []; late = false; claims = no_looks; gives = no_looks; stop = None }

-- it has claimed a tile; it has claimed too late; it has given the tile
abbrev pub claiming : View → ℕ → View
claiming v tile = record v { opened = Some tile }

abbrev pub too_late : View → View
too_late v = record v { late = true }

abbrev pub giving : View → ℕ → View
giving v tile = record v { opened = None; given = tile ∷ v.given }

-- it has looked at either count
abbrev pub looking_at_claims : View → ℕ → View
looking_at_claims v read = record v { claims = looked v.claims read }

abbrev pub looking_at_gives : View → ℕ → View
looking_at_gives v read = record v { gives = looked v.gives read }

-- it has stopped the claims
abbrev pub stopping : View → ℕ → View
stopping v stop = record v { stop = Some stop }

-- it has split off a seat; what that seat knows
abbrev pub splitting : View → View
splitting v = record v { splits = v.splits + 1 }

abbrev pub beside : View → View
beside v = new_view false v.key

-- it has collected a tile
abbrev pub collecting : View → ℕ → View
collecting v tile = record v { collected = tile ∷ v.collected }

-- the slots that it holds, all empty: that of its open tile first, then those that it has collected
abbrev pub hand : View → List (ℕ × Option Pixels)
hand v = map (λ tile. (tile, None)) (open_tiles v) ++ map (λ tile. (tile, None)) v.collected

-- it is the first seat, and the only one
abbrev pub IsAlone : View → Type 0
IsAlone v = (v.first ≡ true) × (v.splits ≡ 0)
