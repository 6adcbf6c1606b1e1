-- What a seat at the turn's table knows.
use Rattle.std.specs.Prelude.{length, ◌≡◌, ℕ, ◌+◌, ◌-◌, ◌*◌, ◌^◌, List, [], ◌∷◌, ◌++◌, Option, Some, None, true, false, max}
use Rattle.turn_lock.specs.declared.view.Share.{Share}
use Rattle.turn_lock.specs.declared.view.View.{View}
use Rattle.turn_lock.specs.Histories.{AreRising, AreRising-prop, new_places, merged, longer, shorter}

-- the fraction parts / 2 ^ halvings
abbrev pub share_of : ℕ → ℕ → Share
share_of parts halvings = record { parts = parts; halvings = halvings }

-- all of a turn
abbrev pub whole : Share
whole = share_of 1 0

-- half of a share
abbrev pub half : Share → Share
half s = share_of s.parts (s.halvings + 1)

-- how many parts a share is of a turn that is cut into 2 ^ scale
abbrev pub parts_at : ℕ → Share → ℕ
parts_at scale s = s.parts * 2 ^ (scale - s.halvings)

-- two shares in one
abbrev pub both_shares : Share → Share → Share
both_shares s t = let scale : ℕ = max s.halvings t.halvings in share_of (parts_at scale s + parts_at scale t) scale

-- the share is all of the turn
abbrev pub IsWhole : Share → Type 0
IsWhole s = s.parts ≡ 2 ^ s.halvings

module _ {E F : Type 0} where
  -- what the first pass knows: nothing yet but the data that no call changes
  abbrev pub first_view : F → View E F
  first_view fixed = record { seen = []; older = []; mine = []; share = whole; fixed = Some fixed; holding = false; entered = [] }

  -- what is left of a pass that another has taken in
  abbrev pub spent_view : View E F
  spent_view = record { seen = []; older = []; mine = []; share = share_of 0 0; fixed = None; holding = false; entered = [] }

  -- the one view of a badge, or of none the spent one
  abbrev pub view_in : List (View E F) → View E F
  view_in [] = spent_view
  view_in (v ∷ vs) = v

  -- its places rise within what it has seen
  abbrev pub PlacesRise : View E F → Type 0
  PlacesRise v = AreRising 0 (length v.seen) v.mine

  -- that has one proof at most
  pub PlacesRise-prop : (v : View E F) → IsProp (PlacesRise v)
  PlacesRise-prop v = AreRising-prop 0 (length v.seen) v.mine

  -- it holds the state, whose history is `history`
  abbrev pub entering : View E F → List E → View E F
  entering v history = record { seen = v.seen; older = v.older; mine = v.mine; share = v.share; fixed = v.fixed; holding = true; entered = history }

  -- it has let the state go, whose history is `history`
  abbrev pub leaving : (E → Option ℕ) → View E F → List E → View E F
  leaving by v history = record { seen = history; older = []; mine = v.mine ++ new_places by v.entered history; share = v.share; fixed = v.fixed; holding = false; entered = [] }

  -- it has given half of its share away
  abbrev pub halved : View E F → View E F
  halved v = record { seen = v.seen; older = v.older; mine = v.mine; share = half v.share; fixed = v.fixed; holding = v.holding; entered = v.entered }

  -- the other half: as much was seen, and nothing called
  abbrev pub beside : View E F → View E F
  beside v = record { seen = v.seen; older = []; mine = []; share = half v.share; fixed = v.fixed; holding = false; entered = [] }

  -- it has taken in what the other knew
  abbrev pub joined : View E F → View E F → View E F
  joined v w = record { seen = longer v.seen w.seen; older = shorter v.seen w.seen; mine = merged v.mine w.mine; share = both_shares v.share w.share; fixed = v.fixed; holding = v.holding; entered = v.entered }
