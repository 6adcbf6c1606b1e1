-- The two counts of handles, as contracts see them.
use Rattle.std.specs.Prelude.{◌≡◌, ◌≢◌, ℕ, ◌<◌, List, Option, Some, None, option_map}
use Rattle.std.specs.Option.{unwrap_or}
use Rattle.std.specs.BTreeMap.{is_at}
use Rattle.std.specs.Map.{lookup, set_value}
use Rattle.std.specs.Ordering.{nat_cmp}

-- the handles that were born, by rising handle: each with its public and its named count, or with
-- nothing once it was given as dead
abbrev pub CountMap : Type 0
CountMap = List (ℕ × Option (ℕ × ℕ))

-- what the map has at a handle; none where it was not born
abbrev pub entry_at : CountMap → ℕ → Option (Option (ℕ × ℕ))
entry_at m h = lookup (is_at (nat_cmp h)) m

-- the public and the named count of a handle; none where it was not born, or was given as dead
abbrev pub counts_at : CountMap → ℕ → Option (ℕ × ℕ)
counts_at m h = unwrap_or (entry_at m h) None

-- one of them alone; 0 where there is none
abbrev pub public_at : CountMap → ℕ → ℕ
public_at m h = unwrap_or (option_map (λ c. c.0) (counts_at m h)) 0

abbrev pub named_at : CountMap → ℕ → ℕ
named_at m h = unwrap_or (option_map (λ c. c.1) (counts_at m h)) 0

-- the map with other counts, or with nothing, at a handle that was born
abbrev pub with_counts : CountMap → ℕ → Option (ℕ × ℕ) → CountMap
with_counts m h counts = set_value (is_at (nat_cmp h)) m counts

-- nothing holds the handle, and it was not given yet
abbrev pub IsDead : CountMap → ℕ → Type 0
IsDead m h = counts_at m h ≡ Some (0, 0)

-- it is the least such handle
pub record IsLeastDead (m : CountMap) (h : ℕ) : Type 0 where
  pub dead : IsDead m h
  pub least : (other : ℕ) → other < h → counts_at m other ≢ Some (0, 0)

-- the new map has these counts at the handle, and each other handle keeps what it had
pub record ChangesAt (old new : CountMap) (h : ℕ) (counts : Option (ℕ × ℕ)) : Type 0 where
  pub changed : counts_at new h ≡ counts
  pub others : (other : ℕ) → other ≢ h → entry_at new other ≡ entry_at old other
