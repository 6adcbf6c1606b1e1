-- How many flights hold each object.
use Rattle.std.specs.Prelude.{ℕ, ◌+◌, ◌-◌, List, fold}
use Rattle.std.specs.BTreeMap.{is_at}
use Rattle.std.specs.Map.{set_value}
use Rattle.std.specs.Ordering.{nat_cmp}
use Rattle.object_store.specs.Kept.{number_at}
use Rattle.object_steps.specs.Objects.{Objects}

-- for each object, how many flights hold it
abbrev pub Holds : Type 0
Holds = List (ℕ × ℕ)

-- one flight more, or one less, holds an object
abbrev pub hold : Holds → ℕ → Holds
hold holds h = set_value (is_at (nat_cmp h)) holds (number_at holds h + 1)

abbrev pub unhold : Holds → ℕ → Holds
unhold holds h = set_value (is_at (nat_cmp h)) holds (number_at holds h - 1)

-- one flight more, or one less, holds each of some objects
abbrev pub held_too : List ℕ → Holds → Holds
held_too reach holds = fold hold holds reach

abbrev pub held_less : List ℕ → Holds → Holds
held_less reach holds = fold unhold holds reach

-- the objects, of which flights hold each so often
abbrev pub with_holds : Objects → Holds → Objects
with_holds o holds = record o { stored = record o.stored { holds = holds } }
