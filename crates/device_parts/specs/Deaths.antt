-- Objects that died with one entry, and what is forgotten of them.
use Rattle.std.specs.Prelude.{ℕ, Bool, List, [], Option, None, fold, length, if◌then◌else◌}
use Rattle.std.specs.List.{filter_map}
use Rattle.seq_model.specs.Life.{has}
use Rattle.kept_worlds.specs.KeptMaps.{Kept}
use Rattle.kept_worlds.specs.LastKept.{all_but}
use Rattle.object_store.specs.Ends.{notice_of}
use Rattle.object_steps.specs.Objects.{Objects}
use Rattle.device_parts.specs.AllParts.{Inside}

-- nothing is kept of a world that is among those that died
abbrev pub unless_dead : {P : Type 0} → List ℕ → ℕ → Option (Kept P) → Option (Kept P)
unless_dead dead w kept = if has w dead then None else kept

-- all but those that died
abbrev pub all_but_those : List ℕ → (ℕ → Bool) → ℕ → Bool
all_but_those dead there = fold (λ left w. all_but w left) there dead

-- of how many ends of those that died the client is still to be told
abbrev pub untold : Objects → ℕ
untold o = length (filter_map notice_of o.dead)

-- the parts once the client was told of all ends
abbrev pub all_told : Inside → Inside
all_told i = record i { objects = record i.objects { dead = [] } }
