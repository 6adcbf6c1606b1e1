-- How the counts are laid out, and the queue of the handles that may be dead. No public clause cites
-- this module.
use Rattle.std.specs.Prelude.{◌≡◌, ℕ, ◌+◌, ◌<◌, ◌≤◌, Bool, true, false, cond, List, Option, Some, None, option_map, map, length, nat_eq, ◌&&◌}
use Rattle.std.specs.Option.{unwrap_or}
use Rattle.std.specs.BinaryHeap.{IsHeap}
use Rattle.std.specs.BTreeMap.{is_at}
use Rattle.std.specs.List.{count_by}
use Rattle.std.specs.Map.{lookup, values_of}
use Rattle.std.specs.Ordering.{nat_cmp}
use Rattle.std.specs.declared.cmp.Ordering.{Ordering}
use Rattle.std.specs.declared.cmp.Reverse.{Reverse}
use Rattle.ref_counts.specs.declared.held.Held.{Held}
use Rattle.ref_counts.specs.CountMaps.{CountMap}

-- what stands at each handle that was born: nothing once it was given as dead
abbrev pub Entries : Type 0
Entries = List (ℕ × Option Held)

-- the counts that stand at a handle
abbrev pub counts_of : Option Held → Option (ℕ × ℕ)
counts_of held = option_map (λ s. (s.public, s.named)) held

-- the map that the entries stand for
abbrev pub counted : Entries → CountMap
counted entries = map (λ e. (e.0, counts_of e.1)) entries

-- what stands at a handle; none also where it was not born
abbrev pub held_at : Entries → ℕ → Option Held
held_at entries h = unwrap_or (lookup (is_at (nat_cmp h)) entries) None

-- what stands at a handle at first
abbrev pub newborn : Held
newborn = record { public = 1; named = 0; queued = false }

-- it has no counts
abbrev pub is_dead : Held → Bool
is_dead s = nat_eq s.public 0 && nat_eq s.named 0

-- it must come into the queue
abbrev pub needs_place : Held → Bool
needs_place s = cond s.queued false (is_dead s)

-- whether what stands at a handle is without counts; and what stands there once it left the queue
abbrev pub found_dead : Option Held → Bool
found_dead None = false
found_dead (Some s) = is_dead s

abbrev pub unless_dead : Option Held → Option Held
unless_dead None = None
unless_dead (Some s) = cond (is_dead s) None (Some (record s { queued = false }))

-- the order of a queue whose first is the least
abbrev pub least_first : Reverse ℕ → Reverse ℕ → Ordering
least_first a b = nat_cmp b.0 a.0

-- how often a handle stands in the queue
abbrev pub places : ℕ → List (Reverse ℕ) → ℕ
places h queue = count_by (λ r. nat_eq h r.0) queue

-- whether what stands at a handle says that it is in the queue
abbrev pub queued_of : Option Held → Bool
queued_of None = false
queued_of (Some s) = s.queued

-- a handle that may yet come into the queue
abbrev pub is_outside : Option Held → Bool
is_outside None = false
is_outside (Some s) = cond s.queued false true

-- the dead stand in the queue, and it has room for those that are not in it
pub record Queues (entries : Entries) (queue : List (Reverse ℕ)) (room : ℕ) : Type 0 where
  pub order : IsHeap least_first queue
  pub dead_queued : (h : ℕ) (s : Held) → held_at entries h ≡ Some s → is_dead s ≡ true → s.queued ≡ true
  pub queued : (h : ℕ) (s : Held) → held_at entries h ≡ Some s → s.queued ≡ true → 0 < places h queue
  pub fits : length queue + count_by is_outside (values_of entries) ≤ room
