-- The arrays that die with an entry, and what the application is told of them.
use Rattle.std.specs.Prelude.{◌≡◌, ℕ, ◌+◌, ◌≤◌, List, Option, length}
use Rattle.std.specs.List.{filter_map}
use Rattle.std.specs.List.Sorted.{IsPermutation}
use Rattle.std.specs.Map.{keys_of}
use Rattle.std.specs.Option.{option_map}
use Rattle.array_objects.specs.declared.arrays.Block.{Block}
use Rattle.dev_types.specs.declared.handles.Origin.{Origin}
use Rattle.dev_types.specs.declared.notices.Notice.{Notice}
use Rattle.seq_model.specs.State.{Object}
use Rattle.seq_model.specs.Told.{end_of_array, gone}
use Rattle.object_store.specs.Gathers.{IsLeft}
use Rattle.object_store.specs.Kept.{Stored}
use Rattle.object_store.specs.Parts.{memory_in, memory_of}

-- an array that died: its handle, its bytes as they were last, and where their memory comes from
abbrev pub Ended : Type 0
Ended = ℕ × (List ℕ × Origin)

-- the arrays that died and were not told yet, in the order in which they are told; and for how many there is room
pub record Ends : Type 0 where
  pub list : List Ended
  pub room : ℕ

-- an object as it dies: nothing is left of it where it is no array
abbrev pub ended_of : ℕ × Object → Option Ended
ended_of entry = option_map (λ memory. (entry.0, memory)) (memory_in entry.1.array)

-- the arrays among some objects, as they die with them
abbrev pub ended : List (ℕ × Object) → List Ended
ended objects = filter_map ended_of objects

-- what is left of an object as it dies, by its handle and its block
abbrev pub death_of : ℕ × Option Block → Option Ended
death_of death = option_map (λ memory. (death.0, memory)) (memory_of death.1)

-- what is told of an array that died
abbrev pub notice_of : Ended → Option Notice
notice_of e = end_of_array e.0 e.1.0 e.1.1

-- some objects of a store died, and each array among them is among the dead
pub record AreDying (old now : Stored) (before dead : Ends) : Type 0 where
  pub left : IsLeft old now
  pub moved : IsPermutation (ended (gone old.state now.state)) dead.list
  pub fits : length (ended now.state.objects) + length dead.list ≤ dead.room
  pub room : dead.room ≡ before.room

-- the handle of each object of a store that died is among some, and there is room for those of all
pub record AreLeaving (old now : Stored) (handles : List ℕ) (room : ℕ) : Type 0 where
  pub moved : IsPermutation (keys_of (gone old.state now.state)) handles
  pub fits : length now.state.objects + length handles ≤ room
