-- The objects of a device, with room for the ends of all.
use Rattle.std.specs.Prelude.{◌≡◌, ℕ, ◌+◌, ◌≤◌, Bool, true, false, List, length}
use Rattle.std.specs.List.{filter_map}
use Rattle.dev_types.specs.declared.handles.Origin.{Origin}
use Rattle.dev_types.specs.declared.handles.Origin.TheVariants.{Captured, Managed, Shared}
use Rattle.object_store.specs.Ends.{Ended, Ends}
use Rattle.object_store.specs.Kept.{Stored}
use Rattle.seq_model.specs.State.{State}
use Rattle.seq_model.specs.Told.{end_of_object}
use Rattle.seq_model.specs.declared.calls.Call.{Call}
use Rattle.seq_model.specs.declared.calls.Call.TheVariants.{NewObject, NewArray, UnmapParameterArray}
use Rattle.seq_model.specs.declared.calls.Reply.{Reply}
use Rattle.seq_model.specs.declared.calls.Reply.TheVariants as reply

-- the objects, the handles of those that died with the last burial, and the arrays among these of
-- whose end nothing was told yet
pub record Objects : Type 0 where
  pub stored : Stored
  pub departed : List ℕ
  pub dead : List Ended

-- the call makes an object
abbrev pub is_birth : Call → Reply → Bool
is_birth (NewObject _ _) (reply.Made _) = true
is_birth (NewArray _ _ _ _ _) (reply.Made _) = true
is_birth (UnmapParameterArray _ _ _ _) (reply.Made _) = true
is_birth call r = false

-- the application gave the memory of an array, so that it is to be told of its end
abbrev pub gives_memory : Origin → Bool
gives_memory (Captured user) = true
gives_memory (Shared user) = true
gives_memory Managed = false

-- the call makes such an array
abbrev pub takes_memory : Call → Reply → Bool
takes_memory (NewArray _ _ _ origin _) (reply.Made _) = gives_memory origin
takes_memory call r = false

-- of how many ends the client is to be told
abbrev pub tellable : State → ℕ
tellable s = length (filter_map end_of_object s.objects)

abbrev pub one_if : Bool → ℕ
one_if true = 1
one_if false = 0

-- There are so many objects, of the ends of so many of which the client is to be told. There is
-- room for the ends and the handles of all, also of one for which there is room, beside the ends that
-- are not told yet
pub record HasPlaces (s : Stored) (dead : Ends) (count told places : ℕ) : Type 0 where
  pub number : length s.state.objects ≡ count
  pub tellable : tellable s.state ≡ told
  pub ends : count + one_if s.ready + length dead.list ≤ dead.room
  pub handles : count + one_if s.ready ≤ places

-- the objects in another state, and with room for so many stopped flights
abbrev pub with_state : Objects → State → Objects
with_state o s = record o { stored = record o.stored { state = s } }

abbrev pub with_places : Objects → ℕ → Objects
with_places o places = record o { stored = record o.stored { places = places } }
