-- What contracts see of a store, and what always holds of its parts.
use Rattle.std.specs.Prelude.{◌≡◌, ℕ, ◌+◌, ◌<◌, ◌≤◌, ◌^◌, ◌&&◌, ◌⊎◌, nat_lt, Bool, false, true, List, Some, None, IfSome, IsSome}
use Rattle.std.specs.BTreeMap.{is_at}
use Rattle.std.specs.List.{sum_by}
use Rattle.std.specs.Map.{keys_of, remove_entry}
use Rattle.std.specs.Ordering.{nat_cmp}
use Rattle.std.specs.Option.{is_some, option_map_or, unwrap_or}
use Rattle.dev_types.specs.declared.refusals.Refused.{Refused}
use Rattle.dev_types.specs.declared.refusals.Refused.TheVariants.{NoMemory, NotMapped}
use Rattle.handle_table.specs.HandleMaps.{HandleMap, RiseWithin}
use Rattle.ref_counts.specs.CountMaps.{CountMap, counts_at, entry_at, named_at, public_at}
use Rattle.array_objects.specs.Stores.{Arrays, array_at}
use Rattle.array_objects.specs.declared.arrays.Array.{Array}
use Rattle.seq_model.specs.Life.{has, loan_count, names_of}
use Rattle.dev_types.specs.Counting.{times}
use Rattle.seq_model.specs.State.{Object, State}
use Rattle.object_store.specs.Parts.{Part, at, holds_at, joined, keyed}

-- the tickets of the flights that were stopped and have not left, and for how many there is room
pub record Stops : Type 0 where
  pub tickets : List ℕ
  pub room : ℕ

-- The objects of a store, how many public references each has and how many flights hold it, whether one more object can be made without
-- memory, and for how many stopped flights there is room
pub record Stored : Type 0 where
  pub state : State
  pub public : List (ℕ × ℕ)
  pub holds : List (ℕ × ℕ)
  pub ready : Bool
  pub places : ℕ

abbrev pub number_at : List (ℕ × ℕ) → ℕ → ℕ
number_at numbers h = unwrap_or (at h numbers) 0

-- what the parts of a store stand for
abbrev pub stored : HandleMap Part → Arrays → CountMap → Stops → Stored
stored slots arrays counts stopped = record {
  state = record { objects = joined arrays slots.entries; stopped = stopped.tickets; next = slots.next };
  public = keyed (λ h part. public_at counts h) slots.entries;
  holds = keyed (λ h part. part.holds) slots.entries;
  ready = nat_lt 0 slots.spare && is_some (counts_at counts slots.next);
  places = stopped.room;
}

-- how often the entries and elements of all objects name h
abbrev pub names_in : List (ℕ × Object) → ℕ → ℕ
names_in objects h = sum_by (λ entry. times h (names_of entry.1)) objects

-- how many loans of h are out
abbrev pub loans_at : List (ℕ × Object) → ℕ → ℕ
loans_at objects h = option_map_or loan_count (at h objects) 0

-- The counts are those of these objects. The next handle may be born already, with one public reference
pub record AreCounted (objects : List (ℕ × Object)) (holds : ℕ → ℕ) (next : ℕ) (counts : CountMap) : Type 0 where
  pub named : (h : ℕ) → named_at counts h ≡ names_in objects h + loans_at objects h + holds h
  pub there : (h : ℕ) → IsSome (at h objects) → IsSome (counts_at counts h)
  pub only : (h : ℕ) → at h objects ≡ None → IsSome (counts_at counts h) → (h ≡ next) × (public_at counts h ≡ 1)
  pub free : named_at counts next ≡ 0
  pub fresh : (h : ℕ) → next ≤ h → counts_at counts h ≡ None → entry_at counts h ≡ None

-- an array has at most 2^28 elements
abbrev pub IsShort : Array → Type 0
IsShort a = a.block.count ≤ 2 ^ 28

-- what always holds of the parts of a store: no handle is named more often than a bound says, but for the flights that hold it, which are
-- few
pub record AreParts (slots : HandleMap Part) (arrays : Arrays) (counts : CountMap) (bound : ℕ) : Type 0 where
  pub rising : RiseWithin 1 slots.next slots.entries
  pub none_beyond : (h : ℕ) → slots.next ≤ h → array_at arrays h ≡ None
  pub counted : AreCounted (joined arrays slots.entries) (holds_at slots.entries) slots.next counts
  pub short : (h : ℕ) → IfSome (array_at arrays h) IsShort
  pub small : bound ≤ 2 ^ 62
  pub few : (h : ℕ) → holds_at slots.entries h ≤ 2 ^ 40
  pub bounded : (h : ℕ) → named_at counts h ≤ bound + holds_at slots.entries h

-- the store without the object at a handle
abbrev pub without : ℕ → Stored → Stored
without h s = record {
  state = record s.state { objects = remove_entry (is_at (nat_cmp h)) s.state.objects };
  public = remove_entry (is_at (nat_cmp h)) s.public;
  holds = remove_entry (is_at (nat_cmp h)) s.holds;
  ready = s.ready;
  places = s.places;
}

-- an object that is there, and nothing holds it
pub record IsUnheld (s : Stored) (h : ℕ) : Type 0 where
  pub there : IsSome (at h s.state.objects)
  pub public : number_at s.public h ≡ 0
  pub held : names_in s.state.objects h + loans_at s.state.objects h + number_at s.holds h ≡ 0

-- what is named is there, and each object is held
pub record IsSettled (s : Stored) : Type 0 where
  pub closed : (h : ℕ) (o : Object) → at h s.state.objects ≡ Some o → (k : ℕ) → has k (names_of o) ≡ true → IsSome (at k s.state.objects)
  pub held : (h : ℕ) (o : Object) → at h s.state.objects ≡ Some o → 0 < number_at s.public h + (names_in s.state.objects h + loan_count o + number_at s.holds h)

-- what is known of a store at any time: the handles of its objects rise, each object has a count of public references and of the flights
-- that hold it, which are few, and what an object names is there
pub record CountsItsObjects (s : Stored) : Type 0 where
  pub rising : RiseWithin 1 s.state.next s.state.objects
  pub public : keys_of s.public ≡ keys_of s.state.objects
  pub holds : keys_of s.holds ≡ keys_of s.state.objects
  pub closed : (h : ℕ) → 0 < names_in s.state.objects h → IsSome (at h s.state.objects)
  pub few : (h : ℕ) → number_at s.holds h ≤ 2 ^ 40

-- why an unmap was refused: there was no memory, or the loan was not out
abbrev pub IsUnmapRefusal : Bool → Refused → Type 0
IsUnmapRefusal out refused = (refused ≡ NoMemory) ⊎ ((refused ≡ NotMapped) × (out ≡ false))
