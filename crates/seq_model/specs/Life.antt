-- Which objects live: those that can be reached from public references, loans and flights (ANARI 1.0 Specification, object lifetime).
use Rattle.std.specs.Prelude.{ℕ, zero, suc, ◌+◌, ◌==◌, ◌||◌, nat_lt, Bool, List, [], ◌++◌, Option, count_by, length, map}
use Rattle.std.specs.List.{filter, list_any, sum_by}
use Rattle.std.specs.Option.{option_map, option_map_or, unwrap_or}
use Rattle.dev_types.specs.Counting.{times}
use Rattle.kind_tables.specs.SceneObjects.{objects_in, objects_of}
use Rattle.seq_model.specs.State.{ArrayState, Object, State, array_loan, flights}

-- whether a list has a number
abbrev pub has : ℕ → List ℕ → Bool
has h list = list_any (λ k. k == h) list

-- the objects that the elements of an array name
abbrev pub objects_of_elements : Option ArrayState → List ℕ
objects_of_elements array = unwrap_or (option_map (λ a. map (λ named. named.1) (objects_in a.block)) array) []

-- all that an object names, once for each staged entry, each committed entry and each element
abbrev pub names_of : Object → List ℕ
names_of o = objects_of o.staged ++ objects_of o.committed ++ objects_of_elements o.array

-- how many loans of an object are out: of an array, of a frame's channels, of arrays for its parameters
abbrev pub loan_count : Object → ℕ
loan_count o = option_map_or (λ _. 1) (array_loan o) 0 + length o.channels + length o.parameter_loans

-- an object that lives by itself: it is held by the application, lent, or was reached by a flight
unfoldable pub is_root : (ℕ → ℕ) → (ℕ → Bool) → ℕ × Object → Bool
is_root public is_reached entry = nat_lt 0 (public entry.0) || nat_lt 0 (loan_count entry.1) || is_reached entry.0

-- one of these objects names h
abbrev pub is_named_by : List (ℕ × Object) → ℕ → Bool
is_named_by holders h = list_any (λ entry. has h (names_of entry.1)) holders

-- the roots, and what the holders name
abbrev pub roots_and_named : (ℕ × Object → Bool) → List (ℕ × Object) → List (ℕ × Object) → List (ℕ × Object)
roots_and_named is_root objects holders = filter (λ entry. is_root entry || is_named_by holders entry.0) objects

-- the objects that a chain of at most n names leads to from a root
unfoldable pub grown : (ℕ × Object → Bool) → List (ℕ × Object) → ℕ → List (ℕ × Object)
grown is_root objects zero = filter is_root objects
grown is_root objects (suc n) = roots_and_named is_root objects (grown is_root objects n)

-- the objects that live; since what is named stands lower, no chain has more than the ten ranks
unfoldable pub live : (ℕ × Object → Bool) → List (ℕ × Object) → List (ℕ × Object)
live is_root objects = grown is_root objects 10

-- how many places beside public references hold h in a state: entries and elements, its loans, and the flights that reached it
unfoldable pub named : (ℕ → ℕ → Bool) → State → ℕ → ℕ
named is_reached_by s h =
    sum_by (λ entry. times h (names_of entry.1)) s.objects
    + sum_by (λ entry. loan_count entry.1) (filter (λ entry. entry.0 == h) s.objects)
    + count_by (λ t. is_reached_by t h) (flights s)
