-- What bounds a walk: each object stands higher than what it names.
use Rattle.std.specs.Prelude.{ℕ, ◌<◌, List, ◌++◌, All, MatchOption, map}
use Rattle.kind_tables.specs.Ranks.{rank_of}
use Rattle.kind_tables.specs.SceneObjects.{SceneObject, SceneObjects, object_at}
use Rattle.kind_tables.specs.Walks.{named_elements, named_parameters}

-- what an object names, by its elements and by its parameters
abbrev pub names_of : SceneObject → List ℕ
names_of o = map (λ named. named.1) (named_elements o) ++ named_parameters o

-- the object with this handle, if there is one, stands lower than n
abbrev pub StandsBelow : SceneObjects → ℕ → ℕ → Type 0
StandsBelow objects n h = MatchOption (object_at objects h) (Unit {0}) (λ o. rank_of o.kind < n)

-- every object stands higher than what it names
abbrev pub AreRanked : SceneObjects → Type 0
AreRanked objects = All (λ entry. All (StandsBelow objects (rank_of entry.1.kind)) (names_of entry.1)) objects
