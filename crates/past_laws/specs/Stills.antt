-- Objects that are what they were, but for which of them are mapped.
use Rattle.std.specs.Prelude.{◌≡◌, ℕ, All, Some, false}
use Rattle.std.specs.Option.{option_map}
use Rattle.kind_tables.specs.SceneObjects.{SceneObject, SceneObjects, object_at}
use Rattle.kind_tables.specs.Walks.{Spot, Visit, below}

-- an object, and a visit, without the mark of being mapped
abbrev pub unmarked : SceneObject → SceneObject
unmarked o = record o { mapped = false }

abbrev pub unmarked_visit : Visit → Visit
unmarked_visit v = record v { object = unmarked v.object }

-- the objects of a set are what they were, but for that mark, and what they name is in the set
pub record AreStill (within : ℕ → Type 0) (old new : SceneObjects) : Type 0 where
  pub same : (k : ℕ) → within k →
      option_map unmarked (object_at new k) ≡ option_map unmarked (object_at old k)
  pub closed : (k : ℕ) (o : SceneObject) (spot : Spot) → within k → object_at old k ≡ Some o →
      All (λ (next : Spot × ℕ). within next.1) (below spot o)
