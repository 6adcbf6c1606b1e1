-- What a world shows of objects, and when two sets of objects show the same of it.
use Rattle.std.specs.Prelude.{◌≡◌, ℕ, List, Option, Some, None, map}
use Rattle.fx_math.specs.declared.scene.LightRow.{LightRow}
use Rattle.fx_math.specs.declared.scene.Primitive.{Primitive}
use Rattle.kind_tables.specs.SceneObjects.{SceneObject, SceneObjects}
use Rattle.kind_tables.specs.Scenes.{lights_of, primitives_of}
use Rattle.kind_tables.specs.Walks.{visited, walk}
use Rattle.past_laws.specs.Stills.{unmarked, unmarked_visit}

-- the primitives of a world and its lights, in the order of its walk
pub record Shown : Type 0 where
  pub primitives : List Primitive
  pub lights : List LightRow

-- what world w shows
abbrev pub shown_of : SceneObjects → ℕ → Shown
shown_of objects w = record { primitives = primitives_of objects (walk objects w); lights = lights_of (walk objects w) }

-- the walk from world w visits what it visited, but for which objects are mapped, and shows what it showed
pub record ShowsAsBefore (old new : SceneObjects) (w : ℕ) : Type 0 where
  pub visits : map unmarked_visit (walk new w) ≡ map unmarked_visit (walk old w)
  pub reach : visited (walk new w) ≡ visited (walk old w)
  pub shown : shown_of new w ≡ shown_of old w

-- an object that is there was there, and is what it was, but for whether it is mapped
abbrev pub IsAsBefore : Option SceneObject → Option SceneObject → Type 0
IsAsBefore old None = Unit {0}
IsAsBefore None (Some o) = ⊥
IsAsBefore (Some p) (Some o) = unmarked o ≡ unmarked p
