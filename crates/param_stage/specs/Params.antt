-- The parameters of an object: what is set, what was committed, and the objects that these name (ANARI 1.0 Specification, object
-- parameters and commit).
use Rattle.std.specs.Prelude.{◌≡◌, ℕ, ◌+◌, ◌==◌, List, ◌++◌, option_and_then, count_by}
use Rattle.std.specs.Option.{option_to_list}
use Rattle.dev_types.specs.Counting.{times}
use Rattle.dev_types.specs.declared.values.Value.{Value}
use Rattle.kind_tables.specs.SceneObjects.{object_in, objects_of, value_named}

-- values by name, in the order of the names' bytes
abbrev pub Values : Type 0
Values = List (List ℕ × Value)

-- what is set, and what was committed
pub record ParamMaps : Type 0 where
  pub staged : Values
  pub committed : Values

-- the object that the value under a name names: one or none
abbrev pub object_under : List ℕ → Values → List ℕ
object_under name values = option_to_list (option_and_then object_in (value_named name values))

-- the objects that all parameters name, the staged ones before the committed ones
abbrev pub named : ParamMaps → List ℕ
named maps = objects_of maps.staged ++ objects_of maps.committed

-- of each object, what is named and what is gone are what was named and what was added
abbrev pub Accounts : ParamMaps → ParamMaps → List ℕ → List ℕ → Type 0
Accounts old new added gone = (h : ℕ) → times h (named new) + times h gone ≡ times h (named old) + times h added
