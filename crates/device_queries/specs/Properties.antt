-- The properties of the objects with a handle, and of the device (ANARI 1.0 Specification, object properties).
use Rattle.std.specs.Prelude.{ℕ, zero, suc, Bool, List, Option, Some}
use Rattle.std.specs.Option.{option_and_then, option_map}
use Rattle.dev_types.specs.declared.refusals.Refused.{Refused}
use Rattle.dev_types.specs.declared.values.Value.{Value}
use Rattle.kind_tables.specs.SceneObjects.{SceneObjects, object_at}
use Rattle.seq_model.specs.Properties.{property_by, refusal_of_property, refusal_of_version, version}

-- why a property is not told; handle 0 stands for the device
abbrev pub refusal_at : SceneObjects → ℕ → List ℕ → Option Refused
refusal_at objects zero name = refusal_of_version name
refusal_at objects (suc h) name =
    option_and_then (λ o. refusal_of_property objects (suc h) o.kind name) (object_at objects (suc h))

-- the property that is told
abbrev pub property_at : SceneObjects → ℕ → Bool → Option Value
property_at objects zero done = Some version
property_at objects (suc h) done =
    option_map (λ o. property_by objects (suc h) done o.kind) (object_at objects (suc h))
