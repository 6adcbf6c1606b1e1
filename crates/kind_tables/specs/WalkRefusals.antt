-- Why a walk is refused. Of all visits the lowest number of a refusal comes first, and within one number the first visit.
use Rattle.std.specs.Prelude.{ℕ, Bool, true, false, ◌&&◌, nat_lt, List, [], ◌∷◌, Option, Some, None, length, if◌then◌else◌}
use Rattle.std.specs.List.{filter, find}
use Rattle.std.specs.Option.{is_none, option_map, option_or}
use Rattle.dev_types.specs.declared.refusals.Refused.{Refused}
use Rattle.dev_types.specs.declared.refusals.Refused.TheVariants.{ArrayMapped, Incomplete, TooMany, OutOfRange}
use Rattle.kind_tables.specs.Ranges.{broken_parameter}
use Rattle.kind_tables.specs.Rows.{rows_of}
use Rattle.kind_tables.specs.SceneObjects.{SceneObject, SceneObjects, value_named}
use Rattle.kind_tables.specs.Scenes.{lights_of, primitives_of}
use Rattle.kind_tables.specs.Walks.{Visit}
use Rattle.kind_tables.specs.declared.kinds.Kind.{Kind}
use Rattle.kind_tables.specs.declared.kinds.Kind.TheVariants.{SurfaceDefault}

-- the first answer that f gives of the items of a list
abbrev pub first_answer : {A B : Type 0} → (A → Option B) → List A → Option B
first_answer f [] = None
first_answer f (x ∷ xs) = option_or (f x) (first_answer f xs)

-- the first mapped object that is visited
unfoldable pub first_mapped : List Visit → Option Refused
first_mapped visits = option_map (λ v. ArrayMapped v.handle) (find (λ v. v.object.mapped) visits)

-- the first parameter that an object needs and lacks, in the order of its rows
abbrev pub missing_parameter : SceneObject → Option (List ℕ)
missing_parameter o = option_map (λ row. row.0) (find (λ row. row.1.required && is_none (value_named row.0 o.committed)) (rows_of o.kind))

-- the first visited object that lacks a parameter
unfoldable pub first_incomplete : List Visit → Option Refused
first_incomplete visits = first_answer (λ v. option_map (Incomplete v.handle) (missing_parameter v.object)) visits

-- a surface
abbrev pub is_surface : Kind → Bool
is_surface SurfaceDefault = true
is_surface _ = false

-- how many surfaces are visited: one for each instance place and surface place
abbrev pub surface_count : List Visit → ℕ
surface_count visits = length (filter (λ v. is_surface v.object.kind) visits)

-- more than `limit`
abbrev pub too_many : ℕ → ℕ → Option Refused
too_many limit count = if nat_lt limit count then Some (TooMany limit) else None

-- the first of the limits that a walk passes: of surfaces, of lights, of primitives
unfoldable pub first_limit : SceneObjects → List Visit → Option Refused
first_limit objects visits =
    option_or (too_many 65536 (surface_count visits))
    (option_or (too_many 256 (length (lights_of visits)))
    (too_many 1048576 (length (primitives_of objects visits))))

-- the first visited object with a parameter out of range
unfoldable pub first_out_of_range : SceneObjects → List Visit → Option Refused
first_out_of_range objects visits = first_answer (λ v. option_map (OutOfRange v.handle) (broken_parameter objects v)) visits

-- what is wrong with what is visited, but for mapped arrays
unfoldable pub fault_of : SceneObjects → List Visit → Option Refused
fault_of objects visits = option_or (first_incomplete visits) (option_or (first_limit objects visits) (first_out_of_range objects visits))

-- why the walk is refused, if it is
unfoldable pub walk_refusal : SceneObjects → List Visit → Option Refused
walk_refusal objects visits = option_or (first_mapped visits) (fault_of objects visits)
