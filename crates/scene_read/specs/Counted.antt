-- What a walk may visit only so much of.
use Rattle.std.specs.Prelude.{ℕ, List, length, if◌then◌else◌}
use Rattle.std.specs.Option.{option_map_or}
use Rattle.kind_tables.specs.SceneObjects.{SceneObjects}
use Rattle.kind_tables.specs.Scenes.{light_at, lights_of, primitives_at, primitives_of}
use Rattle.kind_tables.specs.WalkRefusals.{is_surface, surface_count}
use Rattle.kind_tables.specs.Walks.{Visit}
use Rattle.scene_read.specs.declared.refusals.Limit.{Limit}
use Rattle.scene_read.specs.declared.refusals.Limit.TheVariants.{Surfaces, Lights, Primitives}

-- the most of it
abbrev pub most_of : Limit → ℕ
most_of Surfaces = 65536
most_of Lights = 256
most_of Primitives = 1048576

-- how much of it is visited
abbrev pub count_of : Limit → SceneObjects → List Visit → ℕ
count_of Surfaces objects visits = surface_count visits
count_of Lights objects visits = length (lights_of visits)
count_of Primitives objects visits = length (primitives_of objects visits)

-- how much of it one visit adds
abbrev pub count_at : Limit → SceneObjects → Visit → ℕ
count_at Surfaces objects v = if is_surface v.object.kind then 1 else 0
count_at Lights objects v = option_map_or (λ light. 1) (light_at v) 0
count_at Primitives objects v = length (primitives_at objects v)
