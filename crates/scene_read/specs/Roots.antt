-- Where walks begin, and how they are refused.
use Rattle.std.specs.Prelude.{ℕ, Bool, true, false, ◌≡◌, Some, ◌⊎◌}
use Rattle.std.specs.Option.{option_map, option_map_or}
use Rattle.dev_types.specs.declared.refusals.Refused.{Refused}
use Rattle.dev_types.specs.declared.refusals.Refused.TheVariants.{NoMemory}
use Rattle.kind_tables.specs.SceneObjects.{SceneObjects, object_at}
use Rattle.kind_tables.specs.WalkRefusals.{walk_refusal}
use Rattle.kind_tables.specs.Walks.{walk}
use Rattle.kind_tables.specs.declared.kinds.Kind.{Kind}
use Rattle.kind_tables.specs.declared.kinds.Kind.TheVariants.{FrameDefault, WorldDefault}

-- a frame or a world
abbrev pub begins_walk : Kind → Bool
begins_walk FrameDefault = true
begins_walk WorldDefault = true
begins_walk _ = false

-- a live frame or a live world
abbrev pub is_scene_root : SceneObjects → ℕ → Bool
is_scene_root objects h = option_map_or begins_walk (option_map (λ o. o.kind) (object_at objects h)) false

-- the first refusal of the walk from a root, or want of memory
abbrev pub IsWalkRefusal : SceneObjects → ℕ → Refused → Type 0
IsWalkRefusal objects root refused = (walk_refusal objects (walk objects root) ≡ Some refused) ⊎ (refused ≡ NoMemory)
