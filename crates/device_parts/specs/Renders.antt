-- What a render takes along.
use Rattle.std.specs.Prelude.{ℕ, ◌≡◌, Bool, false, IfSome, List, Option, Some, None, codes, map, if◌then◌else◌}
use Rattle.std.specs.Option.{MatchOption, is_none, is_some, option_map, option_map_or}
use Rattle.dev_types.specs.Counting.{times}
use Rattle.kind_tables.specs.SceneObjects.{SceneObjects, object_at}
use Rattle.kind_tables.specs.Typed.{AreFit}
use Rattle.kind_tables.specs.WalkRefusals.{walk_refusal}
use Rattle.kind_tables.specs.Walks.{Spot, visited, walk}
use Rattle.kind_tables.specs.declared.kinds.Kind.TheVariants.{FrameDefault}
use Rattle.kept_worlds.specs.KeptMaps.{Worlds, kept_at, shown_at}
use Rattle.scene_read.specs.Reading.{named_in}
use Rattle.scene_read.specs.Starts.{all_seen}
use Rattle.seq_model.specs.Life.{has}
use Rattle.world_laws.specs.Alike.{shown_of}
use Rattle.world_snapshot.specs.Worlds.{World}
use Rattle.device_parts.specs.AllParts.{shown_by}
use Rattle.device_parts.specs.declared.renders.Build.{Build}

-- the world that was committed for a frame
abbrev pub world_in : SceneObjects → ℕ → Option ℕ
world_in objects f = named_in objects f (codes "world")

-- a render of frame f is granted by its walk, of which these are the visits
pub record IsGranted (objects : SceneObjects) (f : ℕ) (visits : List (Spot × ℕ)) : Type 0 where
  pub fit : AreFit objects
  pub frame : option_map (λ o. o.kind) (object_at objects f) ≡ Some FrameDefault
  pub seen : all_seen objects visits ≡ walk objects f
  pub sound : walk_refusal objects (walk objects f) ≡ None

-- what is kept of each world shows what the world shows now
abbrev pub AreCurrent : SceneObjects → Worlds World → Type 0
AreCurrent objects worlds =
    (w : ℕ) → MatchOption (shown_at shown_by worlds w) (Unit {0}) (λ shown. shown ≡ shown_of objects w)

-- a frame shows a world that is not kept
abbrev pub wants_build : SceneObjects → Worlds World → ℕ → Bool
wants_build objects worlds f = option_map_or (λ w. is_none (kept_at worlds w)) (world_in objects f) false

-- what is to be kept of the world of frame f: all that the walk from it visits, and what it shows
pub record IsBuildOf (objects : SceneObjects) (f : ℕ) (b : Build) : Type 0 where
  pub world : world_in objects f ≡ Some b.world
  pub reach : b.reach.items ≡ visited (walk objects b.world)
  pub shown : shown_by b.prepared ≡ shown_of objects b.world

-- what a render of frame f prepares for good: its world, exactly where that is not kept
pub record IsWanted (objects : SceneObjects) (worlds : Worlds World) (f : ℕ) (build : Option Build) : Type 0 where
  pub exactly : is_some build ≡ wants_build objects worlds f
  pub build_is : IfSome build (IsBuildOf objects f)

-- the handles of the visits of a walk
abbrev pub handles_of : List (Spot × ℕ) → List ℕ
handles_of visits = map (λ v. v.1) visits

-- each of some numbers once, and no other
abbrev pub HasEachOnce : List ℕ → List ℕ → Type 0
HasEachOnce numbers list = (h : ℕ) → times h list ≡ (if has h numbers then 1 else 0)
