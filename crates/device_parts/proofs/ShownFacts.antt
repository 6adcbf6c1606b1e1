-- What a frame shows, and what its world does.
use Rattle.std.proofs.Common.{◌≡◌, ◌∙◌, ℕ, ◌≤◌, ◌^◌, List, [], ◌∷◌, Option, Some, None, length, refl, sym, ap, subst, codes}
use Rattle.std.specs.Option.{MatchOption, option_and_then, option_map}
use Rattle.kind_tables.proofs.FrameLaws.{same_lights, same_primitives}
use Rattle.kind_tables.specs.SceneObjects.{SceneObject, SceneObjects, object_at, object_in, value_named}
use Rattle.kind_tables.specs.Scenes.{lights_of, primitives_of}
use Rattle.kind_tables.specs.Walks.{Spot, visited, walk}
use Rattle.kind_tables.specs.declared.kinds.Kind.TheVariants.{FrameDefault}
use Rattle.scene_read.proofs.SceneLimits.{found_kind}
use Rattle.scene_read.specs.Starts.{all_seen}
use Rattle.world_laws.specs.Alike.{Shown, shown_of}
use Rattle.kept_worlds.specs.KeptMaps.{Kept, Worlds, kept_at}
use Rattle.world_snapshot.proofs.WorldFacts.{few_primitives}
use Rattle.world_snapshot.specs.Worlds.{IsShownBy, World}
use Rattle.device_parts.specs.AllParts.{shown_by}
use Rattle.device_parts.specs.Renders.{AreCurrent, IsGranted, handles_of, world_in}

-- the handles of what is seen at some starts
pub handles_seen : (objects : SceneObjects) (starts : List (Spot × ℕ)) → visited (all_seen objects starts) ≡ handles_of starts
handles_seen objects [] = refl
handles_seen objects (s ∷ starts) = ap (λ rest. s.1 ∷ rest) (handles_seen objects starts)

-- a frame shows what its world shows
module _ (objects : SceneObjects) (f w : ℕ) (visits : List (Spot × ℕ)) (granted : IsGranted objects f visits) (shows : world_in objects f ≡ Some w) where
  frame : (o : SceneObject) × ((object_at objects f ≡ Some o) × (o.kind ≡ FrameDefault))
  frame = found_kind (object_at objects f) FrameDefault granted.frame

  world : option_and_then object_in (value_named (codes "world") frame.0.committed) ≡ Some w
  world = sym (ap (λ (found : Option SceneObject). option_and_then object_in (option_and_then (λ (o : SceneObject). value_named (codes "world") o.committed) found)) frame.1.0) ∙ shows

  primitives : primitives_of objects (walk objects f) ≡ primitives_of objects (walk objects w)
  primitives = same_primitives objects f w frame.0 granted.fit.typed granted.fit.ranked frame.1.0 frame.1.1 world

  lights : lights_of (walk objects f) ≡ lights_of (walk objects w)
  lights = same_lights objects f w frame.0 granted.fit.typed granted.fit.ranked frame.1.0 frame.1.1 world

  pub frame_shown : (p : World) → shown_by p ≡ shown_of objects w → IsShownBy objects (walk objects f) p
  frame_shown p shown = record {
    primitives = ap (λ (s : Shown). s.primitives) shown ∙ sym primitives;
    lights = ap (λ (s : Shown). s.lights) shown ∙ sym lights;
  }

  pub world_shown : (p : World) → IsShownBy objects (walk objects f) p → shown_by p ≡ shown_of objects w
  world_shown p shown = λ i. record {
    primitives = (shown.primitives ∙ primitives) i;
    lights = (shown.lights ∙ lights) i;
  }

-- a walk that is granted shows at most 2^20 primitives
pub few_seen : (objects : SceneObjects) (f : ℕ) (visits : List (Spot × ℕ)) → IsGranted objects f visits → length (primitives_of objects (all_seen objects visits)) ≤ 2 ^ 20
few_seen objects f visits granted =
    subst (λ seen. length (primitives_of objects seen) ≤ 2 ^ 20) (sym granted.seen) (few_primitives objects (walk objects f) granted.sound)

-- what is kept of a world shows what the world shows
pub kept_shown : (objects : SceneObjects) (worlds : Worlds World) (w : ℕ) (p : World) → AreCurrent objects worlds → Some p ≡ option_map (λ k. k.value) (kept_at worlds w) → shown_by p ≡ shown_of objects w
kept_shown objects worlds w p current is = by (kept_at worlds w) (current w) is
  where
    by : (x : Option (Kept World)) → MatchOption (option_map (λ k. shown_by k.value) x) (Unit {0}) (λ shown. shown ≡ shown_of objects w) →
        Some p ≡ option_map (λ k. k.value) x → shown_by p ≡ shown_of objects w
    by None shown is = absurd cc
    by (Some k) shown is = let same : p ≡ k.value = cc in ap shown_by same ∙ shown
