-- What contracts see of the parts of a device, and what always holds of them.
use Rattle.std.specs.Prelude.{⊤, ◌≡◌, ◌<◌, ◌≤◌, ◌+◌, ℕ, IfSome, List, [], ◌∷◌, Option, Some, None, length, if◌then◌else◌}
use Rattle.std.specs.List.{AllByRecursion}
use Rattle.std.specs.Option.{option_map}
use Rattle.dev_types.specs.Counting.{times}
use Rattle.flight_books.specs.Kept.{Books}
use Rattle.flight_books.specs.declared.kept.Cargo.{Cargo}
use Rattle.fx_math.specs.declared.scene.Scene.{Scene}
use Rattle.frame_future.specs.Flights.{Flying, key_at}
use Rattle.kept_worlds.specs.KeptMaps.{Worlds, reach_at, shown_at}
use Rattle.kept_worlds.specs.LastKept.{AreKept, AreShown, is_there}
use Rattle.object_steps.specs.Objects.{Objects}
use Rattle.object_steps.specs.Resting.{IsAtRest}
use Rattle.picture_model.specs.Limits.{IsSceneWithin}
use Rattle.seq_model.specs.Builds.{builds}
use Rattle.seq_model.specs.Histories.{History}
use Rattle.seq_model.specs.Pictures.{scene_at}
use Rattle.seq_model.specs.Steps.{after, is_reached_by}
use Rattle.tile_claims.specs.Parts.{scene_of}
use Rattle.world_laws.specs.Alike.{Shown}
use Rattle.world_snapshot.specs.Views.{scene_shown}
use Rattle.world_snapshot.specs.Worlds.{World}
use Rattle.device_laws.specs.Flown.{Flown, LetsNotes, runs_of}
use Rattle.device_laws.specs.Over.{AllOver}
use Rattle.device_parts.specs.declared.loads.Load.{Load}
use Rattle.device_parts.specs.declared.loads.PreparedScene.{PreparedScene}

-- the objects, the flights with what is kept of each, the worlds that are kept, all that happened,
-- for how many entries there is room, and how many worlds were prepared
pub record Inside : Type 0 where
  pub objects : Objects
  pub flights : Books Load
  pub worlds : Worlds World
  pub history : History
  pub room : ℕ
  pub builds : ℕ

-- the scene that was prepared, and that of a flight, while it is kept with it
abbrev pub scene_prepared : PreparedScene → Scene
scene_prepared s = scene_shown s.prepared s.view

abbrev pub scene_of_load : Load → Option Scene
scene_of_load l = option_map scene_prepared l.scene

-- the scene of a flight's claims, while they are not lent
abbrev pub scene_at_home : Flying → Option Scene
scene_at_home f = if f.home then Some (scene_of (key_at f)) else None

-- what a prepared world shows
abbrev pub shown_by : World → Shown
shown_by w = record { primitives = w.primitives; lights = w.lights }

-- what is kept with a flight, whose render stands in the history, is each object that the render
-- reached, once; and a scene that is kept with it is that of the render, which is within the limits of
-- pictures
pub record IsLoaded (history : History) (c : Cargo Load) : Type 0 where
  pub early : c.ticket ≤ length history
  pub reach : (h : ℕ) → times h c.kept.reach.items
      ≡ (if is_reached_by (after history).reached c.ticket h then 1 else 0)
  pub scene : IfSome (scene_of_load c.kept) (λ s. s ≡ scene_at history c.ticket)
  pub within : IsSceneWithin (scene_at history c.ticket)

-- with each flight the scene of its claims is kept, exactly while they are not lent
abbrev pub AreAboard : List Flying → List (Cargo Load) → Type 0
AreAboard [] [] = ⊤
AreAboard [] (c ∷ cs) = ⊥
AreAboard (f ∷ fs) [] = ⊥
AreAboard (f ∷ fs) (c ∷ cs) = (scene_of_load c.kept ≡ scene_at_home f) × AreAboard fs cs

-- What always holds: the objects rest where the history led, the flights are those of the history,
-- each loaded as at its render, with its scene unless it is lent, and a note may follow; exactly the worlds are kept that are there
-- and untouched since their last render, each as it would be prepared now; the builds are counted;
-- each render whose flight is gone is that of a flight that is over; there is room for the note of
-- each flight, and for one entry more; and among the flights that were stopped there is a place for
-- each that is there, and one more, so that a discard takes no memory
pub record AreParts (i : Inside) : Type 0 where
  pub rest : IsAtRest i.objects.stored i.history
  pub flown : Flown i.history (runs_of i.flights.future.flights)
  pub loaded : AllByRecursion (IsLoaded i.history) i.flights.cargo
  pub aboard : AreAboard i.flights.future.flights i.flights.cargo
  pub lets : LetsNotes i.history
  pub kept : AreKept (is_there i.history) i.history (reach_at i.worlds)
  pub shown : AreShown i.history (shown_at shown_by i.worlds)
  pub built : i.builds ≡ builds i.history
  pub over : AllOver i.history i.flights.over
  pub places : length i.history + length i.flights.future.flights < i.room
  pub stops : length i.flights.future.flights < i.objects.stored.places
