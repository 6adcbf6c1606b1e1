-- A render that is prepared.
use Rattle.std.specs.Prelude.{◌≡◌, ℕ}
use Rattle.std.specs.Option.{option_map}
use Rattle.kind_tables.specs.Scenes.{scene}
use Rattle.picture_model.specs.Limits.{IsSceneWithin}
use Rattle.seq_model.specs.State.{State, scene_objects}
use Rattle.past_laws.specs.Prepared.{AreAsked, reach_of, world_reach}
use Rattle.plain_journal.specs.declared.prepared.Prepared.{Prepared}

-- what a render needs is what the state before it says
pub record IsReady (s : State) (f : ℕ) (p : Prepared) : Type 0 where
  pub reach : p.reach.items ≡ reach_of s f
  pub scene : p.scene ≡ scene (scene_objects s) f
  pub within : IsSceneWithin p.scene
  pub channels : AreAsked s f p.channels
  pub world : option_map (λ w. (w.0, w.1.items)) p.world ≡ world_reach s f
