use Rattle.past_laws.proofs.GrantedScenes.{granted_scene_within, rendered_scene_within}
use Rattle.past_laws.proofs.scene_laws.scenes_of_renders_are_within_the_limits.Goals as goal

pub returns : goal.returns
returns c = record { granted = granted_scene_within; rendered = rendered_scene_within }
