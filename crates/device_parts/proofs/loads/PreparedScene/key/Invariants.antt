use Rattle.device_parts.proofs.loads.PreparedScene.key.Given as goal
use Rattle.device_parts.specs.AllParts.{scene_prepared}

abbrev pub ghost-of : goal.ghost-of
ghost-of a = scene_prepared a._about.now
