use Rattle.kind_tables.proofs.FrameLaws.{same_lights, same_primitives}
use Rattle.kind_tables.proofs.walks.a_frame_shows_its_world.Goals as goal

pub returns-clause-primitives : goal.returns-clause-primitives
returns-clause-primitives c = same_primitives

pub returns-clause-lights : goal.returns-clause-lights
returns-clause-lights c = same_lights
