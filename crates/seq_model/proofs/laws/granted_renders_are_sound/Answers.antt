use Rattle.seq_model.proofs.laws.granted_renders_are_sound.Goals as goal
use Rattle.seq_model.proofs.Renders.{every_visit_is_complete, every_visit_is_in_range, no_visit_is_mapped, walks_keep_the_limits}

pub returns-clause-unmapped : goal.returns-clause-unmapped
returns-clause-unmapped c = no_visit_is_mapped

pub returns-clause-complete : goal.returns-clause-complete
returns-clause-complete c = every_visit_is_complete

pub returns-clause-in_range : goal.returns-clause-in_range
returns-clause-in_range c = every_visit_is_in_range

pub returns-clause-limits : goal.returns-clause-limits
returns-clause-limits c = walks_keep_the_limits
