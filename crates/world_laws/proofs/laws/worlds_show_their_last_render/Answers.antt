use Rattle.world_laws.proofs.LastRenders.{reaches_as_last, shows_last_render}
use Rattle.world_laws.proofs.laws.worlds_show_their_last_render.Goals as goal

pub returns : goal.returns
returns c = record { shown = shows_last_render; reach = reaches_as_last }
