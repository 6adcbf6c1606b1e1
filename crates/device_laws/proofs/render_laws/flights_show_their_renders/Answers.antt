use Rattle.device_laws.proofs.RenderFacts.{render_begins, render_stays, renders_stay, sweep_shows}
use Rattle.device_laws.proofs.render_laws.flights_show_their_renders.Goals as goal

pub returns : goal.returns
returns c = record { begins = render_begins; stays = render_stays; all_stay = renders_stay; sweep = sweep_shows }
