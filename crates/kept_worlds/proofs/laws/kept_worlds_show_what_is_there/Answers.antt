use Rattle.kept_worlds.proofs.NowFacts.{kept_lives, kept_reach_lives, kept_shows_last, shown_over}
use Rattle.kept_worlds.proofs.laws.kept_worlds_show_what_is_there.Goals as goal

pub returns : goal.returns
returns c = record { lives = kept_lives; reached = kept_reach_lives; last = kept_shows_last; now = shown_over }
