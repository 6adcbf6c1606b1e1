use Rattle.std.proofs.Common.{◌∙◌, ap, map}
use Rattle.past_laws.specs.Worlds.{Worlds, touched_by}
use Rattle.past_laws.proofs.WorldFacts.{knows_touched}
use Rattle.plain_journal.proofs.worlds.Worlds.touch.Goals as goal

pub returns-clause-known : goal.returns-clause-known
returns-clause-known c = λ history e touches knows.
    knows_touched history e c.args.h c.args.self.now _ touches
    (ap (λ (worlds : Worlds). worlds.builds) c.self.view_is)
    (c.touch_each.ensures.touched ∙ ap (λ (worlds : Worlds). map (λ entry. (entry.0, touched_by c.args.h entry.1)) worlds.uses) c.self.view_is)
    knows
