use Rattle.std.proofs.Common.{◌∙◌, ap}
use Rattle.std.specs.Prelude.{cond, false, ◌==◌, Some}
use Rattle.std.specs.BTreeMap.{is_at}
use Rattle.std.specs.Map.{lookup}
use Rattle.std.specs.Ordering.{nat_cmp}
use Rattle.past_laws.proofs.WorldFacts.{knows_rendered}
use Rattle.plain_journal.proofs.worlds.Worlds.render.Goals as goal

pub returns-clause-known : goal.returns-clause-known
returns-clause-known c = λ history actor f short world reached knows.
    knows_rendered history actor f c.args.world c.args.reach.items c.args.self.now c.put.new.self short world reached
    (c.put.ensures.builds ∙ c.count.ensures.builds)
    (λ q. c.put.ensures.uses q ∙ ap (λ uses. cond (c.args.world == q) (Some (record { reach = c.args.reach.items; touched = false })) (lookup (is_at (nat_cmp q)) uses)) c.count.ensures.uses)
    knows
