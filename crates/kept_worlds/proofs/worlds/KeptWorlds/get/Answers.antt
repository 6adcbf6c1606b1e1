use Rattle.std.proofs.Common.{rules}
use Rattle.kept_worlds.proofs.NowFacts.{shown_one}
use Rattle.kept_worlds.specs.KeptMaps.{kept_at}
use Rattle.kept_worlds.proofs.worlds.KeptWorlds.get.Goals as goal

pub returns-clause-value : goal.returns-clause-value
returns-clause-value g c = search rules

pub returns-clause-shown : goal.returns-clause-shown
returns-clause-shown g c = λ shows history shown.
    shown_one history shows c.args.world c.value.result.now (kept_at c.args.self.now c.args.world) (returns-clause-value g c) (shown c.args.world)
