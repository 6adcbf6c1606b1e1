use Rattle.std.proofs.Common.{sym}
use Rattle.replay_core.proofs.FoundFacts.{joins_one}
use Rattle.replay_core.proofs.bindings.add_lists.Goals as goal

pub loop-label-preserved : goal.loop-label-preserved
loop-label-preserved c = λ target joins.
    c.loop-label.invariant target
    (joins_one c.loop-label.by_label.entries c.add_list.new.by_label.entries c.loop-label.left.entries c.pop_first.new.self.entries target c.in-Some.label c.in-Some.list
    c.in-Some.ensures.updates.0 c.in-Some.ensures.value c.in_ok-add_list.ensures.added joins)
