use Rattle.std.proofs.Common.{◌++◌}
use Rattle.replay_core.proofs.binding_order.BindingOrder.joined.Given as goal

abbrev pub ghost-of_both : goal.ghost-of_both
ghost-of_both a = a._first.now.list ++ a._second.now.list
