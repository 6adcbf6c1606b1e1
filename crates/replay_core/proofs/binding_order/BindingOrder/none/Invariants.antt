use Rattle.std.proofs.Common.{[]}
use Rattle.replay_core.proofs.binding_order.BindingOrder.none.Given as goal

abbrev pub ghost-any : goal.ghost-any
ghost-any a = []
