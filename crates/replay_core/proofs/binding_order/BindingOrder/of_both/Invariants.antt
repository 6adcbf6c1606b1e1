use Rattle.replay_core.proofs.binding_order.BindingOrder.of_both.Given as goal

abbrev pub ghost-any : goal.ghost-any
ghost-any g a = g.list
