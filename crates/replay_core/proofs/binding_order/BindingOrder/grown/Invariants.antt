use Rattle.std.proofs.Common.{[], ◌∷◌, ◌++◌}
use Rattle.replay_core.proofs.binding_order.BindingOrder.grown.Given as goal

abbrev pub ghost-of : goal.ghost-of
ghost-of a = a._before.now.list ++ a._binding.now ∷ []
