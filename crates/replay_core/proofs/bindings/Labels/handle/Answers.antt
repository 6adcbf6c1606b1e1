use Rattle.std.proofs.Common.{◌∙◌, ap, sym}
use Rattle.std.specs.Option.{option_copied, unwrap_or}
use Rattle.replay_core.proofs.FoundFacts.{means_first, means_own}
use Rattle.replay_core.proofs.bindings.Labels.handle.Goals as goal

pub returns-in-Some : goal.returns-in-Some
returns-in-Some c =
    sym (means_first c.args.self.now.bound.now (option_copied c.args.self.now.own) c.args.self.now.phase c.args.self.now.caller c.args.label.now c.in-Some.handle (sym c.in-Some.ensures))

pub returns-in-None : goal.returns-in-None
returns-in-None c =
    c.unwrap_or.ensures ∙ ap (λ x. unwrap_or x 0) c.own_handle.ensures
    ∙ sym (means_own c.args.self.now.bound.now (option_copied c.args.self.now.own) c.args.self.now.phase c.args.self.now.caller c.args.label.now (sym c.in-None.ensures))
