use Rattle.std.proofs.Common.{[], ◌∙◌, List, Option, ap, subst, sym}
use Rattle.std.specs.Option.{unwrap_or}
use Rattle.replay_core.proofs.FoundFacts.{means}
use Rattle.replay_core.specs.Found.{AreFound, first_known}
use Rattle.replay_core.specs.declared.bindings.Binding.{Binding}
use Rattle.replay_core.proofs.bindings.Bindings.handle.Goals as goal

pub returns-in-Some : goal.returns-in-Some
returns-in-Some c =
    c.first_known.ensures ∙ ap (λ (list : List Binding). first_known list c.args.phase c.args.caller) c.as_slice.ensures
    ∙ means c.self.inside.by_label.entries c.args.self.now c.args.label.now c.args.phase c.args.caller c.in-Some.list.now
    (subst (AreFound c.self.inside.by_label.entries) c.self.view_is c.self.invariant) (ap (λ (x : Option (List Binding)). unwrap_or x []) (sym c.in-Some.ensures.value))

pub returns-in-None : goal.returns-in-None
returns-in-None c =
    means c.self.inside.by_label.entries c.args.self.now c.args.label.now c.args.phase c.args.caller []
    (subst (AreFound c.self.inside.by_label.entries) c.self.view_is c.self.invariant) (ap (λ (x : Option (List Binding)). unwrap_or x []) (sym c.in-None.ensures.value))
