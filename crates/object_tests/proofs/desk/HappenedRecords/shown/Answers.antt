use Rattle.std.proofs.Common.{◌∙◌, subst, sym}
use Rattle.object_tests.specs.Desks.{Entered, RendersNothing}
use Rattle.object_tests.proofs.DeskFacts.{shows_nothing}
use Rattle.object_tests.proofs.desk.HappenedRecords.shown.Goals as goal

pub returns-clause-phase : goal.returns-clause-phase
returns-clause-phase c =
    sym (shows_nothing c.args.self.now.entries (subst (λ (h : Entered). RendersNothing h.entries) c.self.view_is c.self.invariant) c.args._h) ∙ c.requires
