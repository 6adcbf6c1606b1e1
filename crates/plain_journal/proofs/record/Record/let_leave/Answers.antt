use Rattle.std.proofs.Common.{◌≡◌, ◌∙◌, ◌++◌, ◌∷◌, [], ap, rules, subst, sym}
use Rattle.seq_model.specs.Steps.{Past, step}
use Rattle.seq_model.specs.declared.calls.Entry.TheVariants.{Left}
use Rattle.plain_journal.proofs.Legality.{left_is_legal}
use Rattle.past_laws.proofs.OpenFacts.{left_is_open}
use Rattle.plain_journal.proofs.StepFacts.{was_unseen}
use Rattle.plain_journal.specs.Unseen.{IsUnseen}
use Rattle.past_laws.specs.Open.{IsOpen}
use Rattle.plain_journal.specs.Whole.{past_in}
use Rattle.plain_journal.proofs.record.Record.let_leave.Goals as goal

pub leave-requires-clause-legal : goal.leave-requires-clause-legal
leave-requires-clause-legal g c =
    let view : past_in c.self.inside.stage c.self.inside.books ≡ c.args.self.now = search rules in
    subst (λ (p : Past). IsUnseen (p.seen ++ Left c.args.ticket ∷ [])) view
    (left_is_legal (past_in c.self.inside.stage c.self.inside.books) c.args.ticket c.self.invariant.kept.led (was_unseen c.self.inside.stage c.self.inside.books c.self.invariant) (search rules) (search rules))

pub returns-clause-open : goal.returns-clause-open
unfolding step
returns-clause-open g c =
    let view : past_in c.self.inside.stage c.self.inside.books ≡ c.args.self.now = search rules in
    subst (λ (p : Past). IsOpen p.seen) (ap (λ (p : Past). step p (Left c.args.ticket)) view ∙ sym c.leave.ensures.entered)
    (left_is_open (past_in c.self.inside.stage c.self.inside.books) c.args.ticket c.self.invariant.kept.led (search rules) (search rules))
