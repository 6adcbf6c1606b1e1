use Rattle.std.proofs.Common.{◌∙◌, ap, sym, option_copied}
use Rattle.std.specs.Option.{option_and_then}
use Rattle.seq_model.specs.State.{Object, parameter_loan}
use Rattle.object_store.proofs.PartFacts.{read_none, read_some}
use Rattle.object_store.proofs.store.Store.parameter_loan.Goals as goal

pub returns-in_err-get : goal.returns-in_err-get
returns-in_err-get c =
    let at = read_none c.args.self.now c.self.inside.slots c.self.inside.arrays c.self.inside.counts c.self.inside.stopped c.args.h c.self.view_is c.in_err-get.ensures.value in
    ap option_copied c.from_residual.ensures ∙ sym (ap (option_and_then (λ (o : Object). parameter_loan c.args.number o.parameter_loans)) at)

pub returns : goal.returns
returns c =
    let at = read_some c.args.self.now c.self.inside.slots c.self.inside.arrays c.self.inside.counts c.self.inside.stopped c.args.h c.in_ok-get.field-0.now c.self.view_is c.in_ok-get.ensures.value in
    c.loan_with.ensures ∙ ap (parameter_loan c.args.number) c.loans.ensures ∙ sym (ap (option_and_then (λ (o : Object). parameter_loan c.args.number o.parameter_loans)) at)
