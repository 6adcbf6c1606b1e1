use Rattle.std.proofs.Common.{◌∙◌, false, ap, sym}
use Rattle.std.specs.List.{list_any}
use Rattle.std.specs.Option.{option_map_or}
use Rattle.seq_model.specs.Refusals.{is_parameter_out}
use Rattle.seq_model.specs.State.{Object}
use Rattle.object_store.proofs.PartFacts.{read_none, read_some}
use Rattle.object_store.proofs.store.Store.is_parameter_loan_out.Goals as goal

pub returns-in-Some : goal.returns-in-Some
returns-in-Some c =
    c.is_any_out.ensures ∙ ap (list_any (is_parameter_out c.args.name.now c.args.number c.args.len)) c.loans.ensures
    ∙ sym (ap (λ x. option_map_or (λ (o : Object). list_any (is_parameter_out c.args.name.now c.args.number c.args.len) o.parameter_loans) x false)
    (read_some c.args.self.now c.self.inside.slots c.self.inside.arrays c.self.inside.counts c.self.inside.stopped c.args.h c.in-Some.slot.now c.self.view_is c.in-Some.ensures.value))

pub returns-in-None : goal.returns-in-None
returns-in-None c =
    sym (ap (λ x. option_map_or (λ (o : Object). list_any (is_parameter_out c.args.name.now c.args.number c.args.len) o.parameter_loans) x false)
    (read_none c.args.self.now c.self.inside.slots c.self.inside.arrays c.self.inside.counts c.self.inside.stopped c.args.h c.self.view_is c.in-None.ensures.value))
