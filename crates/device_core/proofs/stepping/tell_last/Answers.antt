use Rattle.std.proofs.Common.{◌∙◌, ◌++◌, ap, sym}
use Rattle.std.specs.Option.{unwrap_or}
use Rattle.seq_model.specs.Told.{status_at}
use Rattle.seq_model.specs.declared.calls.Entry.{Entry}
use Rattle.device_core.proofs.stepping.tell_last.Goals as goal

pub returns-in-Some-Called-clause-told : goal.returns-in-Some-Called-clause-told
returns-in-Some-Called-clause-told g c = λ before e is.
    c.tell_status.ensures.told c.in-Some-Called.field-0-0
    ∙ ap (λ (e : Entry). g.C.Client.notices c.args.client.now ++ status_at e) (sym c.in-Some-Called.field-0-is ∙ ap (λ o. unwrap_or o e) (c.in-Some-Called.ensures before e is))
