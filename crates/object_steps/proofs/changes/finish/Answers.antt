use Rattle.std.proofs.Common.{◌∙◌}
use Rattle.object_steps.proofs.CarryFacts.{done_alike, ok_then, spent_ok, taken_back_alike, taken_back_there}
use Rattle.object_steps.proofs.changes.finish.Goals as goal

pub take_back-requires-clause-named : goal.take_back-requires-clause-named
take_back-requires-clause-named c =
    taken_back_there c.args.store.now c.args.call.now c.args.loan c.in-UnmapArray-Lent.h-0 c.in-UnmapArray-Lent.number-0 c.in-UnmapArray-Lent.bytes c.in-UnmapArray-Lent.lent c.in-UnmapArray-Lent.is-0 c.in-UnmapArray-Lent.is-1
    c.requires.can c.requires.brings

pub returns-in-UnmapArray-Lent-clause-ok : goal.returns-in-UnmapArray-Lent-clause-ok
returns-in-UnmapArray-Lent-clause-ok c =
    ok_then c.take_back.result
    (λ is. is ∙ taken_back_alike c.args.place c.args.store.now c.args.call.now c.args.loan c.in-UnmapArray-Lent.h-0 c.in-UnmapArray-Lent.number-0 c.in-UnmapArray-Lent.bytes c.in-UnmapArray-Lent.lent c.in-UnmapArray-Lent.is-0
    c.in-UnmapArray-Lent.is-1 c.requires.brings)
    c.take_back.ensures.ok

pub returns-in_default-clause-ok : goal.returns-in_default-clause-ok
returns-in_default-clause-ok c =
    spent_ok c.change.result c.spent.result c.args.loan c.spent.ensures (λ is. is ∙ done_alike c.args.place c.args.call.now c.args.store.now c.requires.can) c.change.ensures.ok
