use Rattle.std.proofs.Common.{◌≡◌, ◌∙◌, None, Some, ap, length, sym, arith}
use Rattle.seq_model.proofs.Keys.{at}
use Rattle.seq_model.specs.State.{State}
use Rattle.plain_objects.proofs.Removals.{none_less, one_less}
use Rattle.plain_objects.proofs.sweeps.take_away.Goals as goal

pub returns-in-Some-clause-room : goal.returns-in-Some-clause-room
returns-in-Some-clause-room g c =
    let found : at c.args.h c.args.stage.now.objects ≡ Some c.in-Some.object = sym c.remove.ensures.value ∙ c.in-Some.is in
    let less = one_less c.args.h c.args.stage.now.objects c.in-Some.object found in
    omega (arith, less, ap (λ (s : State). length s.objects) c.remove.ensures.stage, c.tell_end.ensures.room, c.requires)

pub returns-in_default-clause-room : goal.returns-in_default-clause-room
returns-in_default-clause-room g c =
    let none : at c.args.h c.args.stage.now.objects ≡ None = sym c.remove.ensures.value ∙ c.in_default.is in
    omega (arith, ap (λ (s : State). length s.objects) c.remove.ensures.stage, ap length (none_less c.args.h c.args.stage.now.objects none), c.requires)
