use Rattle.std.proofs.Common.{◌∙◌, ◌++◌, ap}
use Rattle.std.specs.List.{filter_map}
use Rattle.seq_model.specs.Told.{end_of_object}
use Rattle.plain_journal.proofs.EndFacts.{all_unmarked}
use Rattle.plain_journal.proofs.endings.take_all.Goals as goal

pub returns : goal.returns
returns g c = c.take_unmarked.ensures.told ∙ ap (λ es. g.C.Client.notices c.args.client.now ++ filter_map end_of_object es) (all_unmarked c.args.stage.now.objects)
