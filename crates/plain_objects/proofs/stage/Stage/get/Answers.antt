use Rattle.std.proofs.Common.{◌≡◌, ◌∙◌, option_copied, rules}
use Rattle.seq_model.specs.State.{object_at, scene_object}
use Rattle.plain_objects.proofs.Entries.{map_copied, seen_at}
use Rattle.plain_objects.proofs.stage.Stage.get.Goals as goal

pub returns-clause-seen : goal.returns-clause-seen
returns-clause-seen c =
    let is : option_copied c.get.result ≡ object_at c.args.self.now c.args.h = search rules in
    map_copied scene_object c.get.result ∙ seen_at c.args.self.now c.args.h (option_copied c.get.result) is
