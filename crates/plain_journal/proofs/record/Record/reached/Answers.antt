use Rattle.std.proofs.Common.{◌∙◌, ap, map}
use Rattle.kind_tables.specs.Walks.{walk}
use Rattle.seq_model.specs.State.{scene_objects}
use Rattle.plain_journal.proofs.PreparedFacts.{handles_are_visited}
use Rattle.plain_journal.proofs.record.Record.reached.Goals as goal

pub returns : goal.returns
returns c = c.in_ok-handles_of.ensures ∙ ap (map (λ v. v.1)) (c.as_slice.ensures ∙ c.requires) ∙ handles_are_visited (walk (scene_objects c.args.self.now.state) c.args.h)
