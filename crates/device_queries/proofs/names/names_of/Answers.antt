use Rattle.dev_types.specs.Bounded.{is_name}
use Rattle.scene_read.proofs.ListFacts.{list_all-map_at}
use Rattle.device_queries.proofs.names.names_of.Goals as goal

pub of-requires : goal.of-requires
of-requires c = list_all-map_at (λ text. text.now) is_name c.args.texts.now c.loop-text.text-index _ c.loop-text-test.true c.requires
