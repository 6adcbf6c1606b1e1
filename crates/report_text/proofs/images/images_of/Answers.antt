use Rattle.report_text.proofs.ImageFacts.{images_next, map_is_whole}
use Rattle.report_text.proofs.images.images_of.Goals as goal

pub push_image-requires : goal.push_image-requires
push_image-requires c = map_is_whole c.args.history.now c.requires c.entries.i c.get.result.now c.get.ensures

pub entries-preserved : goal.entries-preserved
entries-preserved c =
    images_next c.args.history.now c.entries.i c.get.result.now _ _ c.get.ensures c.entries.invariant c.in_ok-push_image.ensures
