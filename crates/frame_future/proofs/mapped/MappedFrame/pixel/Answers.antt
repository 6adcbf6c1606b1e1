use Rattle.frame_future.proofs.PixelParts.{pixel_of_part}
use Rattle.frame_future.proofs.mapped.MappedFrame.pixel.Goals as goal

pub returns : goal.returns
returns c = pixel_of_part c.args.self.now c.args.x c.args.y c.part-part.result.now c.requires.column c.part-part.ensures.value c.part-part.ensures.count
