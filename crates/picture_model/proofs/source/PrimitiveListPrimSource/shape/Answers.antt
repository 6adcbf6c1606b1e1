use Rattle.picture_model.proofs.Sources.{shape_at}
use Rattle.picture_model.proofs.source.PrimitiveListPrimSource.shape.Goals as goal

pub returns : goal.returns
returns c = rw c.as_slice.ensures (shape_at c.args.self.now c.args.i _ c.requires)
