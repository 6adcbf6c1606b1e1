use Rattle.picture_model.proofs.Sources.{place_at}
use Rattle.picture_model.proofs.source.PrimitiveListPrimSource.place.Goals as goal

pub returns : goal.returns
returns c = rw c.as_slice.ensures (place_at c.args.self.now c.args.i _ c.requires)
