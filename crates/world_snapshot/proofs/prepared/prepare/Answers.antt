use Rattle.kind_tables.specs.Walks.{walk}
use Rattle.world_snapshot.proofs.WorldFacts.{few_primitives}
use Rattle.world_snapshot.proofs.prepared.prepare.Goals as goal

pub prepare_visited-requires : goal.prepare_visited-requires
prepare_visited-requires g c =
    let objects = g.O.Objects.objects c.args.state.now in
    rw c.in-Ok.ensures.seen (few_primitives objects (walk objects c.args.world) c.in-Ok.ensures.sound)
