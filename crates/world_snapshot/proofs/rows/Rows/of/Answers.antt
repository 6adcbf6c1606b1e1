use Rattle.std.proofs.Common.{sym, refl}
use Rattle.std.proofs.lemmas.List.{take_all}
use Rattle.kind_tables.specs.Scenes.{primitives_at, primitives_of}
use Rattle.scene_read.proofs.ListFacts.{flat_map-map_more}
use Rattle.scene_read.specs.Starts.{seen}
use Rattle.world_snapshot.proofs.rows.Rows.of.Goals as goal

pub loop-visit-preserved : goal.loop-visit-preserved
loop-visit-preserved g c =
    rw (c.in_ok-push_visit.ensures, c.loop-visit.invariant)
    (sym (rw (← c.visit-item.is) at (flat_map-map_more (seen (g.O.Objects.objects c.args.state.now)) (primitives_at (g.O.Objects.objects c.args.state.now)) c.args.visits.now c.loop-visit.visit-index c.visit-item.result c.loop-visit-test.true)))

pub returns : goal.returns
unfolding primitives_of
returns g c = rw (c.loop-visit.invariant, take_all c.loop-visit.visit-index c.args.visits.now c.loop-visit-test.false) refl
