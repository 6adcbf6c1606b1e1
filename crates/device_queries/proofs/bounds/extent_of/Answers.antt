use Rattle.std.proofs.Common.{◌∙◌, ap, refl, sym}
use Rattle.std.specs.Prelude.{fold}
use Rattle.std.specs.List.{flat_map}
use Rattle.std.proofs.lemmas.List.{take_all}
use Rattle.std.proofs.lemmas.List.Sums.{fold-append}
use Rattle.kind_tables.specs.Scenes.{primitives_at, primitives_of}
use Rattle.scene_read.proofs.ListFacts.{flat_map-map_more}
use Rattle.scene_read.specs.Starts.{all_seen, seen}
use Rattle.device_queries.specs.Extents.{nothing, with_primitive}
use Rattle.device_queries.proofs.bounds.extent_of.Goals as goal

pub loop-visit-preserved : goal.loop-visit-preserved
loop-visit-preserved g c =
    c.with_visit-extent.ensures
    ∙ rw (c.loop-visit.invariant) (
    sym (fold-append with_primitive nothing
    (flat_map (primitives_at (g.O.Objects.objects c.args.state.now)) (all_seen (g.O.Objects.objects c.args.state.now) _))
    (primitives_at (g.O.Objects.objects c.args.state.now) (seen (g.O.Objects.objects c.args.state.now) _)))
    ∙ ap (fold with_primitive nothing)
    (sym (rw (← c.visit-item.is) at (flat_map-map_more (seen (g.O.Objects.objects c.args.state.now)) (primitives_at (g.O.Objects.objects c.args.state.now)) c.args.visits.now c.loop-visit.visit-index c.visit-item.result c.loop-visit-test.true)))
    )

pub returns : goal.returns
unfolding primitives_of
returns g c = rw (c.loop-visit.invariant, take_all c.loop-visit.visit-index c.args.visits.now c.loop-visit-test.false) refl
