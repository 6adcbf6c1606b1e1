use Rattle.std.proofs.Common.{[], All, Option, Some, None, sym, refl, subst}
use Rattle.std.specs.Option.{IfSome, option_to_list}
use Rattle.std.proofs.lemmas.List.{take_all}
use Rattle.std.proofs.lemmas.List.Elements.{All-nil, All-cons, All-append}
use Rattle.fx_math.specs.declared.scene.LightRow.{LightRow}
use Rattle.kind_tables.specs.Scenes.{light_at, lights_of}
use Rattle.scene_read.proofs.ListFacts.{filter_map-map_more}
use Rattle.scene_read.specs.SceneReads.{IsReadLight}
use Rattle.scene_read.specs.Starts.{seen}
use Rattle.scene_read.proofs.scenes.lights.Goals as goal

read_one : (light : Option LightRow) → IfSome light IsReadLight → All IsReadLight (option_to_list light)
read_one None read = All-nil IsReadLight
read_one (Some light) read = All-cons IsReadLight light [] read (All-nil IsReadLight)

pub loop-visit-preserved : goal.loop-visit-preserved
loop-visit-preserved g c = (
  rw (c.in_ok-push_light.ensures, c.loop-visit.invariant.0, c.light.ensures.value)
      (sym (rw (← c.visit-item.is) at (filter_map-map_more (seen (g.O.Objects.objects c.args.state.now)) light_at c.args.visits.now c.loop-visit.visit-index c.visit-item.result c.loop-visit-test.true))),
  subst (All IsReadLight) (sym c.in_ok-push_light.ensures)
      (All-append IsReadLight c.loop-visit.lights.items (option_to_list c.light.result) c.loop-visit.invariant.1 (read_one c.light.result c.light.ensures.read)),
)

pub returns-clause-value : goal.returns-clause-value
unfolding lights_of
returns-clause-value g c = rw (c.loop-visit.invariant.0, take_all c.loop-visit.visit-index c.args.visits.now c.loop-visit-test.false) refl
