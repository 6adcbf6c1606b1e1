use Rattle.std.proofs.Common.{rules, All, ap, subst, ◌∙◌}
use Rattle.kind_tables.specs.Scenes.{lights_of}
use Rattle.scene_read.proofs.StartFacts.{walk_seen_again}
use Rattle.scene_read.specs.SceneReads.{IsReadLight}
use Rattle.scene_read.specs.Starts.{all_seen}
use Rattle.world_snapshot.proofs.WorldFacts.{world_within}
use Rattle.world_snapshot.proofs.prepared.prepare_visited.Goals as goal

pub returns-in-Ok-clause-shown : goal.returns-in-Ok-clause-shown
returns-in-Ok-clause-shown g c = search rules

pub returns-in-Ok-clause-within : goal.returns-in-Ok-clause-within
returns-in-Ok-clause-within g c = λ root fit starts none.
    let objects = g.O.Objects.objects c.args.state.now in
    world_within objects root (all_seen objects c.args.visits.now) c.in-Ok.world.value fit (ap (all_seen objects) starts ∙ walk_seen_again objects root) none (returns-in-Ok-clause-shown g c)
    (subst (All IsReadLight) (c.in_ok-lights.ensures.value ∙ ap (λ visits. lights_of (all_seen objects visits)) c.as_slice-visits.ensures) c.in_ok-lights.ensures.read)
