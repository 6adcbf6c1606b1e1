use Rattle.std.proofs.Common.{◌∙◌, ap, subst, sym}
use Rattle.kind_tables.specs.Walks.{visited}
use Rattle.device_parts.proofs.ShownFacts.{few_seen, handles_seen, world_shown}
use Rattle.device_parts.proofs.renders.build_of.Goals as goal
use Rattle.world_snapshot.specs.Worlds.{IsShownBy}

pub prepare_visited-requires : goal.prepare_visited-requires
prepare_visited-requires g c = few_seen (g.O.Objects.objects c.args.state.now) c.args.frame c.args.visits.now c.requires.granted

pub returns : goal.returns
returns g c =
    let objects = g.O.Objects.objects c.args.state.now in
    record {
      world = c.requires.world;
      reach = c.in_ok-reach.ensures ∙ sym (handles_seen objects c.in_ok-reached.reached) ∙ ap visited c.in_ok-reached.ensures.seen;
      shown = world_shown objects c.args.frame c.args.world c.args.visits.now c.requires.granted c.requires.world c.in_ok-prepared.prepared
          (subst (λ visits. IsShownBy objects visits c.in_ok-prepared.prepared) c.requires.granted.seen c.in_ok-prepared.ensures.shown);
    }
