use Rattle.std.proofs.Common.{◌∙◌, ap, sym}
use Rattle.std.specs.Prelude.{cond}
use Rattle.kind_tables.specs.Walks.{visited}
use Rattle.device_parts.proofs.ShownFacts.{handles_seen}
use Rattle.device_parts.proofs.renders.load_of.Goals as goal
use Rattle.seq_model.specs.Life.{has}

pub returns-clause-reach : goal.returns-clause-reach
returns-clause-reach g c = λ h.
    let objects = g.O.Objects.objects c.args.state.now in
    c.in_ok-reach.ensures h ∙ ap (λ handles. cond (has h handles) 1 0) (sym (handles_seen objects c.args.visits.now) ∙ ap visited c.requires.granted.seen)

pub returns-clause-scene : goal.returns-clause-scene
returns-clause-scene g c = c.in_ok-view.ensures.scene c.in_ok-prepared.ensures.shown

pub returns-clause-within : goal.returns-clause-within
returns-clause-within g c = c.in_ok-view.ensures.within c.requires.granted.fit c.requires.granted.frame c.requires.granted.sound c.in_ok-prepared.ensures.shown
