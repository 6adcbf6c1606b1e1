use Rattle.std.proofs.Common.{◌∙◌, ap, sym}
use Rattle.device_parts.proofs.ShownFacts.{few_seen, frame_shown, kept_shown}
use Rattle.device_parts.proofs.renders.prepared_for.Goals as goal
use Rattle.device_parts.specs.AllParts.{shown_by}

pub prepare_visited-requires : goal.prepare_visited-requires
prepare_visited-requires g c = few_seen (g.O.Objects.objects c.args.state.now) c.args.frame c.args.visits.now c.requires.granted

pub returns-in-Some-get-clause-shown : goal.returns-in-Some-get-clause-shown
returns-in-Some-get-clause-shown g c =
    let objects = g.O.Objects.objects c.args.state.now in
    frame_shown objects c.args.frame c.in-Some.world c.args.visits.now c.requires.granted (sym c.in-Some.ensures) c.in_ok-share.field-0
    (ap shown_by c.in_ok-share.ensures ∙ kept_shown objects c.args.worlds.now c.in-Some.world c.in-Some-get.kept.now c.requires.kept c.in-Some-get.ensures.value)

pub returns-clause-shown : goal.returns-clause-shown
returns-clause-shown g c =
    frame_shown (g.O.Objects.objects c.args.state.now) c.args.frame c.in_ok-build.build.world c.args.visits.now c.requires.granted c.in_ok-build.ensures.world c.in_ok-share-2.field-0
    (ap shown_by c.in_ok-share-2.ensures ∙ c.in_ok-build.ensures.shown)
