use Rattle.std.proofs.Common.{◌∙◌, sym, ap, subst}
use Rattle.std.specs.Option.{is_some}
use Rattle.kept_worlds.specs.KeptMaps.{reach_at}
use Rattle.kept_worlds.proofs.NowFacts.{kept_reach_lives}
use Rattle.seq_model.specs.State.{State, object_at}
use Rattle.device_laws.proofs.OverFacts.{gone_is_unused}
use Rattle.device_parts.specs.AllParts.{Inside}
use Rattle.device_parts.specs.Uses.{NothingGoneIsUsed}
use Rattle.device_parts.proofs.parts.Parts.use_nothing_gone.Goals as goal

pub returns : goal.returns
returns c =
    let i : Inside = record { objects = c.self.inside.objects; flights = c.self.inside.flights; worlds = c.self.inside.worlds; history = c.self.inside.journal.items; room = c.self.inside.journal.room; builds = c.self.inside.builds } in
    subst NothingGoneIsUsed c.self.view_is (record {
      flights = λ t h gone. gone_is_unused i.history i.flights.over t h c.self.invariant.rest.legal c.self.invariant.over c.frames-flights.ensures.books.over
          (ap (λ (s : State). object_at s h) (sym c.self.invariant.rest.state) ∙ gone);
      worlds = λ w h reach kept reached. ap (λ (s : State). is_some (object_at s h)) c.self.invariant.rest.state
          ∙ kept_reach_lives i.history (reach_at i.worlds) w reach h c.self.invariant.rest.legal c.self.invariant.kept kept reached;
    })
