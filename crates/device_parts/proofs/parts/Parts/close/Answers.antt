use Rattle.std.proofs.Common.{◌∙◌, ◌++◌, sym, ap, subst}
use Rattle.seq_model.specs.Builds.{builds}
use Rattle.seq_model.specs.Legal.{Legal}
use Rattle.seq_model.specs.Told.{told}
use Rattle.device_parts.specs.AllParts.{Inside}
use Rattle.device_parts.proofs.CloseFacts.{close_builds, close_legal, close_tells}
use Rattle.device_parts.proofs.parts.Parts.close.Goals as goal

pub returns-clause-legal : goal.returns-clause-legal
returns-clause-legal g c =
    let old : Inside = record { objects = c.self.inside.objects; flights = c.self.inside.flights; worlds = c.self.inside.worlds; history = c.self.inside.journal.items; room = c.self.inside.journal.room; builds = c.self.inside.builds } in
    subst Legal (sym (c.into_entries.ensures ∙ c.push_reserved.ensures.items)) (close_legal old c.self.invariant (ap (λ (i : Inside). i.flights.future.flights) c.self.view_is ∙ c.requires.landed))

pub returns-clause-builds : goal.returns-clause-builds
returns-clause-builds g c =
    let old : Inside = record { objects = c.self.inside.objects; flights = c.self.inside.flights; worlds = c.self.inside.worlds; history = c.self.inside.journal.items; room = c.self.inside.journal.room; builds = c.self.inside.builds } in
    close_builds old c.self.invariant (ap (λ (i : Inside). i.flights.future.flights) c.self.view_is ∙ c.requires.landed) ∙ ap builds (sym (c.into_entries.ensures ∙ c.push_reserved.ensures.items))

pub returns-clause-told : goal.returns-clause-told
returns-clause-told g c = λ before is.
    let old : Inside = record { objects = c.self.inside.objects; flights = c.self.inside.flights; worlds = c.self.inside.worlds; history = c.self.inside.journal.items; room = c.self.inside.journal.room; builds = c.self.inside.builds } in
    close_tells old c.self.invariant (ap (λ (i : Inside). i.flights.future.flights) c.self.view_is ∙ c.requires.landed) (g.C.Client.notices c.args.client.now) (g.C.Client.notices c.close.new.client) before
    c.close.ensures.told (is ∙ ap (λ (i : Inside). before ++ told i.history) (sym c.self.view_is))
    ∙ ap (λ h. before ++ told h) (sym (c.into_entries.ensures ∙ c.push_reserved.ensures.items))
