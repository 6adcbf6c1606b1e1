use Rattle.device_parts.specs.AllParts.{Inside}
use Rattle.device_parts.proofs.StopFacts.{stopped_parts}
use Rattle.device_parts.proofs.parts.Parts.stop_all.Goals as goal

pub invariant_of-self : goal.invariant_of-self
invariant_of-self c =
    let old : Inside = record { objects = c.self.inside.objects; flights = c.self.inside.flights; worlds = c.self.inside.worlds; history = c.self.inside.journal.items; room = c.self.inside.journal.room; builds = c.self.inside.builds } in
    stopped_parts old c.stop_all.new.self c.self.invariant c.stop_all.ensures.stopped
