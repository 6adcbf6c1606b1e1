use Rattle.std.proofs.Common.{◌≡◌, ◌+◌, ◌++◌, ◌≤◌, List, length}
use Rattle.dev_types.specs.declared.notices.Notice.{Notice}
use Rattle.object_steps.specs.Objects.{tellable}
use Rattle.seq_model.specs.Told.{told}
use Rattle.device_parts.specs.Standing.{IsStanding}
use Rattle.device_parts.proofs.SweepFacts.{IsSweeping}
use Rattle.device_parts.proofs.parts.Parts.sweep.Given as goal

abbrev pub invariant-loop-ticket : goal.invariant-loop-ticket
invariant-loop-ticket g l =
    IsSweeping l.fn.self l.self l.last × (tellable l.self.objects.stored.state ≤ g.C.Client.spare l.client)
    × ((before : List Notice) → g.C.Client.notices l.fn.client ≡ before ++ told l.fn.self.history → g.C.Client.notices l.client ≡ before ++ told l.self.history)
    × (g.C.Client.spare l.fn.client + length (g.C.Client.notices l.fn.client) ≤ g.C.Client.spare l.client + length (g.C.Client.notices l.client))
    × (IsStanding l.fn.self → IsStanding l.self)
    × (length l.self.history + length l.self.flights.future.flights ≡ length l.fn.self.history + length l.fn.self.flights.future.flights)
    × (g.C.Client.spare l.fn.client + tellable l.self.objects.stored.state ≤ g.C.Client.spare l.client + tellable l.fn.self.objects.stored.state)
    × (tellable l.self.objects.stored.state ≤ tellable l.fn.self.objects.stored.state)

abbrev pub decreases-loop-ticket : goal.decreases-loop-ticket
decreases-loop-ticket g l = length l.self.flights.future.flights
