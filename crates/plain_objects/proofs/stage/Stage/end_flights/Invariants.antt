use Rattle.std.proofs.Common.{◌≡◌}
use Rattle.seq_model.specs.Steps.{end_flight}
use Rattle.plain_objects.specs.Shown.{phase_of}
use Rattle.plain_objects.proofs.Ended.{changed_below}
use Rattle.plain_objects.proofs.stage.Stage.end_flights.Given as goal

-- the objects below h are changed
abbrev pub invariant-loop-h : goal.invariant-loop-h
invariant-loop-h l = record {
  changed : l.self.objects ≡ changed_below (end_flight l.ticket (phase_of l.shows)) l.h l.initial.self.objects;
  stopped : l.self.stopped ≡ l.initial.self.stopped;
  next : l.self.next ≡ l.initial.self.next;
}
