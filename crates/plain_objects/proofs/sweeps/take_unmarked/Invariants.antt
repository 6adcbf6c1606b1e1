use Rattle.std.proofs.Common.{◌≡◌, ◌≤◌, ◌++◌, length}
use Rattle.plain_objects.specs.Sweeping.{ends_of_unmarked}
use Rattle.plain_objects.proofs.Removals.{kept}
use Rattle.plain_objects.proofs.Turns.{from}
use Rattle.plain_objects.proofs.sweeps.take_unmarked.Given as goal

-- the objects below h that are not marked are gone, and with the ends of the others all is told
abbrev pub invariant-loop-h : goal.invariant-loop-h
invariant-loop-h g l = record {
  objects : l.stage.objects ≡ kept l.marks l.h l.initial.stage.objects;
  stopped : l.stage.stopped ≡ l.initial.stage.stopped;
  next : l.stage.next ≡ l.initial.stage.next;
  told : g.C.Client.notices l.client ++ ends_of_unmarked l.marks (from l.h l.initial.stage.objects) ≡ g.C.Client.notices l.initial.client ++ ends_of_unmarked l.marks l.initial.stage.objects;
  room : length l.stage.objects ≤ g.C.Client.spare l.client;
}
