use Rattle.std.proofs.Common.{◌≡◌, ◌+◌, ◌≤◌, ◌++◌, length}
use Rattle.std.specs.List.{filter_map}
use Rattle.object_store.specs.Ends.{notice_of}
use Rattle.object_store.proofs.dead.Dead.tell.Given as goal

-- what was told and what is still to be told is all, and there is room for what is still to be told
abbrev pub invariant-loop-ended : goal.invariant-loop-ended
invariant-loop-ended g l = record {
  told : g.C.Client.notices l.client ++ filter_map notice_of l.self.list ≡ g.C.Client.notices l.initial.client ++ filter_map notice_of l.initial.self.list;
  spare : g.C.Client.spare l.client + length (filter_map notice_of l.initial.self.list) ≡ g.C.Client.spare l.initial.client + length (filter_map notice_of l.self.list);
  fits : length (filter_map notice_of l.self.list) ≤ g.C.Client.spare l.client;
  room : l.self.room ≡ l.initial.self.room;
}

abbrev pub decreases-loop-ended : goal.decreases-loop-ended
decreases-loop-ended g l = length l.self.list
