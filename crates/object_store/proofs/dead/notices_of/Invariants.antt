use Rattle.std.proofs.Common.{◌≡◌, take, length}
use Rattle.std.specs.List.{filter_map}
use Rattle.object_store.specs.Ends.{notice_of}
use Rattle.object_store.proofs.dead.notices_of.Given as goal

abbrev pub invariant-loop-e : goal.invariant-loop-e
invariant-loop-e l = l.count ≡ length (filter_map notice_of (take l.e-index l.ended))
