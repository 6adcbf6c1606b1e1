use Rattle.std.proofs.Common.{◌≡◌, drop, length}
use Rattle.replay_core.specs.Loans.{written}
use Rattle.replay_core.specs.Views.{meaning_of}
use Rattle.replay_core.proofs.writes.Draft.write_all.Given as goal

-- what is left to write makes the whole of it, of as many bytes
abbrev pub invariant-loop-write : goal.invariant-loop-write
invariant-loop-write l =
    (written (meaning_of l.labels) (drop l.write-index l.writes) l.self ≡ written (meaning_of l.labels) l.writes l.fn.self)
    × (length l.self.bytes ≡ length l.fn.self.bytes)
