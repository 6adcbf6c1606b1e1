use Rattle.std.proofs.Common.{◌≡◌, drop}
use Rattle.call_answers.specs.Named.{block_of}
use Rattle.replay_core.specs.Held.{holding}
use Rattle.replay_core.specs.Loans.{written}
use Rattle.replay_core.specs.Views.{meaning_of}
use Rattle.replay_core.proofs.writes.write_all_lent.Given as goal

-- what is left to write makes the whole of it
abbrev pub invariant-loop-write : goal.invariant-loop-write
invariant-loop-write l =
    holding (written (meaning_of l.labels) (drop l.write-index l.writes) (block_of l.lent.elements)) l.lent
    ≡ holding (written (meaning_of l.labels) l.writes (block_of l.fn.lent.elements)) l.fn.lent
