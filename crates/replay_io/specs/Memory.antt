-- A source and a sink in memory, as contracts see them.
use Rattle.std.specs.Prelude.{ℕ, ◌==◌, List, Bool}
use Rattle.std.specs.List.{list_any}
use Rattle.replay_io.specs.Faults.{next_count}

-- a source in memory
pub record SourceState : Type 0 where
  -- the bytes that reads will give
  pub left : List ℕ
  -- how many reads there were
  pub calls : ℕ
  -- the numbers of the reads that fail, counted from 1
  pub failing : List ℕ
  -- how many reads failed
  pub faults : ℕ
  -- the last read that had room, and did not fail, found nothing
  pub ended : Bool

-- a sink in memory
pub record SinkState : Type 0 where
  -- the bytes that writes gave
  pub written : List ℕ
  -- how many writes there were
  pub calls : ℕ
  -- the numbers of the writes that fail, counted from 1
  pub failing : List ℕ
  -- how many writes failed
  pub faults : ℕ

-- whether the call after so many is one of those that fail
abbrev pub is_failing : ℕ → List ℕ → Bool
is_failing calls failing = list_any (λ number. number == next_count calls) failing
