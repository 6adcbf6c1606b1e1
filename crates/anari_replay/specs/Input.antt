-- The bytes that a run reads, and what they are.
use Rattle.std.specs.Prelude.{◌≡◌, ◌≤◌, ◌+◌, ℕ, List, length, Option, Some, None, Ok, Err, Bool, true}
use Rattle.std.specs.Io.KnownBytes.{Consumes, IsAtEnd}
use Rattle.replay_core.specs.Solo.{solo}
use Rattle.replay_io.specs.Streams.{ConsumesUpTo}
use Rattle.seq_model.specs.Histories.{History}
use Rattle.trace_text.specs.Reading.{most_bytes, trace_of}
use Rattle.trace_text.specs.declared.calls.Trace.{Trace}
use Rattle.trace_text.specs.declared.fault.TraceFault.{TraceFault}

-- a source gave at most one byte more than a trace may have
abbrev pub GaveNoMore : Option (List ℕ) → Option (List ℕ) → Type 0
GaveNoMore old new = ConsumesUpTo (most_bytes + 1) old new

-- a source tells its bytes, and all that it has left are a trace
abbrev pub HasTrace : Option (List ℕ) → Type 0
HasTrace None = ⊥
HasTrace (Some bytes) = (trace : Trace) × (trace_of bytes ≡ Ok trace)

-- a source gave these bytes, first to last, and was read to its end unless they are one more than a trace may have
pub record WasRead (old new : Option (List ℕ)) (ended : Bool) (bytes : List ℕ) : Type 0 where
  pub taken : Consumes old new bytes
  pub most : length bytes ≤ most_bytes + 1
  pub whole : length bytes ≤ most_bytes → (ended ≡ true) × IsAtEnd new

-- the bytes were read, and the fault tells the first rule that they break
pub record IsRefused (old new : Option (List ℕ)) (ended : Bool) (fault : Option TraceFault) : Type 0 where
  pub bytes : List ℕ
  pub read : WasRead old new ended bytes
  pub broken : TraceFault
  pub breaks : trace_of bytes ≡ Err broken
  pub told : fault ≡ Some broken

-- the bytes are a trace, and the history is what one thread makes of it
pub record IsReplayOf (bytes : List ℕ) (history : History) : Type 0 where
  pub trace : Trace
  pub is_trace : trace_of bytes ≡ Ok trace
  pub replayed : history ≡ solo trace

-- the bytes were read, and the history is their replay
pub record IsReplay (old new : Option (List ℕ)) (ended : Bool) (history : History) : Type 0 where
  pub bytes : List ℕ
  pub read : WasRead old new ended bytes
  pub replay : IsReplayOf bytes history
