-- Why a run ends early, and what each cause says.
use Rattle.std.specs.Prelude.{⊤, List, ℕ, Option, Some, Bool}
use Rattle.replay_io.specs.Faults.{Rose}
use Rattle.replay_io.specs.declared.streams.NotRead.{NotRead}
use Rattle.replay_io.specs.declared.streams.NotRead.TheVariants.{Failed as read-failed, NoMemory as read-no-memory}
use Rattle.replay_io.specs.declared.sink.NotWritten.{NotWritten}
use Rattle.replay_io.specs.declared.sink.NotWritten.TheVariants.{Failed as write-failed, NoMemory as write-no-memory}
use Rattle.trace_text.specs.declared.fault.TraceError.{TraceError}
use Rattle.trace_text.specs.declared.fault.TraceError.TheVariants.{Broken, NoMemory as trace-no-memory}
use Rattle.anari_replay.specs.declared.fault.Fault.{Fault}
use Rattle.anari_replay.specs.declared.fault.Fault.TheVariants.{Words, Memory, Read, Write, Trace}
use Rattle.anari_replay.specs.Input.{IsRefused}

-- why a run ends whose source was not read
abbrev pub read_fault : NotRead → Fault
read_fault read-failed = Read
read_fault read-no-memory = Memory

-- why a run ends whose sink was not written to
abbrev pub write_fault : NotWritten → Fault
write_fault write-failed = Write
write_fault write-no-memory = Memory

-- why a run ends whose trace was not read
abbrev pub trace_fault : TraceError → Fault
trace_fault (Broken fault) = Trace fault
trace_fault trace-no-memory = Memory

-- before anything is written, a replay does not end by its words or by a write; by a trace it does where the bytes that were read break the rule that the fault tells
abbrev pub IsCauseBefore : Option (List ℕ) → Option (List ℕ) → Bool → Fault → Type 0
IsCauseBefore old new ended (Trace fault) = IsRefused old new ended (Some fault)
IsCauseBefore old new ended Write = ⊥
IsCauseBefore old new ended Words = ⊥
IsCauseBefore old new ended Memory = ⊤
IsCauseBefore old new ended Read = ⊤

-- a replay that was made ends only by want of memory or by a write
abbrev pub IsCauseAfter : Fault → Type 0
IsCauseAfter Memory = ⊤
IsCauseAfter Write = ⊤
IsCauseAfter Words = ⊥
IsCauseAfter Read = ⊥
IsCauseAfter (Trace fault) = ⊥

-- no fault was counted
abbrev pub NoneRose : ℕ → ℕ → Type 0
NoneRose before now = Rose before now → ⊥
