-- What each ending of a run comes to.
use Rattle.std.specs.Prelude.{◌≡◌, ◌⊎◌, ⊤, ℕ, Option, Some, None, Result, Ok, Err}
use Rattle.trace_text.specs.declared.fault.TraceFault.{TraceFault}
use Rattle.anari_replay.specs.declared.fault.Fault.{Fault}
use Rattle.anari_replay.specs.declared.fault.Fault.TheVariants.{Words, Memory, Read, Write, Trace}

-- the status that the process ends with
abbrev pub status_of : Result ⊤ Fault → ℕ
status_of (Ok _) = 0
status_of (Err Words) = 2
status_of (Err Memory) = 3
status_of (Err Read) = 4
status_of (Err Write) = 5
status_of (Err (Trace _)) = 6

-- why the trace was refused, where it was
abbrev pub trace_fault_of : Result ⊤ Fault → Option TraceFault
trace_fault_of (Err (Trace fault)) = Some fault
trace_fault_of _ = None

-- with these the words or the trace were refused, or a read failed
abbrev pub IsBeforeReplay : ℕ → Type 0
IsBeforeReplay status = (status ≡ 2) ⊎ (status ≡ 4) ⊎ (status ≡ 6)

-- with these the trace was replayed whole
abbrev pub IsAfterReplay : ℕ → Type 0
IsAfterReplay status = (status ≡ 0) ⊎ (status ≡ 5)

-- with these no more may be written than a part
abbrev pub IsInPart : ℕ → Type 0
IsInPart status = (status ≡ 3) ⊎ (status ≡ 5)
