-- What was written, by the status of a run.
use Rattle.std.proofs.Common.{ℕ, List, inl, inr, refl, arith}
use Rattle.std.specs.Prelude.{⊤, Option, Result, Ok, Err, OnOk, OnErr, IsErrOf}
use Rattle.std.proofs.KnownBytes.{Appends-nil}
use Rattle.replay_io.specs.Streams.{AppendsPrefix}
use Rattle.anari_replay.specs.Outcome.{IsAfterReplay, IsInPart, status_of}
use Rattle.anari_replay.specs.declared.fault.Fault.{Fault}
use Rattle.anari_replay.specs.declared.fault.Fault.TheVariants.{Words, Memory, Read, Write, Trace}

-- nothing is some of the first of any bytes
pub nothing_is_first : (written : Option (List ℕ)) (bytes : List ℕ) → AppendsPrefix written written bytes
nothing_is_first written bytes = (0, omega arith, Appends-nil written)

-- what holds at any rate holds of an error
pub on_err : {A E : Type 0} (r : Result A E) (P : Type 0) → P → OnErr r P
on_err (Ok _) P holds = tt
on_err (Err _) P holds = holds

-- after a whole replay all was written, or a write failed
pub after_replay : (written : Result ⊤ Fault) (P : Type 0) → OnOk written P → (IsErrOf written Write → P) → IsAfterReplay (status_of written) → P
after_replay (Ok _) P whole failed after = whole
after_replay (Err Write) P whole failed after = failed refl
after_replay (Err Words) P whole failed (inl is) = absurd cc
after_replay (Err Words) P whole failed (inr is) = absurd cc
after_replay (Err Memory) P whole failed (inl is) = absurd cc
after_replay (Err Memory) P whole failed (inr is) = absurd cc
after_replay (Err Read) P whole failed (inl is) = absurd cc
after_replay (Err Read) P whole failed (inr is) = absurd cc
after_replay (Err (Trace _)) P whole failed (inl is) = absurd cc
after_replay (Err (Trace _)) P whole failed (inr is) = absurd cc

-- where only a part may be written, something went wrong
pub in_part : (written : Result ⊤ Fault) (P : Type 0) → OnErr written P → IsInPart (status_of written) → P
in_part (Ok _) P part (inl is) = absurd cc
in_part (Ok _) P part (inr is) = absurd cc
in_part (Err _) P part is = part
