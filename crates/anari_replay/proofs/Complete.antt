-- What a source gave, and that a command which finds a trace is done where nothing fails.
use Rattle.std.proofs.Common.{ℕ, ◌≡◌, ◌<◌, ◌≤◌, ◌∙◌, ◌⊎◌, inl, inr, Bool, true, false, List, [], ◌++◌, Option, Some, None, Result, Ok, Err, refl, sym, ap, length, arith, length-append}
use Rattle.std.specs.Prelude.{cond, nat_lt}
use Rattle.std.specs.Io.KnownBytes.{Consumes}
use Rattle.std.proofs.lemmas.Bool.{cases_lt, lt-ltb}
use Rattle.std.proofs.lemmas.List.{append-nil}
use Rattle.replay_io.specs.Faults.{Rose}
use Rattle.trace_text.specs.Reading.{most_bytes, trace_of}
use Rattle.trace_text.specs.declared.calls.Trace.{Trace}
use Rattle.trace_text.specs.declared.fault.TraceFault.{TraceFault}
use Rattle.anari_replay.specs.Faults.{NoneRose}
use Rattle.anari_replay.specs.Input.{GaveNoMore, HasTrace, IsRefused}
use Rattle.anari_replay.specs.Output.{FindsTrace, IsEnding}
use Rattle.command_words.specs.declared.commands.Command.{Command}
use Rattle.command_words.specs.declared.commands.Command.TheVariants.{Solo, Run, Make, Demo, Describe, Wire, Check, Ring}

-- nothing was read
none_taken : (left : Option (List ℕ)) → Consumes left left []
none_taken None = tt
none_taken (Some bytes) = refl

pub gave_nothing : (left : Option (List ℕ)) → GaveNoMore left left
gave_nothing left = ([], omega arith, none_taken left)

-- bytes that are a trace break no rule, and are no more than a trace may have
is_no_error : (text : Result Trace TraceFault) (trace : Trace) (broken : TraceFault) → text ≡ Ok trace → text ≡ Err broken → ⊥
is_no_error text trace broken ok err = let both : Ok trace ≡ Err broken = sym ok ∙ err in absurd cc

not_too_long : (long : Bool) (fault : TraceFault) (other : Result Trace TraceFault) (trace : Trace) → long ≡ true → cond long (Err fault) other ≡ Ok trace → ⊥
not_too_long true fault other trace is ok = absurd cc
not_too_long false fault other trace is ok = absurd cc

within : (bytes : List ℕ) (trace : Trace) → most_bytes < length bytes → trace_of bytes ≡ Ok trace → ⊥
within bytes trace long ok = not_too_long (nat_lt most_bytes (length bytes)) _ _ trace (lt-ltb most_bytes (length bytes) long) ok

read_of : (all rest bytes : List ℕ) (broken : TraceFault) (trace : Trace) → all ≡ bytes ++ rest → (length bytes ≤ most_bytes → rest ≡ []) → trace_of bytes ≡ Err broken → trace_of all ≡ Ok trace → ⊥
read_of all rest bytes broken trace is whole breaks ok = by (cases_lt most_bytes (length bytes))
  where
    by : (most_bytes < length bytes) ⊎ (length bytes ≤ most_bytes) → ⊥
    by (inl long) = within all trace (omega (arith, long, ap length is, length-append bytes rest)) ok
    by (inr short) =
        let same : all ≡ bytes = is ∙ ap (λ r. bytes ++ r) (whole short) ∙ append-nil bytes in
        is_no_error (trace_of all) trace broken ok (ap trace_of same ∙ breaks)

not_refused : (old new : Option (List ℕ)) (ended : Bool) (fault : Option TraceFault) → HasTrace old → IsRefused old new ended fault → ⊥
not_refused None new ended fault has refused = absurd has
not_refused (Some all) None ended fault has refused = absurd refused.read.taken
not_refused (Some all) (Some rest) ended fault has refused =
    read_of all rest refused.bytes refused.broken has.0 refused.read.taken (λ short. (refused.read.whole short).1) refused.breaks has.1

-- where no write failed, a command that reads nothing was done, or there was no memory
no_write : (writes now status : ℕ) → (status ≡ 0) ⊎ (status ≡ 3) ⊎ (status ≡ 5) → (status ≡ 5 → Rose writes now) → NoneRose writes now → (status ≡ 0) ⊎ (status ≡ 3)
no_write writes now status (inl done) write still = inl done
no_write writes now status (inr (inl short)) write still = inr short
no_write writes now status (inr (inr failed)) write still = absurd (still (write failed))

-- the statuses that are left
pub completes : (command : Option Command) (old new : Option (List ℕ)) (ended : Bool) (fault : Option TraceFault) (reads now writes then_ status : ℕ) →
    IsEnding command status → (status ≡ 4 → Rose reads now) → (status ≡ 5 → Rose writes then_) → (status ≡ 6 → IsRefused old new ended fault) →
    FindsTrace command old → NoneRose reads now → NoneRose writes then_ → (status ≡ 0) ⊎ (status ≡ 3)
completes None old new ended fault reads now writes then_ status ending read write refused finds calm still = absurd finds
completes (Some (Run print workers)) old new ended fault reads now writes then_ status ending read write refused finds calm still = absurd finds
completes (Some Wire) old new ended fault reads now writes then_ status ending read write refused finds calm still = absurd finds
completes (Some Check) old new ended fault reads now writes then_ status ending read write refused finds calm still = absurd finds
completes (Some (Ring slots pictures readers)) old new ended fault reads now writes then_ status ending read write refused finds calm still = absurd finds
completes (Some (Make recipe)) old new ended fault reads now writes then_ status ending read write refused finds calm still = no_write writes then_ status ending write still
completes (Some (Demo recipe)) old new ended fault reads now writes then_ status ending read write refused finds calm still = no_write writes then_ status ending write still
completes (Some Describe) old new ended fault reads now writes then_ status ending read write refused finds calm still = no_write writes then_ status ending write still
completes (Some (Solo print)) old new ended fault reads now writes then_ status ending read write refused finds calm still = by ending
  where
    by : (status ≡ 0) ⊎ (status ≡ 3) ⊎ (status ≡ 4) ⊎ (status ≡ 5) ⊎ (status ≡ 6) → (status ≡ 0) ⊎ (status ≡ 3)
    by (inl done) = inl done
    by (inr (inl short)) = inr short
    by (inr (inr (inl failed))) = absurd (calm (read failed))
    by (inr (inr (inr (inl failed)))) = absurd (still (write failed))
    by (inr (inr (inr (inr broken)))) = absurd (not_refused old new ended fault finds (refused broken))
