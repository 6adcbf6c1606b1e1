-- The flights that a device keeps are those of its history.
use Rattle.std.specs.Prelude.{◌≡◌, ℕ, ◌==◌, Bool, false, true, List, Some, map, if◌then◌else◌}
use Rattle.std.specs.List.{AllByRecursion}
use Rattle.flight_books.specs.Sweeps.{note}
use Rattle.frame_future.specs.Flights.{Flying, is_stopped}
use Rattle.seq_model.specs.Extensions.{let_follow}
use Rattle.seq_model.specs.Histories.{History, frame_at}
use Rattle.seq_model.specs.Legal.{Legal, is_called}
use Rattle.seq_model.specs.Life.{has}
use Rattle.seq_model.specs.State.{flights}
use Rattle.seq_model.specs.Steps.{after}
use Rattle.seq_model.specs.declared.calls.Entry.{Entry}

-- a flight by its ticket, its frame, and whether it was stopped: what no look at it, no seat of it and no lending of it changes
pub record Run : Type 0 where
  pub ticket : ℕ
  pub frame : ℕ
  pub stopped : Bool

abbrev pub run_of : Flying → Run
run_of f = record { ticket = f.ticket; frame = f.frame; stopped = is_stopped f }

abbrev pub runs_of : List Flying → List Run
runs_of fs = map run_of fs

-- the tickets of runs
abbrev pub tickets_in : List Run → List ℕ
tickets_in runs = map (λ r. r.ticket) runs

-- the runs with those of a frame stopped
abbrev pub stopped_run : ℕ → Run → Run
stopped_run frame r = if r.frame == frame then record { ticket = r.ticket; frame = r.frame; stopped = true } else r

abbrev pub stopped_runs : ℕ → List Run → List Run
stopped_runs frame runs = map (stopped_run frame) runs

-- the note of a run that ends
abbrev pub note_of_run : Run → Entry
note_of_run r = note r.stopped r.ticket

-- the run began by a render of its frame; where its flight was stopped in the history, it was stopped. It may be stopped before a note of the
-- history tells that: that is how a device ends
pub record IsRun (history : History) (r : Run) : Type 0 where
  pub frame : frame_at history r.ticket ≡ Some r.frame
  pub stopped : has r.ticket (after history).state.stopped ≡ true → r.stopped ≡ true

-- the runs are the flights of a history
pub record Flown (history : History) (runs : List Run) : Type 0 where
  pub tickets : (t : ℕ) → has t (flights (after history).state) ≡ has t (tickets_in runs)
  pub each : AllByRecursion (IsRun history) runs

-- notes may follow a history
abbrev pub LetsNotes : History → Type 0
LetsNotes history = (note : Entry) → is_called note ≡ false → let_follow history note ≡ true

-- after notes of flights that ended: they may stand there, others may follow, and these are the runs that are left
pub record IsNoted (history : History) (runs : List Run) : Type 0 where
  pub legal : Legal history
  pub lets : LetsNotes history
  pub flown : Flown history runs
