-- Flights of a history that are over.
use Rattle.std.specs.Prelude.{◌≡◌, ℕ, Bool, false, true, List}
use Rattle.std.specs.Option.{IsSome}
use Rattle.flight_books.specs.Sweeps.{tickets_of}
use Rattle.frame_future.specs.Flights.{Flying}
use Rattle.seq_model.specs.Histories.{History, frame_at}
use Rattle.seq_model.specs.Life.{has}
use Rattle.seq_model.specs.State.{flights}
use Rattle.seq_model.specs.Steps.{after}
use Rattle.seq_model.specs.declared.calls.Entry.{Entry}
use Rattle.seq_model.specs.declared.calls.Entry.TheVariants.{Finished, Left}

-- each render whose flight is gone is that of a flight that is over
abbrev pub AllOver : History → List Flying → Type 0
AllOver history over =
    (t : ℕ) → IsSome (frame_at history t) → has t (flights (after history).state) ≡ false → has t (tickets_of over) ≡ true

-- an entry is the note of a flight that ended
abbrev pub is_note : Entry → Bool
is_note (Finished t) = true
is_note (Left t) = true
is_note e = false
