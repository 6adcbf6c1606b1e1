-- How many places of a journal each entry takes.
use Rattle.std.specs.Prelude.{ℕ, Bool, true, false}
use Rattle.seq_model.specs.declared.calls.Call.{Call}
use Rattle.seq_model.specs.declared.calls.Call.TheVariants.{UnmapArray, UnmapFrame, UnmapParameterArray}
use Rattle.seq_model.specs.declared.calls.Entry.{Entry}
use Rattle.seq_model.specs.declared.calls.Entry.TheVariants.{Called, Closed, Finished, Left}

-- the most places that a call takes: its own, and that of the note or the unmap which it may owe; an unmap owes nothing
abbrev pub most_of_call : Call → ℕ
most_of_call (UnmapArray _ _ _) = 1
most_of_call (UnmapParameterArray _ _ _ _) = 1
most_of_call (UnmapFrame _ _) = 1
most_of_call call = 2

-- the most places that an entry takes: the place of a note was kept by its render
abbrev pub most_places : Entry → ℕ
most_places (Called _ call _) = most_of_call call
most_places (Finished _) = 0
most_places (Left _) = 0
most_places Closed = 1

-- the entry is the close of the device
abbrev pub is_close : Entry → Bool
is_close Closed = true
is_close e = false
