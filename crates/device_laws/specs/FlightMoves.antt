-- Which flights there are after an entry, and which of them were stopped.
use Rattle.std.specs.Prelude.{ℕ, ◌==◌, not, ◌&&◌, ◌||◌, Bool, false, true}
use Rattle.seq_model.specs.Life.{has}
use Rattle.seq_model.specs.Refusals.{phase_at}
use Rattle.seq_model.specs.Steps.{Past}
use Rattle.seq_model.specs.declared.calls.Call.TheVariants.{DiscardFrame, RenderFrame}
use Rattle.seq_model.specs.declared.calls.Entry.{Entry}
use Rattle.seq_model.specs.declared.calls.Entry.TheVariants.{Called, Finished, Left}
use Rattle.seq_model.specs.declared.calls.Reply.TheVariants as reply
use Rattle.device_laws.specs.Showings.{is_flight}

-- whether there is a flight with ticket t after the entry at a place, by whether there was one before: a render begins one, a note ends one
abbrev pub flies_after : ℕ → Entry → ℕ → Bool → Bool
flies_after place (Called _ (RenderFrame f) reply.Done) t flew = (place == t) || flew
flies_after place (Finished u) t flew = not (u == t) && flew
flies_after place (Left u) t flew = not (u == t) && flew
flies_after place e t flew = flew

-- whether the flight with ticket t is stopped after an entry: a discard stops that of its frame, and what left is stopped no more
abbrev pub stopped_after : Past → Entry → ℕ → Bool
stopped_after past (Called _ (DiscardFrame f) reply.Done) t = has t past.state.stopped || is_flight t (phase_at past f)
stopped_after past (Left u) t = not (u == t) && has t past.state.stopped
stopped_after past e t = has t past.state.stopped

-- whether an entry begins, ends or stops a flight
abbrev pub moves_flights : Entry → Bool
moves_flights (Called _ (RenderFrame f) reply.Done) = true
moves_flights (Called _ (DiscardFrame f) reply.Done) = true
moves_flights (Finished u) = true
moves_flights (Left u) = true
moves_flights e = false
