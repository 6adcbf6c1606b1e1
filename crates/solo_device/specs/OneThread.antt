-- A device with one caller, which finishes a flight before it is asked for.
use Rattle.std.specs.Prelude.{ℕ, Option, None}
use Rattle.std.specs.Option.{option_map_or}
use Rattle.seq_model.specs.Endings.{reply_to}
use Rattle.seq_model.specs.Refusals.{phase_at}
use Rattle.seq_model.specs.State.{ticket_in}
use Rattle.seq_model.specs.Steps.{Past, step}
use Rattle.seq_model.specs.declared.calls.Call.{Call}
use Rattle.seq_model.specs.declared.calls.Call.TheVariants.{DiscardFrame, FrameReady, MapFrame, RenderFrame}
use Rattle.seq_model.specs.declared.calls.Entry.{Entry}
use Rattle.seq_model.specs.declared.calls.Entry.TheVariants.{Called, Finished, Left}
use Rattle.seq_model.specs.declared.calls.Reply.{Reply}
use Rattle.seq_model.specs.declared.calls.Reply.TheVariants as reply

-- the flight of a frame that a call asks for
abbrev pub asked_flight : Past → Call → Option ℕ
asked_flight past (FrameReady h _) = ticket_in (phase_at past h)
asked_flight past (MapFrame h _) = ticket_in (phase_at past h)
asked_flight past (RenderFrame h) = ticket_in (phase_at past h)
asked_flight past _ = None

-- the flight that a discard stops
abbrev pub stopped_flight : Past → Call → Reply → Option ℕ
stopped_flight past (DiscardFrame h) reply.Done = ticket_in (phase_at past h)
stopped_flight past _ _ = None

-- a past with a note on a flight, where there is one
abbrev pub with_note : (ℕ → Entry) → Option ℕ → Past → Past
with_note note t past = option_map_or (λ ticket. step past (note ticket)) t past

-- before a call the flight that it asks for is finished
abbrev pub ready_for : Past → Call → Past
ready_for past call = with_note Finished (asked_flight past call) past

-- one call with its reply, and after it the note on a flight that it stopped
abbrev pub with_call : ℕ → Call → Past → Past
with_call caller call past =
    with_note Left (stopped_flight past call (reply_to past call)) (step past (Called caller call (reply_to past call)))
