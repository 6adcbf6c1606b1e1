-- The reply that a call has on a device that sees no tile before it is done, what it waits for, and how a device ends.
use Rattle.std.specs.Prelude.{ℕ, true, List, Option, None, fold, length}
use Rattle.std.specs.List.{filter, range_with_len}
use Rattle.std.specs.Option.{unwrap_or}
use Rattle.seq_model.specs.Answers.{answer}
use Rattle.seq_model.specs.Life.{has}
use Rattle.seq_model.specs.Refusals.{phase_at}
use Rattle.seq_model.specs.State.{flights, ticket_in}
use Rattle.seq_model.specs.Steps.{Past, step}
use Rattle.seq_model.specs.declared.calls.Call.{Call}
use Rattle.seq_model.specs.declared.calls.Call.TheVariants.{FrameReady}
use Rattle.seq_model.specs.declared.calls.Entry.TheVariants.{Left, Closed}
use Rattle.seq_model.specs.declared.calls.Reply.{Reply}
use Rattle.seq_model.specs.declared.calls.Reply.TheVariants as reply

-- the reply to a call
abbrev pub reply_to : Past → Call → Reply
reply_to past call = unwrap_or (answer past call) reply.Done

-- the flight that a call waits for (ANARI 1.0 Specification, rendering frames)
abbrev pub waited_flight : Past → Call → Option ℕ
waited_flight past (FrameReady h true) = ticket_in (phase_at past h)
waited_flight past _ = None

-- the flights of a past, by rising ticket
abbrev pub open_flights : Past → List ℕ
open_flights past = filter (λ t. has t (flights past.state)) (range_with_len 1 (length past.seen))

-- at the end each flight leaves, by rising ticket, and the device is closed
abbrev pub ended : Past → Past
ended past = step (fold (λ p t. step p (Left t)) past (open_flights past)) Closed
