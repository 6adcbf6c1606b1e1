-- Renders, and the tickets that they are answered with.
use Rattle.std.specs.Prelude.{◌≡◌, ℕ, ◌+◌, ◌++◌, Option, Some, Result, Ok, Err, length}
use Rattle.dev_types.specs.declared.refusals.Refused.{Refused}
use Rattle.dev_types.specs.declared.refusals.Refused.TheVariants.{NoMemory}
use Rattle.device_parts.specs.declared.handed.Handed.{Handed}
use Rattle.device_parts.specs.declared.handed.Handed.TheVariants as handed
use Rattle.seq_model.specs.Histories.{History}
use Rattle.seq_model.specs.declared.calls.Call.{Call}
use Rattle.seq_model.specs.declared.calls.Call.TheVariants.{RenderFrame}
use Rattle.seq_model.specs.declared.calls.Reply.{Reply}
use Rattle.seq_model.specs.declared.calls.Reply.TheVariants as reply
use Rattle.device_calls.specs.Holds.{AddsCall}

-- a step that renders frame h was made, with the ticket that the frame has then: where it is done, that is the
-- place of the call
abbrev pub RendersAt : Result (Reply × Handed) (Refused × Call × Handed) → Option ℕ → ℕ → ℕ → History → History → Type 0
RendersAt (Ok r) ticket actor h old new =
    (adds : AddsCall actor (RenderFrame h) handed.Nothing r.0 r.1 old new) × (r.0 ≡ reply.Done → ticket ≡ Some (length (old ++ adds.first) + 1))
RendersAt (Err e) ticket actor h old new = Unit {0}

-- what a render hands out: its ticket, or why it was refused
abbrev pub ticket_told : Reply → Option ℕ → Result ℕ Refused
ticket_told reply.Done (Some t) = Ok t
ticket_told (reply.Denied refused) ticket = Err refused
ticket_told r ticket = Err NoMemory

-- it is done, and has a ticket, or it is refused
abbrev pub IsTicketed : Reply → Option ℕ → Type 0
IsTicketed reply.Done (Some t) = Unit {0}
IsTicketed (reply.Denied refused) ticket = Unit {0}
IsTicketed r ticket = ⊥
