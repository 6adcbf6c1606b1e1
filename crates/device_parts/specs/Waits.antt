-- Which frames a call waits for.
use Rattle.std.specs.Prelude.{ℕ, Bool, ◌&&◌, nat_lt}
use Rattle.std.specs.Option.{is_some}
use Rattle.seq_model.specs.Histories.{public}
use Rattle.seq_model.specs.Refusals.{phase_at}
use Rattle.seq_model.specs.State.{ticket_in}
use Rattle.seq_model.specs.Steps.{Past}

-- frame h is in flight, and the application holds it: a call that waits for it is not answered yet
abbrev pub is_waited_for : Past → ℕ → Bool
is_waited_for past h = is_some (ticket_in (phase_at past h)) && nat_lt 0 (public past.seen h)
