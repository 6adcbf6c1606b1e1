-- Which frame is in flight with a ticket.
use Rattle.std.specs.Prelude.{◌≡◌, ℕ, true}
use Rattle.device_laws.specs.Showings.{is_flight, showing_at}
use Rattle.seq_model.specs.State.{State}

-- no object but this is in flight with the ticket
abbrev pub IsOwn : State → ℕ → ℕ → Type 0
IsOwn s t frame = (k : ℕ) → is_flight t (showing_at s k).phase ≡ true → k ≡ frame
