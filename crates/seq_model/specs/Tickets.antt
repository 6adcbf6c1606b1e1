-- Tickets of pictures.
use Rattle.std.specs.Prelude.{ℕ, Option, Some, None}
use Rattle.seq_model.specs.State.{Phase, Empty, Flight, Done}

-- the ticket of the picture that a frame has, or waits for
abbrev pub ticket_of : Phase → Option ℕ
ticket_of (Flight t) = Some t
ticket_of (Done t) = Some t
ticket_of Empty = None
