-- What frames show, and wait for, of the renders of a past.
use Rattle.std.specs.Prelude.{◌≡◌, ◌<◌, ℕ, Some}
use Rattle.std.specs.Option.{MatchOption}
use Rattle.seq_model.specs.Histories.{frame_at}
use Rattle.seq_model.specs.Pictures.{tiles_at}
use Rattle.seq_model.specs.Refusals.{phase_at}
use Rattle.seq_model.specs.State.{Phase, Flight}
use Rattle.seq_model.specs.Steps.{Past}
use Rattle.seq_model.specs.Tickets.{ticket_of}

-- what frame h has to show, or waits for, is one of its own renders
abbrev pub WasRendered : Past → ℕ → Phase → Type 0
WasRendered past h phase = MatchOption (ticket_of phase) (Unit {0}) (λ t. frame_at past.seen t ≡ Some h)

-- every flight of a past has tiles
abbrev pub HaveTiles : Past → Type 0
HaveTiles past = (h t : ℕ) → phase_at past h ≡ Flight t → 0 < tiles_at past.seen t
