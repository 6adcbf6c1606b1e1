-- Replies that tell of a flight, and of how many of its tiles.
use Rattle.std.specs.Prelude.{◌≡◌, ℕ}
use Rattle.dev_types.specs.declared.refusals.Refused.TheVariants.{InFlight}
use Rattle.seq_model.specs.Pictures.{tiles_at}
use Rattle.seq_model.specs.Refusals.{phase_at}
use Rattle.seq_model.specs.State.{Flight}
use Rattle.seq_model.specs.Steps.{Past}
use Rattle.seq_model.specs.declared.calls.Reply.{Reply}
use Rattle.seq_model.specs.declared.calls.Reply.TheVariants as reply

-- a reply that tells of a flight tells of none of its tiles given, of so many
abbrev pub TellsNone : (ℕ → Type 0) → Reply → Type 0
TellsNone IsCount (reply.NotReady given of) = (given ≡ 0) × IsCount of
TellsNone IsCount (reply.Denied (InFlight given of)) = (given ≡ 0) × IsCount of
TellsNone IsCount r = Unit {0}

-- object h is a frame in flight, and its flight has so many tiles
abbrev pub HasTilesInFlight : Past → ℕ → ℕ → Type 0
HasTilesInFlight past h of = (t : ℕ) × (phase_at past h ≡ Flight t) × (of ≡ tiles_at past.seen t)

-- the reply with so many tiles given, where it tells of a flight
abbrev pub with_given : ℕ → Reply → Reply
with_given given (reply.NotReady _ of) = reply.NotReady given of
with_given given (reply.Denied (InFlight _ of)) = reply.Denied (InFlight given of)
with_given given r = r
