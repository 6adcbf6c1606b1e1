-- What a map of a frame's channel tells, and what it does to the flights and pictures.
use Rattle.std.specs.Prelude.{◌≡◌, ℕ, ◌+◌, Bool, true, false, length, Option, Some, None}
use Rattle.dev_types.specs.declared.handles.Channel.{Channel}
use Rattle.flight_books.specs.Kept.{Books, with_future}
use Rattle.frame_future.specs.Future.{Finished, lent_as, loan_from, shown_by, with_picture}
use Rattle.frame_future.specs.Mapped.{Mapped}
use Rattle.kind_tables.specs.Ranges.{type_of_channel}
use Rattle.seq_model.specs.declared.calls.Reply.{Reply}
use Rattle.seq_model.specs.declared.calls.Reply.TheVariants as reply
use Rattle.device_laws.specs.FramesStand.{without_pictures}
use Rattle.device_parts.specs.AllParts.{Inside}
use Rattle.device_parts.specs.declared.loads.Load.{Load}

-- the reply that tells of a mapped channel
abbrev pub told_of : Mapped → Reply
told_of m = reply.Mapped m.width m.height (type_of_channel m.channel) m.bytes

-- the reply refuses the call
abbrev pub is_refused : Reply → Bool
is_refused (reply.Denied refused) = true
is_refused r = false

-- the reply tells of what is lent; where nothing is, it refuses the map
abbrev pub TellsLoan : Option Mapped → Reply → Type 0
TellsLoan (Some loan) r = r ≡ told_of loan
TellsLoan None r = is_refused r ≡ true

-- a channel of the frame's picture was lent under a number, and this is what is lent of it
pub record HasLent (h : ℕ) (channel : Channel) (number : ℕ) (loan : Mapped) (old new : Books Load) : Type 0 where
  pub picture : Finished
  pub shown : shown_by old.future h ≡ Some picture
  pub loan_is : loan ≡ loan_from picture channel number
  pub flights : new ≡ with_future old (with_picture old.future (lent_as picture channel number))

-- a channel of the frame's picture was lent under the place of the entry; of what died no picture
-- is left
pub record HasMapped (h : ℕ) (channel : Channel) (loan : Mapped) (old new : Inside) : Type 0 where
  pub flights : Books Load
  pub lent : HasLent h channel (length old.history + 1) loan old.flights flights
  pub left : new.flights
      ≡ with_future flights (without_pictures flights.future new.objects.departed)
