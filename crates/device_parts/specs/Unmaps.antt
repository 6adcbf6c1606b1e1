-- What the end of a loan of a frame's channel does to the flights and pictures.
use Rattle.std.specs.Prelude.{◌≡◌, ℕ, Some}
use Rattle.dev_types.specs.declared.handles.Channel.{Channel}
use Rattle.frame_future.specs.Future.{loan_ended}
use Rattle.flight_books.specs.Kept.{with_future}
use Rattle.device_laws.specs.FramesStand.{without_pictures}
use Rattle.device_laws.specs.Lent.{loan_in}
use Rattle.seq_model.specs.Refusals.{mapped_at}
use Rattle.seq_model.specs.Steps.{after}
use Rattle.device_parts.specs.AllParts.{Inside}

-- the loan with this number is that of a channel of the frame, and ended; of what died no picture is
-- left
pub record HasUnmapped (h number : ℕ) (old new : Inside) : Type 0 where
  pub channel : Channel
  pub lent : loan_in (mapped_at (after old.history) h) channel ≡ Some number
  pub flights : new.flights ≡ with_future old.flights
      (without_pictures (loan_ended old.flights.future h channel) new.objects.departed)
