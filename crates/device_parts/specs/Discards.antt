-- What a discard does to the flights and pictures.
use Rattle.std.specs.Prelude.{◌≡◌, ℕ}
use Rattle.frame_future.specs.Future.{Future, IsDiscarded, flight_of}
use Rattle.device_laws.specs.FramesStand.{without_pictures}
use Rattle.device_parts.specs.AllParts.{Inside}

-- the frame's flight was stopped, or its picture dropped; of what died no picture is left
pub record HasDiscarded (h : ℕ) (old new : Inside) : Type 0 where
  pub discarded : Future
  pub is : IsDiscarded h old.flights.future discarded (flight_of old.flights.future h)
  pub left : new.flights.future ≡ without_pictures discarded new.objects.departed
  pub cargo : new.flights.cargo ≡ old.flights.cargo
  pub over : new.flights.over ≡ old.flights.over
