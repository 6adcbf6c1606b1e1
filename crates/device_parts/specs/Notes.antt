-- What the note of a flight that ended does to the parts of a device.
use Rattle.std.specs.Prelude.{◌≡◌, ◌+◌, ◌++◌, ◌∷◌, [], ℕ, None, Some}
use Rattle.std.specs.List.{filter_map}
use Rattle.flight_books.specs.Kept.{over_by, without}
use Rattle.flight_books.specs.Sweeps.{note}
use Rattle.frame_future.specs.Future.{Future}
use Rattle.frame_future.specs.Reads.{AreSeen}
use Rattle.frame_future.specs.declared.phase.Ended.{Ended}
use Rattle.object_store.specs.Ends.{notice_of}
use Rattle.object_steps.specs.Objects.{tellable}
use Rattle.seq_model.specs.Steps.{after}
use Rattle.seq_model.specs.Told.{told_by}
use Rattle.device_parts.specs.AllParts.{Inside}
use Rattle.device_parts.specs.Deaths.{untold}
use Rattle.device_laws.specs.FramesStand.{without_pictures}

-- The flights above a ticket were looked at up to the first that ended, and that has ticket t. The
-- history grew by its note alone, the flight is over, and of the frames that died no picture is
-- left. The dead of whom nothing was told yet are those of whom the client is to be told, in their
-- order; with those that are left there are as many to be told of as before
pub record HasNoted (last : ℕ) (old new : Inside) (t : ℕ) : Type 0 where
  pub ended : Ended
  pub ticket : ended.ticket ≡ t
  pub looked : Future
  pub seen : AreSeen last old.flights.future looked (Some ended)
  pub grown : new.history ≡ old.history ++ note ended.left t ∷ []
  pub left : new.flights.future ≡ without_pictures looked new.objects.departed
  pub cargo : new.flights.cargo ≡ without t old.flights.cargo
  pub over : new.flights.over ≡ old.flights.over ++ over_by old.flights.future (Some ended)
  pub told : filter_map notice_of new.objects.dead ≡ told_by (after old.history) (note ended.left t)
  pub fewer : tellable new.objects.stored.state + untold new.objects ≡ tellable old.objects.stored.state
  pub room : new.room ≡ old.room

-- all flights above a ticket were looked at, and none ended
pub record HasNotedNothing (last : ℕ) (old new : Inside) : Type 0 where
  pub seen : AreSeen last old.flights.future new.flights.future None
  pub cargo : new.flights.cargo ≡ old.flights.cargo
  pub over : new.flights.over ≡ old.flights.over
  pub rest : new ≡ record old { flights = new.flights }
