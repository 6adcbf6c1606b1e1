-- As long as its end has not begun, a device's frames stand as its history says.
use Rattle.std.specs.Prelude.{ℕ, List, not, fold}
use Rattle.frame_future.specs.Future.{Future, without_picture}
use Rattle.past_laws.specs.Open.{IsOpen}
use Rattle.seq_model.specs.Histories.{History}
use Rattle.seq_model.specs.Life.{has}
use Rattle.seq_model.specs.declared.calls.Entry.{Entry}
use Rattle.device_laws.specs.Flown.{runs_of}
use Rattle.device_laws.specs.Lent.{AreLent}
use Rattle.device_laws.specs.Renders.{Renders}
use Rattle.device_laws.specs.Standing.{AreLeft, Standing}

-- A call may follow. Which flights were stopped, what frames have to show, and which of their channels are mapped is as the history says; and each
-- flight and each picture shows its render
pub record FramesStand (history : History) (future : Future) : Type 0 where
  pub open_ : IsOpen history
  pub stands : Standing history (runs_of future.flights) future.pictures
  pub shows : Renders history future
  pub lent : AreLent history future.pictures

-- the frames that are in flight or done, without the pictures of some that died
abbrev pub without_pictures : Future → List ℕ → Future
without_pictures s dead = fold without_picture s dead

-- of the objects that were there, an entry leaves those that are not among the dead
abbrev pub LeavesBut : History → Entry → List ℕ → Type 0
LeavesBut history e dead = AreLeft history e (λ h. not (has h dead))
