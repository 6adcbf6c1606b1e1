-- What uses objects that are gone: nothing.
use Rattle.std.specs.Prelude.{◌≡◌, ℕ, List, None, Some, true}
use Rattle.std.specs.List.{find}
use Rattle.std.specs.Option.{is_some}
use Rattle.frame_future.specs.Flights.{Flying, HasEnded}
use Rattle.frame_future.specs.Future.{has_ticket}
use Rattle.kept_worlds.specs.KeptMaps.{reach_at}
use Rattle.seq_model.specs.Life.{has}
use Rattle.seq_model.specs.State.{object_at}
use Rattle.seq_model.specs.Steps.{after, is_reached_by}
use Rattle.device_parts.specs.AllParts.{Inside}

-- each flight that reached an object which is gone is over, and no tile of it is open; and all that
-- a kept world reached at its last render is there
pub record NothingGoneIsUsed (i : Inside) : Type 0 where
  pub flights : (t h : ℕ)
      → object_at i.objects.stored.state h ≡ None
      → is_reached_by (after i.history).reached t h ≡ true
      → (f : Flying) × (find (has_ticket t) i.flights.over ≡ Some f) × HasEnded f
  pub worlds : (w h : ℕ) (reach : List ℕ)
      → reach_at i.worlds w ≡ Some reach
      → has h reach ≡ true
      → is_some (object_at i.objects.stored.state h) ≡ true
