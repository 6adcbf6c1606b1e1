-- What a call does to the parts of a device.
use Rattle.std.specs.Prelude.{◌≡◌, ℕ, Bool, true, false, ◌+◌, ◌≤◌, ◌++◌, ◌∷◌, [], Option, Some, None}
use Rattle.std.specs.List.{filter_map}
use Rattle.flight_books.specs.Kept.{with_future}
use Rattle.kept_worlds.specs.KeptMaps.{kept_at}
use Rattle.object_store.specs.Ends.{notice_of}
use Rattle.object_steps.specs.Objects.{one_if, takes_memory, tellable}
use Rattle.seq_model.specs.Steps.{after}
use Rattle.seq_model.specs.Told.{status_at, told_by}
use Rattle.seq_model.specs.declared.calls.Call.{Call}
use Rattle.seq_model.specs.declared.calls.Call.TheVariants.{Commit, DiscardFrame, UnmapArray, UnmapFrame}
use Rattle.seq_model.specs.declared.calls.Entry.TheVariants.{Called}
use Rattle.seq_model.specs.declared.calls.Reply.{Reply}
use Rattle.seq_model.specs.declared.calls.Reply.TheVariants as reply
use Rattle.device_laws.specs.FramesStand.{without_pictures}
use Rattle.device_parts.specs.AllParts.{Inside}
use Rattle.device_parts.specs.Deaths.{untold}
use Rattle.device_parts.specs.Discards.{HasDiscarded}
use Rattle.device_parts.specs.Unmaps.{HasUnmapped}
use Rattle.device_parts.specs.declared.calls.Move.{Move}
use Rattle.device_parts.specs.declared.calls.Move.TheVariants as move

-- The history grew by this call alone. Behind its status the client is still to be told of the dead,
-- in their order; with those that are left there are as many to be told of as before, and one more
-- where the application gave the memory of an array
pub record HasEntered (actor : ℕ) (call : Call) (r : Reply) (old new : Inside) : Type 0 where
  pub grown : new.history ≡ old.history ++ Called actor call r ∷ []
  pub told : status_at (Called actor call r) ++ filter_map notice_of new.objects.dead
      ≡ told_by (after old.history) (Called actor call r)
  pub fewer : tellable new.objects.stored.state + untold new.objects
      ≡ tellable old.objects.stored.state + one_if (takes_memory call r)
  pub room : old.room ≤ new.room

-- the object that a call touches by its reply, so that worlds that reached it show something else
abbrev pub touched_by : Call → Reply → Option ℕ
touched_by (Commit h) reply.Done = Some h
touched_by (UnmapArray h _ _) reply.Done = Some h
touched_by call r = None

-- nothing changed but for how much there is room
pub record HasRoomMade (old new : Inside) : Type 0 where
  pub kept : (w : ℕ) → kept_at new.worlds w ≡ kept_at old.worlds w
  pub same : new ≡ record old {
    worlds = new.worlds;
    room = new.room;
    objects = record old.objects {
      stored = record old.objects.stored {
        ready = new.objects.stored.ready;
        places = new.objects.stored.places;
      };
    };
  }
  pub grows : old.room ≤ new.room

-- what a call does to a frame by its reply: a discard, or the end of a channel's loan, or neither
abbrev pub move_of : Call → Reply → Move
move_of (DiscardFrame h) reply.Done = move.Discard h
move_of (UnmapFrame h number) reply.Done = move.Unmap h number
move_of call r = move.Nothing

-- the reply tells of no bytes, names or properties: it is copied without memory
abbrev pub is_short : Reply → Bool
is_short reply.Done = true
is_short reply.Ready = true
is_short (reply.NotReady given of) = true
is_short (reply.Denied refused) = true
is_short r = false

-- what becomes of the flights and pictures by it; of what died no picture is left
abbrev pub AreMoved : Move → Inside → Inside → Type 0
AreMoved move.Nothing old new =
    new.flights ≡ with_future old.flights (without_pictures old.flights.future new.objects.departed)
AreMoved (move.Discard h) old new = HasDiscarded h old new
AreMoved (move.Unmap h number) old new = HasUnmapped h number old new
