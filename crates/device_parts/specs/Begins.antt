-- What a render begins.
use Rattle.std.specs.Prelude.{ℕ, ◌≡◌, ◌==◌, ◌+◌, ◌++◌, ◌∷◌, [], Bool, false, length, Option, None, Some, if◌then◌else◌}
use Rattle.std.specs.Option.{is_some, option_and_then, option_map}
use Rattle.dev_types.specs.Words.{name_of_channel}
use Rattle.dev_types.specs.declared.handles.Channel.{Channel}
use Rattle.flight_books.specs.Kept.{Books, with_future}
use Rattle.frame_future.specs.Channels.{is_asked}
use Rattle.frame_future.specs.Flights.{IsNew, begun}
use Rattle.frame_future.specs.Future.{with_flight}
use Rattle.frame_future.specs.Pixels.{IsSized}
use Rattle.kept_worlds.specs.KeptMaps.{Kept}
use Rattle.kind_tables.specs.SceneObjects.{SceneObjects, object_at, value_named}
use Rattle.seq_model.specs.Pictures.{scene_at}
use Rattle.tile_claims.specs.Parts.{scene_of}
use Rattle.tile_claims.specs.Seats.{key_of, view}
use Rattle.tile_claims.specs.Views.{looked, no_looks}
use Rattle.device_laws.specs.FramesStand.{without_pictures}
use Rattle.device_parts.specs.AllParts.{Inside, scene_of_load}
use Rattle.device_parts.specs.declared.begins.Takeoff.{Takeoff}
use Rattle.device_parts.specs.declared.loads.Load.{Load}
use Rattle.device_parts.specs.declared.renders.Build.{Build}

-- whether a frame asks for a channel
abbrev pub asks_in : SceneObjects → ℕ → Channel → Bool
asks_in objects f c = is_some (option_and_then (λ o. value_named (name_of_channel c) o.committed) (object_at objects f))

-- what is kept of world w, once nothing is kept of a world any more, if there is one
abbrev pub without_world : {P : Type 0} → Option ℕ → ℕ → Option (Kept P) → Option (Kept P)
without_world None w kept = kept
without_world (Some world) w kept = if world == w then None else kept

-- the world that a render prepared, if it prepared one
abbrev pub world_of_build : Option Build → Option ℕ
world_of_build build = option_map (λ b. b.world) build

-- the flights with one that begins with this
abbrev pub with_takeoff : Takeoff → Books Load → Books Load
with_takeoff t b = record {
  future = with_flight b.future (begun t.cargo.ticket t.cargo.frame t.channels t.claims t.seat);
  cargo = b.cargo ++ t.cargo ∷ [];
  over = b.over;
}

-- what a flight of frame f begins with under a ticket: claims of the scene of its load, of which none is
-- claimed, as the one look at them read, nor any claim too late, and the channels for which the frame
-- asks
pub record IsTakeoff (objects : SceneObjects) (ticket f : ℕ) (load : Load) (t : Takeoff) : Type 0 where
  pub cargo : t.cargo ≡ record { ticket = ticket; frame = f; kept = load }
  pub scene : scene_of_load load ≡ Some (scene_of (key_of t.claims))
  pub new : IsNew t.claims t.seat
  pub unclaimed : (view t.seat).claims ≡ looked no_looks 0
  pub in_time : (view t.seat).late ≡ false
  pub sized : IsSized (key_of t.claims)
  pub asked : (c : Channel) → is_asked t.channels c ≡ asks_in objects f c

-- A flight of frame f began: its ticket is the place of its render, its claims are of the scene of the
-- render, at a size that frames may have, and no tile of it is claimed: one look was made at how many
-- are, and it read 0. Nor came a claim of its first seat too late. Of the frames that died no picture is
-- left
pub record HasBegun (f : ℕ) (old new : Inside) : Type 0 where
  pub takeoff : Takeoff
  pub ticket : takeoff.cargo.ticket ≡ length old.history + 1
  pub frame : takeoff.cargo.frame ≡ f
  pub scene : scene_of (key_of takeoff.claims) ≡ scene_at new.history (length old.history + 1)
  pub fresh : IsNew takeoff.claims takeoff.seat
  pub unclaimed : (view takeoff.seat).claims ≡ looked no_looks 0
  pub in_time : (view takeoff.seat).late ≡ false
  pub sized : IsSized (key_of takeoff.claims)
  pub begins : new.flights ≡ with_future (with_takeoff takeoff old.flights)
      (without_pictures (with_takeoff takeoff old.flights).future new.objects.departed)
