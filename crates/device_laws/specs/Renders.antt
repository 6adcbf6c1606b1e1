-- What is kept of a render shows what the render shows.
use Rattle.std.specs.Prelude.{◌≡◌, ℕ, Bool, List}
use Rattle.std.specs.List.{AllByRecursion}
use Rattle.dev_types.specs.declared.handles.Channel.{Channel}
use Rattle.frame_future.specs.Channels.{is_asked}
use Rattle.frame_future.specs.Flights.{key_at}
use Rattle.frame_future.specs.Future.{Future}
use Rattle.seq_model.specs.Histories.{History}
use Rattle.seq_model.specs.Pictures.{has_channel, scene_at}
use Rattle.tile_claims.specs.Parts.{scene_of}
use Rattle.tile_claims.specs.declared.key.Key.{Key}

-- the key's scene is that of the render at place t, and these channels were asked for there
pub record ShowsRender (history : History) (t : ℕ) (key : Key) (channels : List Bool) : Type 0 where
  pub scene : scene_of key ≡ scene_at history t
  pub asked : (c : Channel) → is_asked channels c ≡ has_channel history t c

-- each flight, and each picture, shows the render of its ticket
pub record Renders (history : History) (future : Future) : Type 0 where
  pub flights : AllByRecursion (λ f. ShowsRender history f.ticket (key_at f) f.channels) future.flights
  pub pictures : AllByRecursion (λ p. ShowsRender history p.ticket p.key p.channels) future.pictures
