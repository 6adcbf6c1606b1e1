-- Where the claims of a flight are. No public clause cites this module.
use Rattle.std.specs.Prelude.{◌≡◌, ℕ, ◌≤◌, Bool, true, false, Option, List}
use Rattle.tile_claims.specs.declared.view.View.{View}
use Rattle.tile_claims.specs.Parts.{tiles_of}
use Rattle.tile_claims.specs.Seats.{frame_of, view, IsSeatOf}
use Rattle.frame_future.specs.declared.held.Held.{Held}
use Rattle.frame_future.specs.declared.held.Place.{Place}
use Rattle.frame_future.specs.declared.held.Place.TheVariants.{Here, Lent}
use Rattle.frame_future.specs.Flights.{Flying, key_at, number_of, IsSound}

-- the claims with their first seat, as they are or as they were lent
abbrev pub held_in : Place → Held
held_in (Here held) = held
held_in (Lent held) = held.value

abbrev pub is_here : Place → Bool
is_here (Here held) = true
is_here (Lent held) = false

-- a flight by its parts
abbrev pub flying_of : ℕ → ℕ → List Bool → Place → ℕ → Flying
flying_of ticket frame channels place looked =
    let held = held_in place in
    record {
      ticket = ticket;
      frame = frame;
      channels = channels;
      tiles = frame_of held.claims;
      seat = number_of held.seat;
      view = view held.seat;
      looked = looked;
      home = is_here place;
    }

-- what is noted of a flight beside its claims: the number of its tiles, its stop and how many seats it has split off; and there is room for its tiles
pub record IsNoted (f : Flying) (held : Held) (count : ℕ) (claimed : Option ℕ) (others capacity : ℕ) : Type 0 where
  pub sound : IsSound f
  pub seat : IsSeatOf held.claims held.seat
  pub tiles : count ≡ tiles_of (key_at f)
  pub stop : claimed ≡ f.view.stop
  pub handed : others ≡ f.view.splits
  pub room : count ≤ capacity

-- the claims stay, and their first seat now knows this
pub record Moves (old new : Place) (v : View) : Type 0 where
  pub here : is_here new ≡ true
  pub claims : (held_in new).claims ≡ (held_in old).claims
  pub seat : IsSeatOf (held_in new).claims (held_in new).seat
  pub number : number_of (held_in new).seat ≡ number_of (held_in old).seat
  pub view : view (held_in new).seat ≡ v
