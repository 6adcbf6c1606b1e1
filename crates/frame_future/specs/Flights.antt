-- A flight of a frame, as contracts see it.
use Rattle.std.specs.Prelude.{◌≡◌, ℕ, ◌≤◌, ◌^◌, Bool, true, false, List, [], None}
use Rattle.std.specs.Option.{is_some, unwrap_or}
use Rattle.tile_claims.specs.declared.frame.Frame.{Frame as Tiles}
use Rattle.tile_claims.specs.declared.key.Key.{Key}
use Rattle.tile_claims.specs.declared.seats.Claims.{Claims}
use Rattle.tile_claims.specs.declared.seats.Seat.{Seat}
use Rattle.tile_claims.specs.declared.view.View.{View}
use Rattle.tile_claims.specs.Parts.{tiles_of}
use Rattle.tile_claims.specs.Rule.{HasSeenAll, HasSeenStopped}
use Rattle.tile_claims.specs.Seats.{frame_of, view, IsSeatOf}
use Rattle.tile_claims.specs.Views.{looking_at_claims, looking_at_gives, stopping, splitting}
use Rattle.frame_future.specs.Pixels.{IsSized}

-- A flight, or one that was stopped: its ticket, its frame and the channels that it was asked for; the words, the slots and the key of its
-- claims; the number of their first seat and what that seat knows; what the last look read as given, 0 before the first; and whether the
-- claims are here, and not lent
pub record Flying : Type 0 where
  pub ticket : ℕ
  pub frame : ℕ
  pub channels : List Bool
  pub tiles : Tiles
  pub seat : ℕ
  pub view : View
  pub looked : ℕ
  pub home : Bool

-- what it shows, once it is done
abbrev pub key_at : Flying → Key
key_at f = f.tiles.table.shared.key

-- it was stopped
abbrev pub is_stopped : Flying → Bool
is_stopped f = is_some f.view.stop

-- how many given tiles it waits for: all, or as many as were claimed when it was stopped
abbrev pub awaited : Flying → ℕ
awaited f = unwrap_or f.view.stop (tiles_of (key_at f))

-- the number of a seat at the table of its claims
abbrev pub number_of : Seat → ℕ
number_of s = s.seat.id

-- a flight as it begins
abbrev pub begun : ℕ → ℕ → List Bool → Claims → Seat → Flying
begun ticket frame channels claims seat = record {
  ticket = ticket;
  frame = frame;
  channels = channels;
  tiles = frame_of claims;
  seat = number_of seat;
  view = view seat;
  looked = 0;
  home = true;
}

-- its first seat has looked at the count of given tiles; it was stopped
abbrev pub looked_at : ℕ → Flying → Flying
looked_at read f = record f { view = looking_at_gives f.view read; looked = read }

abbrev pub stopped_at : ℕ → Flying → Flying
stopped_at claimed f = record f { view = stopping f.view claimed }

-- its first seat has looked at the count of claimed tiles, which was this, and has then split off a seat
abbrev pub asked_at : ℕ → Flying → Flying
asked_at read f = record f { view = looking_at_claims f.view read }

abbrev pub handed_at : ℕ → Flying → Flying
handed_at read f = record f { view = splitting (looking_at_claims f.view read) }

-- its claims are lent with their first seat; they came back
abbrev pub away : Flying → Flying
away f = record f { home = false }

abbrev pub back : Seat → Flying → Flying
back s f = record f { view = view s; home = true }

-- What holds of each flight: its first seat has no open tile and has collected none, and has split off 2^20 seats at most
pub record IsSound (f : Flying) : Type 0 where
  pub sized : IsSized (key_at f)
  pub keyed : f.view.key ≡ key_at f
  pub first : f.view.first ≡ true
  pub idle : f.view.opened ≡ None
  pub whole : f.view.collected ≡ []
  pub few : f.view.splits ≤ 2 ^ 20

-- claims and a seat that a flight may begin with: the first seat, alone and fresh, of a frame's claims
pub record IsNew (claims : Claims) (s : Seat) : Type 0 where
  pub seat : IsSeatOf claims s
  pub first : (view s).first ≡ true
  pub alone : (view s).splits ≡ 0
  pub idle : (view s).opened ≡ None
  pub unclaimed : (view s).given ≡ []
  pub whole : (view s).collected ≡ []
  pub going : (view s).stop ≡ None

-- these are the claims of the flight, with their first seat as it is noted
pub record IsOfFlight (f : Flying) (claims : Claims) (s : Seat) : Type 0 where
  pub table : frame_of claims ≡ f.tiles
  pub seat : IsSeatOf claims s
  pub number : number_of s ≡ f.seat

-- Since it was lent, the seat has split off no seat, has not stopped and has collected nothing, and no tile is open at it. What its looks at the
-- given tiles read has not fallen
pub record IsWorked (f : Flying) (s : Seat) : Type 0 where
  pub first : (view s).first ≡ true
  pub idle : (view s).opened ≡ None
  pub splits : (view s).splits ≡ f.view.splits
  pub stop : (view s).stop ≡ f.view.stop
  pub collected : (view s).collected ≡ f.view.collected
  pub rises : f.view.gives.last ≤ (view s).gives.last

-- the last look of its first seat shows that no tile of it is open: all are given, or as many as were claimed when it was stopped
abbrev pub SeesEnd : Bool → View → Type 0
SeesEnd true v = HasSeenStopped v
SeesEnd false v = HasSeenAll v

abbrev pub HasEnded : Flying → Type 0
HasEnded f = SeesEnd (is_stopped f) f.view
