-- What contracts see of claims, of seats and of a tile in hand.
use Rattle.std.specs.Prelude.{◌≡◌, ℕ, ◌<◌, List, [], Some, None, false}
use Rattle.tile_claims.specs.declared.key.Key.{Key}
use Rattle.tile_claims.specs.declared.view.View.{View}
use Rattle.tile_claims.specs.declared.frame.Frame.{Frame}
use Rattle.tile_claims.specs.declared.seats.Claims.{Claims}
use Rattle.tile_claims.specs.declared.seats.Seat.{Seat}
use Rattle.tile_claims.specs.declared.seats.Claim.{Claim}
use Rattle.tile_claims.specs.Parts.{tiles_of, IsSized, IsFilled}
use Rattle.tile_claims.specs.Pixels.{Pixels, IsWhole, with_row as pixels_with_row}

-- the words, the slots and the key of claims: shares of the same claims have the same
abbrev pub frame_of : Claims → Frame
frame_of claims = claims.frame.value

-- the key of claims
abbrev pub key_of : Claims → Key
key_of claims = (frame_of claims).table.shared.key

-- what a seat knows
abbrev pub view : Seat → View
view s = s.seat.me.0

-- the number of a claim's tile, and its pixels
abbrev pub tile_of : Claim → ℕ
tile_of c = c.tile

abbrev pub pixels_of : Claim → Pixels
pixels_of c = c.pixels

-- the seat is one of these claims
pub record IsSeatOf (claims : Claims) (s : Seat) : Type 0 where
  pub table : s.seat.table_id ≡ (frame_of claims).table.shared.table_id
  pub keyed : (view s).key ≡ key_of claims

-- the seat is one of these claims, and has not claimed yet
pub record IsFresh (claims : Claims) (s : Seat) : Type 0 where
  pub seat : IsSeatOf claims s
  pub opened : (view s).opened ≡ None
  pub given : (view s).given ≡ []
  pub collected : (view s).collected ≡ []
  pub in_time : (view s).late ≡ false

-- the same seat, whatever it has come to know
pub record IsSameSeat (s t : Seat) : Type 0 where
  pub table : t.seat.table_id ≡ s.seat.table_id
  pub number : t.seat.id ≡ s.seat.id

-- the claim is of a tile of these claims, and has its size
pub record IsClaimOf (claims : Claims) (c : Claim) : Type 0 where
  pub table : c.of.value.table_id ≡ (frame_of claims).table.shared.table_id
  pub within : tile_of c < tiles_of (key_of claims)
  pub sized : IsSized (key_of claims) (tile_of c) (pixels_of c)
  pub whole : IsWhole (pixels_of c).w (pixels_of c).h (pixels_of c).bytes

-- the claim is this seat's, and of the tile that is open at it
pub record IsOpenAt (s : Seat) (c : Claim) : Type 0 where
  pub table : c.of.value.table_id ≡ s.seat.table_id
  pub number : c.of.value.id ≡ s.seat.id
  pub opened : (view s).opened ≡ Some (tile_of c)

-- the same claim, whatever was written to it
pub record IsSameClaim (c d : Claim) : Type 0 where
  pub tile : tile_of d ≡ tile_of c
  pub seat : d.of ≡ c.of

-- the claim's pixels are its tile's parts of the pictures of the claims' key
abbrev pub IsReady : Claims → Claim → Type 0
IsReady claims c = IsFilled (key_of claims) (tile_of c) (pixels_of c)

-- the claim with other bytes in row y of a channel
abbrev pub with_row : Claim → ℕ → ℕ → List ℕ → Claim
with_row c channel y bytes = record c { pixels = pixels_with_row c.pixels channel y bytes }
