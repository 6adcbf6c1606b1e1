-- Nobody has worked on a flight that begins.
use Rattle.std.proofs.Common.{◌≡◌, ◌*◌, ◌<◌, ◌≤◌, ℕ, Bool, false, List, [], ◌∷◌, ◌++◌, arith, refl}
use Rattle.frame_future.specs.Flights.{Flying, IsNew, begun}
use Rattle.frame_future.specs.Pixels.{IsSized}
use Rattle.picture_model.specs.Tiles.{tiles_over}
use Rattle.tile_claims.specs.declared.key.Key.{Key}
use Rattle.tile_claims.specs.declared.seats.Claims.{Claims}
use Rattle.tile_claims.specs.declared.seats.Seat.{Seat}
use Rattle.tile_claims.specs.Parts.{tiles_of}
use Rattle.tile_claims.specs.Seats.{key_of, view}
use Rattle.solo_device.specs.Untouched.{AreUntouched, IsUntouched}

some_over : (n : ℕ) → 1 ≤ n → 1 ≤ tiles_over n
some_over n some = omega (arith, some)

product : (m n : ℕ) → 1 ≤ m → 1 ≤ n → 0 < m * n
product m n some more = grind (arith, some, more)

-- a frame's picture has tiles
pub sized_tiles : (key : Key) → IsSized key → 0 < tiles_of key
sized_tiles key sized =
    product (tiles_over key.w) (tiles_over key.h) (some_over key.w sized.width.least) (some_over key.h sized.height.least)

pub begun_untouched : (ticket frame : ℕ) (channels : List Bool) (claims : Claims) (s : Seat) → IsNew claims s → (view s).late ≡ false → IsSized (key_of claims)
    → IsUntouched (begun ticket frame channels claims s)
begun_untouched ticket frame channels claims s new in_time sized = record {
  alone = (new.first, new.alone);
  idle = new.idle;
  none_given = new.unclaimed;
  in_time = in_time;
  going = new.going;
  none_read = refl;
  some = sized_tiles (key_of claims) sized;
}

pub all_push : (fs : List Flying) (f : Flying) → AreUntouched fs → IsUntouched f → AreUntouched (fs ++ f ∷ [])
all_push [] f all one = (one, tt)
all_push (g ∷ fs) f all one = (all.0, all_push fs f all.1 one)
