-- A flight that nobody has worked on is lent, all its tiles are given at its first seat, and it comes back.
use Rattle.std.proofs.Common.{◌≡◌, ◌∙◌, ◌≤◌, Bool, true, false, cond, List, [], ◌∷◌, None, length, arith, refl, sym, ap, subst}
use Rattle.std.specs.Option.{unwrap_or}
use Rattle.frame_future.specs.Flights.{Flying, IsOfFlight, IsWorked, away, back, key_at}
use Rattle.frame_future.specs.Future.{replaced}
use Rattle.tile_claims.specs.declared.frame.Frame.{Frame}
use Rattle.tile_claims.specs.declared.seats.Claims.{Claims}
use Rattle.tile_claims.specs.declared.seats.Seat.{Seat}
use Rattle.tile_claims.specs.declared.view.View.{View}
use Rattle.tile_claims.specs.Parts.{tiles_of}
use Rattle.tile_claims.specs.Seats.{IsSameSeat, IsSeatOf, key_of, view}
use Rattle.solo_device.specs.Untouched.{IsGiven, IsUntouched}

-- the same place, written twice
pub replaced_again : (p : Flying → Bool) (x y : Flying) (fs : List Flying) → p x ≡ true → replaced p y (replaced p x fs) ≡ replaced p y fs
replaced_again p x y [] passes = refl
replaced_again p x y (f ∷ fs) passes = by (p f) refl (replaced_again p x y fs passes)
  where
    by : (b : Bool) → p f ≡ b → replaced p y (replaced p x fs) ≡ replaced p y fs
        → replaced p y (cond b (x ∷ fs) (f ∷ replaced p x fs)) ≡ cond b (y ∷ fs) (f ∷ replaced p y fs)
    by true is rest = ap (λ b. cond b (y ∷ fs) (x ∷ replaced p y fs)) passes
    by false is rest = ap (λ b. cond b (y ∷ replaced p x fs) (f ∷ replaced p y (replaced p x fs))) is ∙ ap (λ ys. f ∷ ys) rest

module _ (f : Flying) (claims : Claims) (s t : Seat) (u : IsUntouched f) (is_of : IsOfFlight f claims s) (lent : view s ≡ f.view)
    (seat : IsSeatOf claims t) (same : IsSameSeat s t) (now : view t ≡ record (view s) { given = (view t).given; late = true })
    (all : length (view t).given ≡ tiles_of (key_of claims)) where
  knows : view t ≡ record f.view { given = (view t).given; late = true }
  knows = now ∙ ap (λ (v : View). record v { given = (view t).given; late = true }) lent

  pub of_flight : IsOfFlight (away f) claims t
  of_flight = record {
    table = is_of.table;
    seat = seat;
    number = same.number ∙ is_of.number;
  }

  pub was_worked : IsWorked (away f) t
  was_worked = record {
    first = ap (λ (v : View). v.first) knows ∙ u.alone.0;
    idle = ap (λ (v : View). v.opened) knows ∙ u.idle;
    splits = ap (λ (v : View). v.splits) knows;
    stop = ap (λ (v : View). v.stop) knows;
    collected = ap (λ (v : View). v.collected) knows;
    rises = subst (λ n. f.view.gives.last ≤ n) (sym (ap (λ (v : View). v.gives.last) knows)) (omega arith);
  }

  pub all_given : IsGiven (back t (away f))
  all_given = record {
    alone = (ap (λ (v : View). v.first) knows ∙ u.alone.0, ap (λ (v : View). v.splits) knows ∙ u.alone.1);
    all = all ∙ ap (λ (frame : Frame). tiles_of frame.table.shared.key) is_of.table
        ∙ sym (ap (λ stop. unwrap_or stop (tiles_of (key_at f))) (ap (λ (v : View). v.stop) knows ∙ u.going));
  }

  pub not_stopped : (back t (away f)).view.stop ≡ None
  not_stopped = ap (λ (v : View). v.stop) knows ∙ u.going
