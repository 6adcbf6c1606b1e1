-- What looks read of a flight that only its first seat worked on.
use Rattle.std.proofs.Common.{◌≡◌, ◌==◌, ℕ, ◌+◌, Bool, true, List, length, Option, None, sym, ap, arith, ◌∙◌}
use Rattle.tile_claims.specs.declared.seats.Claims.{Claims}
use Rattle.tile_claims.specs.declared.seats.Seat.{Seat}
use Rattle.tile_claims.specs.declared.view.View.{View}
use Rattle.tile_claims.specs.Views.{claimed, IsAlone}
use Rattle.frame_future.specs.Flights.{Flying, awaited, begun, IsNew, IsSound}
use Rattle.frame_future.specs.Future.{IsStop}
use Rattle.frame_future.specs.Reads.{IsRead, is_end}

same : (n : ℕ) → (n == n) ≡ true
same n = grind arith

pub fresh_reads_nothing : (ticket frame : ℕ) (channels : List Bool) (claims : Claims) (s : Seat) (read : ℕ) → IsNew claims s
    → IsRead (begun ticket frame channels claims s) read → read ≡ 0
fresh_reads_nothing ticket frame channels claims s read new is = is.alone (new.first, new.alone) ∙ ap length new.unclaimed

pub idle_claimed : (v : View) → v.opened ≡ None → claimed v ≡ length v.given
idle_claimed v idle = let none : 0 + length v.given ≡ length v.given = omega arith in ap (λ (o : Option ℕ). claimed (record v { opened = o })) idle ∙ none

pub stopped_ends : (f g : Flying) (read : ℕ) → IsSound f → IsAlone f.view → IsStop f g → IsRead g read → is_end g read ≡ true
stopped_ends f g read sound alone stop is =
    let given : length g.view.given ≡ length f.view.given = ap (λ (h : Flying). length h.view.given) stop.now in
    let first : g.view.first ≡ true = ap (λ (h : Flying). h.view.first) stop.now ∙ alone.0 in
    let splits : g.view.splits ≡ 0 = ap (λ (h : Flying). h.view.splits) stop.now ∙ alone.1 in
    let waits : awaited g ≡ stop.claims = ap awaited stop.now in
    let read_is : read ≡ stop.claims = is.alone (first, splits) ∙ given ∙ sym (idle_claimed f.view sound.idle) ∙ sym (stop.alone alone) in
    (λ i. read_is i == waits i) ∙ same stop.claims
