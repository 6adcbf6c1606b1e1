-- Flights that nobody has worked on, and that are stopped.
use Rattle.std.proofs.Common.{◌≡◌, ◌∙◌, true, length, ap, sym}
use Rattle.frame_future.proofs.AloneLaws.{idle_claimed}
use Rattle.frame_future.specs.Flights.{Flying, awaited, is_stopped}
use Rattle.frame_future.specs.Future.{IsStop}
use Rattle.solo_device.specs.Untouched.{IsGiven, IsUntouched}

-- such a flight waits for no tile
pub stopped_given : (f g : Flying) → IsUntouched f → IsStop f g → IsGiven g
stopped_given f g u stop =
    let none : stop.claims ≡ 0 = stop.alone u.alone ∙ idle_claimed f.view u.idle ∙ ap length u.none_given in record {
      alone = (ap (λ (h : Flying). h.view.first) stop.now ∙ u.alone.0, ap (λ (h : Flying). h.view.splits) stop.now ∙ u.alone.1);
      all = ap (λ (h : Flying). length h.view.given) stop.now ∙ ap length u.none_given ∙ sym (ap awaited stop.now ∙ none);
    }

pub stopped_told : (f g : Flying) → IsStop f g → (is_stopped g ≡ true) × (g.ticket ≡ f.ticket)
stopped_told f g stop = (ap is_stopped stop.now, ap (λ (h : Flying). h.ticket) stop.now)
