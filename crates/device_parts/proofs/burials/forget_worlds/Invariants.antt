use Rattle.std.proofs.Common.{◌≡◌, ℕ, take, Bool}
use Rattle.kept_worlds.specs.KeptMaps.{kept_at, reach_at}
use Rattle.kept_worlds.specs.LastKept.{AreKept}
use Rattle.seq_model.specs.Histories.{History}
use Rattle.device_parts.specs.Deaths.{all_but_those, unless_dead}
use Rattle.device_parts.proofs.burials.forget_worlds.Given as goal

abbrev pub invariant-loop-h : goal.invariant-loop-h
invariant-loop-h g l =
    ((w : ℕ) → kept_at l.worlds w ≡ unless_dead (take l.h-index l.dead) w (kept_at l.fn.worlds w))
    × ((history : History) (there : ℕ → Bool) → AreKept there history (reach_at l.fn.worlds) → AreKept (all_but_those (take l.h-index l.dead) there) history (reach_at l.worlds))
