use Rattle.std.proofs.Common.{◌≡◌, ℕ, ◌-◌, ◌^◌, ◌<◌, ◌≤◌, true, false}
use Rattle.picture_model.specs.Depths.{is_settled}
use Rattle.picture_model.proofs.depths.sphere_depth.Given as goal

-- no point below `low` is settled, and `high` is, or is the last one
abbrev pub invariant-loop-low : goal.invariant-loop-low
invariant-loop-low l = record {
  ordered : l.low ≤ l.high;
  near : l.high ≤ 2 ^ 32;
  below : (k : ℕ) → k < l.low → is_settled l.ray l.centre l.radius k ≡ false;
  above : l.high < 2 ^ 32 → is_settled l.ray l.centre l.radius l.high ≡ true;
}

abbrev pub decreases-loop-low : goal.decreases-loop-low
decreases-loop-low l = l.high - l.low
