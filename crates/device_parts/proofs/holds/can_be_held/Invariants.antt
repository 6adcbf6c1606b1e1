use Rattle.std.proofs.Common.{◌≤◌, ◌+◌, ◌^◌, All, length, take}
use Rattle.object_store.specs.Kept.{number_at}
use Rattle.device_parts.proofs.holds.can_be_held.Given as goal

abbrev pub invariant-loop-h : goal.invariant-loop-h
invariant-loop-h l = All (λ h. number_at l.store.holds h + length l.reach ≤ 2 ^ 40) (take l.h-index l.reach)
