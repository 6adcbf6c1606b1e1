use Rattle.std.proofs.Common.{ℕ, ◌+◌, ◌<◌, ◌≡◌, false, get_or}
use Rattle.std.specs.Prelude.{◌||◌, nat_lt}
use Rattle.std.specs.Option.{option_map_or}
use Rattle.seq_model.specs.Life.{loan_count}
use Rattle.seq_model.specs.State.{object_at}
use Rattle.plain_objects.specs.Counts.{count_at}
use Rattle.plain_objects.proofs.sweeps.mark_kept.Given as goal

-- the first marks stand
abbrev pub invariant-loop-i : goal.invariant-loop-i
invariant-loop-i l = (k : ℕ) → k < l.i →
    get_or l.marks k false ≡ (nat_lt 0 (count_at l.held (k + 1)) || option_map_or (λ o. nat_lt 0 (loan_count o)) (object_at l.stage (k + 1)) false)
