use Rattle.std.proofs.Common.{◌≡◌, ◌++◌, map, take, drop}
use Rattle.past_laws.specs.Worlds.{touched_by}
use Rattle.plain_journal.proofs.worlds.touch_each.Given as goal

-- the uses up to the index were told, the others stand as they did
abbrev pub invariant-loop-used : goal.invariant-loop-used
invariant-loop-used l =
    l.used-items ≡ map (λ entry. (entry.0, touched_by l.h entry.1)) (take l.used-index l.fn.uses.items) ++ drop l.used-index l.fn.uses.items
