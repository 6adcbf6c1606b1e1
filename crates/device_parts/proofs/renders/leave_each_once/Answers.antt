use Rattle.std.proofs.lemmas.List.Filters.{dedup_is}
use Rattle.std.proofs.lemmas.List.Kept.{Contains-dedup_nat, Contains-from_dedup}
use Rattle.std.proofs.lemmas.List.Sorted.{Contains-permutation, IsPermutation-sym}
use Rattle.std.proofs.lemmas.Map.Keys.{IsStrictlyIncreasing-dedup, sorted_from_strictly_increasing}
use Rattle.device_parts.proofs.OnceFacts.{each_once}
use Rattle.device_parts.proofs.renders.leave_each_once.Goals as goal

pub returns : goal.returns
returns c =
    let is = dedup_is _ _ _ c.dedup.ensures.filtered in
    let moved = c.sort_unstable.ensures.permutation in
    each_once c.args.handles.now.items c.dedup.new.self.items
    (rw is (sorted_from_strictly_increasing _ (IsStrictlyIncreasing-dedup _ c.sort_unstable.ensures.sorted)))
    (λ h in_old. rw is (Contains-dedup_nat _ h (Contains-permutation _ _ h moved in_old)))
    (λ h in_new. Contains-permutation _ _ h (IsPermutation-sym _ _ moved) (Contains-from_dedup _ _ h (rw is at in_new)))
