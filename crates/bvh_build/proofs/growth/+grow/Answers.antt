use Rattle.std.proofs.Common.{◌≡◌, ◌++◌, length, arith, ◌∙◌}
use Rattle.std.proofs.lemmas.List.{take-append-drop}
use Rattle.std.proofs.lemmas.List.Sorted.{length_permutation}
use Rattle.bvh_build.proofs.Growths.{cuts_some, fork_growth, halves_fit, leaf_growth_of, on_ok}
use Rattle.bvh_build.proofs.growth.+grow.Goals as goal

pub returns-then-items-eq1 : goal.returns-then-items-eq1
returns-then-items-eq1 t c = leaf_growth_of c.args.items.now _ _ _ _ c.if-items-eq1.true c.in_ok-push.ensures.items (omega arith)

pub split_at-requires : goal.split_at-requires
split_at-requires t c =
    let l = length_permutation _ _ c.in_ok-sorted.ensures in
    rw c.as_slice.ensures.value (omega arith)

pub grow-requires : goal.grow-requires
grow-requires t c =
    let some = cuts_some (length c.args.items.now) c.args.cuts (omega arith) c.requires.few in
    let fit = halves_fit (length c.args.items.now) c.args.cuts some c.requires.few in
    let front = c.split_at.ensures.front_len in
    let lower = fit.0 in
    (omega arith, (omega arith, (omega arith, omega arith)))

pub grow-requires-2 : goal.grow-requires-2
grow-requires-2 t c =
    let some = cuts_some (length c.args.items.now) c.args.cuts (omega arith) c.requires.few in
    let fit = halves_fit (length c.args.items.now) c.args.cuts some c.requires.few in
    let l = length_permutation _ _ c.in_ok-sorted.ensures in
    let back = rw c.as_slice.ensures.value at c.split_at.ensures.back_len in
    let upper = fit.1 in
    (omega arith, (omega arith, (omega arith, omega arith)))

pub returns : goal.returns
returns t c =
    let some = cuts_some (length c.args.items.now) c.args.cuts (omega arith) c.requires.few in
    let whole : c.split_at.result.0.now ++ c.split_at.result.1.now ≡ c.in_ok-sorted.sorted.items = rw (c.split_at.ensures.front, c.split_at.ensures.back) (take-append-drop _ _ ∙ c.as_slice.ensures.value) in
    on_ok c.grow-2.result
    (λ second. fork_growth c.args.items.now _ _ _ _ _ _ _ _ _ _ c.in_ok-sorted.ensures whole c.bounds_of.ensures c.in_ok-push-2.ensures.items c.in_ok-grow.ensures second (omega arith))
    c.grow-2.ensures
