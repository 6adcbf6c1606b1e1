use Rattle.std.proofs.Common.{◌≡◌, ◌≤◌, ◌<◌, Some, drop, arith, sym, ap, ◌∙◌}
use Rattle.std.proofs.lemmas.List.{drop_all}
use Rattle.dev_types.specs.declared.refusals.Refused.TheVariants.{TooMany}
use Rattle.scene_read.proofs.RefusalFacts.{count_from, count_of_none, over_limit, within_limit}
use Rattle.scene_read.specs.Counted.{count_of, most_of}
use Rattle.scene_read.specs.Starts.{all_seen}
use Rattle.scene_read.proofs.refusals.too_many.Goals as goal

pub overflow_add-count : goal.overflow_add-count
overflow_add-count g c = omega (arith, c.loop-visit.invariant.0, c.most-most.ensures.size, c.count-count.ensures.size)

pub returns-then-count-most : goal.returns-then-count-most
returns-then-count-most g c =
    let total = count_of c.args.limit (g.O.Objects.objects c.args.state.now) (all_seen (g.O.Objects.objects c.args.state.now) c.args.visits.now) in
    let left = count_from c.args.limit (g.O.Objects.objects c.args.state.now) c.args.visits.now c.loop-visit.visit-index c.visit-item.result c.loop-visit-test.true c.visit-item.is in
    let over : most_of c.args.limit < total = omega (arith, c.loop-visit.invariant.1, left, c.most-most.ensures.value, c.count-count.ensures.value) in
    ap (λ n. Some (TooMany n)) c.most-most.ensures.value ∙ sym (over_limit (most_of c.args.limit) total over)

pub loop-visit-preserved : goal.loop-visit-preserved
loop-visit-preserved g c =
    let left = count_from c.args.limit (g.O.Objects.objects c.args.state.now) c.args.visits.now c.loop-visit.visit-index c.visit-item.result c.loop-visit-test.true c.visit-item.is in
    (omega arith, omega (arith, c.loop-visit.invariant.1, left, c.count-count.ensures.value))

pub returns : goal.returns
returns g c =
    let total = count_of c.args.limit (g.O.Objects.objects c.args.state.now) (all_seen (g.O.Objects.objects c.args.state.now) c.args.visits.now) in
    let left : count_of c.args.limit (g.O.Objects.objects c.args.state.now) (all_seen (g.O.Objects.objects c.args.state.now) (drop c.loop-visit.visit-index c.args.visits.now)) ≡ 0 =
    ap (λ visits. count_of c.args.limit (g.O.Objects.objects c.args.state.now) (all_seen (g.O.Objects.objects c.args.state.now) visits)) (drop_all c.loop-visit.visit-index c.args.visits.now c.loop-visit-test.false)
    ∙ count_of_none c.args.limit (g.O.Objects.objects c.args.state.now) in
    let within : total ≤ most_of c.args.limit = omega (arith, c.loop-visit.invariant.0, c.loop-visit.invariant.1, left, c.most-most.ensures.value) in
    sym (within_limit (most_of c.args.limit) total within)
