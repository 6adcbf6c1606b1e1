use Rattle.std.proofs.Common.{◌+◌, ◌≡◌, ◌≤◌, length, arith}
use Rattle.seq_model.specs.Life.{grown, is_root}
use Rattle.seq_model.specs.Steps.{is_reached}
use Rattle.plain_objects.proofs.Rounds.{last_round, ten_rounds, two_rounds}
use Rattle.plain_objects.specs.Counts.{count_at}
use Rattle.plain_objects.proofs.sweeps.mark_live.Goals as goal

pub loop-round-init : goal.loop-round-init
unfolding grown
loop-round-init c = c.mark_roots.ensures

pub loop-round-preserved : goal.loop-round-preserved
loop-round-preserved c =
    let long : length c.loop-round.marks + 1 ≡ c.args.stage.now.next = omega (arith, c.requires.marks, c.mark_roots.auto.marks, c.loop-round.auto.marks) in
    let same : length c.spread.new.marks ≡ length c.loop-round.marks = omega (arith, c.requires.others, c.mark_roots.auto.marks, c.loop-round.auto.marks, c.loop-round.auto.others, c.spread.auto.marks) in
    let again : length c.spread-in-loop-round.new.marks ≡ length c.spread.new.marks = omega (arith, same, c.spread-in-loop-round.auto.marks) in
    two_rounds (is_root (count_at c.args.held.now) (is_reached c.args.reached.now c.args.stage.now)) c.args.stage.now.next c.args.stage.now.objects c.requires.rising c.loop-round._round
    c.loop-round.marks c.spread.new.marks c.spread-in-loop-round.new.marks long same again c.loop-round.invariant c.spread.ensures c.spread-in-loop-round.ensures

pub returns : goal.returns
returns c =
    let end : c.loop-round._round ≡ 5 = omega arith in
    ten_rounds (is_root (count_at c.args.held.now) (is_reached c.args.reached.now c.args.stage.now)) c.args.stage.now.next c.args.stage.now.objects c.requires.rising c.loop-round._round
    c.loop-round.marks end c.loop-round.invariant

pub returns-then-are_same : goal.returns-then-are_same
returns-then-are_same c =
    let long : length c.loop-round.marks + 1 ≡ c.args.stage.now.next = omega (arith, c.requires.marks, c.mark_roots.auto.marks, c.loop-round.auto.marks) in
    let same : length c.spread.new.marks ≡ length c.loop-round.marks = omega (arith, c.requires.others, c.mark_roots.auto.marks, c.loop-round.auto.marks, c.loop-round.auto.others, c.spread.auto.marks) in
    let few : c.loop-round._round ≤ 5 = omega arith in
    last_round (is_root (count_at c.args.held.now) (is_reached c.args.reached.now c.args.stage.now)) c.args.stage.now.next c.args.stage.now.objects c.requires.rising c.loop-round._round
    c.loop-round.marks c.spread.new.marks few long same c.loop-round.invariant c.spread.ensures (c.are_same.ensures c.if-are_same.true)
