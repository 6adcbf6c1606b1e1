use Rattle.std.proofs.Common.{◌+◌, ◌≡◌, length, arith}
use Rattle.seq_model.specs.Steps.{is_reached}
use Rattle.plain_objects.proofs.Rounds.{roots_marked}
use Rattle.plain_objects.specs.Counts.{count_at}
use Rattle.plain_objects.proofs.sweeps.mark_roots.Goals as goal

pub returns : goal.returns
returns c =
    let long : length c.mark_kept.new.marks + 1 ≡ c.args.stage.now.next = omega (arith, c.requires.marks, c.mark_kept.auto.marks) in
    roots_marked (count_at c.args.held.now) (is_reached c.args.reached.now c.args.stage.now) c.args.stage.now c.mark_kept.new.marks c.mark_flights.new.marks c.requires.rising long
    c.mark_flights.auto.marks (λ i l. c.mark_kept.ensures i (omega (arith, l, c.mark_kept.auto.marks))) c.mark_flights.ensures
