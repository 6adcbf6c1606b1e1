use Rattle.device_parts.proofs.EndFacts.{finished_end, stopped_end}
use Rattle.device_parts.proofs.ends.end_flight.Goals as goal

pub returns-then-ended : goal.returns-then-ended
returns-then-ended c = λ place. stopped_end c.args.objects.now c.show_end.new.objects c.let_leave.new.self c.args.ended.now place c.if-ended.true c.show_end.ensures c.let_leave.ensures

pub returns-else-ended : goal.returns-else-ended
returns-else-ended c = λ place. finished_end c.args.objects.now c.show_end-else-ended.new.objects c.args.ended.now place c.if-ended.false c.show_end-else-ended.ensures
