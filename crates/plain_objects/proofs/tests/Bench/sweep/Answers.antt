use Rattle.std.proofs.Common.{◌+◌, ◌≤◌, length, arith}
use Rattle.std.proofs.lemmas.Grind.{common_steps}
use Rattle.plain_objects.proofs.Ended.{few_entries}
use Rattle.plain_objects.proofs.tests.Bench.sweep.Goals as goal

pub overflow_sub-handles : goal.overflow_sub-handles
overflow_sub-handles c =
    let few : length c.args.self.now.stage.objects + 1 ≤ c.next.result = few_entries 1 c.next.result c.args.self.now.stage.objects c.next.ensures.rising in
    omega (arith, few, c.handles.view_is)

pub sweep-requires-clause-room : goal.sweep-requires-clause-room
sweep-requires-clause-room c =
    let few : length c.args.self.now.stage.objects + 1 ≤ c.next.result = few_entries 1 c.next.result c.args.self.now.stage.objects c.next.ensures.rising in
    omega (arith, few, c.handles.view_is, c.in-Ok.ensures.1, c.in-Ok-reserve.ensures.room)
