use Rattle.std.proofs.Common.{◌≤◌, ◌++◌, ◌∙◌, ap, sym, arith}
use Rattle.std.specs.List.{filter_map}
use Rattle.std.specs.Map.{keys_of}
use Rattle.seq_model.proofs.Keys.{rises_up}
use Rattle.seq_model.specs.State.{State}
use Rattle.seq_model.specs.Told.{end_of_object, gone}
use Rattle.plain_objects.proofs.Ended.{rises}
use Rattle.plain_objects.proofs.Removals.{gone_are_unmarked}
use Rattle.plain_objects.proofs.sweeps.sweep.Goals as goal

pub overflow_sub-handles : goal.overflow_sub-handles
overflow_sub-handles g c =
    let least : 1 ≤ c.next.result = rises_up 1 c.next.result (keys_of c.args.stage.now.objects) (rises 1 c.next.result c.args.stage.now.objects c.next.ensures.rising) in
    omega (arith, least, c.handles.view_is)

pub mark_live-requires-clause-marks : goal.mark_live-requires-clause-marks
mark_live-requires-clause-marks g c =
    let least : 1 ≤ c.next.result = rises_up 1 c.next.result (keys_of c.args.stage.now.objects) (rises 1 c.next.result c.args.stage.now.objects c.next.ensures.rising) in
    omega (arith, least, c.handles.view_is, c.next.ensures.value, c.split_at_mut-marks.ensures.front_len)

pub returns-clause-told : goal.returns-clause-told
returns-clause-told g c =
    let es = c.args.stage.now.objects in
    c.take_unmarked.ensures.told
    ∙ ap (λ fs. g.C.Client.notices c.args.client.now ++ filter_map end_of_object fs)
    (sym (ap (λ (s : State). gone c.args.stage.now s) c.take_unmarked.ensures.stage ∙ gone_are_unmarked c.mark_live.new.marks c.next.result es c.next.ensures.rising))
