use Rattle.std.proofs.Common.{◌≤◌, arith}
use Rattle.seq_model.specs.Life.{is_named_by}
use Rattle.plain_objects.specs.Sweeping.{marked}
use Rattle.plain_objects.proofs.Turns.{any_first, any_last, any_next, named_is_any}
use Rattle.plain_objects.proofs.marks.mark_named.Goals as goal

pub loop-h-init : goal.loop-h-init
loop-h-init c = λ last all. any_first (λ es. is_named_by (marked c.args.others.now es)) c.next-next.result c.args.stage.now.objects c.args.marks.now last c.next-next.ensures.rising all

pub loop-h-preserved : goal.loop-h-preserved
loop-h-preserved c = λ last rest.
    c.loop-h.invariant last
    (any_next (λ es. is_named_by (marked c.args.others.now es)) (named_is_any c.args.others.now) c.loop-h.h c.next-next.result c.args.stage.now.objects c.loop-h.marks c.mark_names_at.new.marks last
    c.next-next.ensures.rising c.mark_names_at.auto.marks c.mark_names_at.ensures rest)

pub returns : goal.returns
returns c =
    let over : c.next-next.result ≤ c.loop-h.h = omega (arith, c.next.view_is) in
    c.loop-h.invariant c.loop-h.marks
    (any_last (λ es. is_named_by (marked c.args.others.now es)) (named_is_any c.args.others.now) c.loop-h.h c.next-next.result c.args.stage.now.objects c.loop-h.marks c.next-next.ensures.rising over)
