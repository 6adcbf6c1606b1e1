use Rattle.std.proofs.Common.{arith, ◌≡◌, ◌*◌, map, ap, sym, ◌∙◌}
use Rattle.serde_json.specs.View.{view}
use Rattle.trace_make.specs.Calls.{list}
use Rattle.trace_make.specs.Draws.{state_after}
use Rattle.trace_make.specs.Pictures.{camera_label, frame_label, labelled_calls, caller_calls}
use Rattle.trace_make.proofs.Ranges.{listed_of, moved_by}
use Rattle.trace_make.proofs.pictures.all_callers.Goals as goal

pub loop-q-init : goal.loop-q-init
unfolding state_after
loop-q-init c =
    let e : c.args.frames * 0 ≡ 0 = omega arith in
    record { callers = ap (map view) c.new-values.ensures.items; moved = ap (state_after c.args.draws.now.state) (sym e) }

pub loop-q-preserved : goal.loop-q-preserved
loop-q-preserved c =
    let x = c.args.draws.now.state in
    let q = c.loop-q.q in
    let before = c.loop-q.invariant in
    record {
      callers = listed_of view list (caller_calls x c.args.frames) q _ _ _ before.callers c.in_ok-push.ensures.items
          (c.into_value.ensures ∙ ap list (c.in_ok-calls.ensures.calls ∙ ap (λ s. labelled_calls (camera_label q) (frame_label q) s c.args.frames) before.moved));
      moved = moved_by x q c.args.frames _ _ before.moved c.in_ok-calls.ensures.moved;
    }
