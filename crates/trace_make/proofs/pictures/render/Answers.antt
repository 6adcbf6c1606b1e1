use Rattle.std.proofs.Common.{append-nil, refl, ap, sym, ◌∙◌}
use Rattle.trace_make.specs.Calls.{written}
use Rattle.trace_make.specs.Draws.{next_state, number_of, state_after, draw}
use Rattle.trace_make.specs.Pictures.{picture_calls}
use Rattle.trace_make.proofs.Ranges.{added_of, state-next}
use Rattle.trace_make.proofs.pictures.render.Goals as goal

pub loop-picture-init : goal.loop-picture-init
unfolding state_after
loop-picture-init c = record { pictures = sym (append-nil _); moved = refl }

pub loop-picture-preserved : goal.loop-picture-preserved
unfolding state_after
loop-picture-preserved c =
    let x = c.args.draws.now.state in
    let before = c.loop-picture.invariant in
    let moved = c.draw.ensures.moved ∙ ap next_state before.moved in
    record {
      pictures = added_of (λ f. picture_calls c.args.camera.now c.args.frame.now (draw x f 65536)) c.loop-picture._picture (written c.args.calls.now) _ _ _ before.pictures c.in_ok-render_one.ensures
          (ap (picture_calls c.args.camera.now c.args.frame.now) (c.draw.ensures.drawn ∙ ap (number_of 65536) moved));
      moved = moved ∙ sym (state-next x c.loop-picture._picture);
    }
