use Rattle.device_parts.proofs.RenderSteps.{build_known, build_others, build_shown, no_build, on_ok, render_keeps}
use Rattle.device_parts.proofs.renders.keep_build.Goals as goal

pub returns-clause-known : goal.returns-clause-known
returns-clause-known c =
    on_ok c.keep.result (build_known c.args.worlds.now c.keep.new.self c.args.build c.in-Some.build c.in-Some.is) c.keep.ensures.known

pub returns-clause-shown : goal.returns-clause-shown
returns-clause-shown c =
    on_ok c.keep.result (build_shown c.args.worlds.now c.keep.new.self c.args.build c.in-Some.build c.in-Some.is) c.keep.ensures.shown

pub returns-in_default-clause-known : goal.returns-in_default-clause-known
returns-in_default-clause-known c = λ history actor f legal wanted kept.
    render_keeps history actor f c.args.worlds.now legal (no_build history f c.args.worlds.now c.args.build c.in_default.is wanted) kept

pub returns-clause-others : goal.returns-clause-others
returns-clause-others c =
    on_ok c.keep.result (build_others c.args.worlds.now c.keep.new.self c.args.build c.in-Some.build c.in-Some.is _) c.keep.ensures.kept
