use Rattle.std.proofs.Common.{◌++◌, [], ◌∷◌, arith, ap, sym, ◌∙◌, take}
use Rattle.std.proofs.lemmas.List.{take_all, take_more}
use Rattle.std.proofs.lemmas.Option.{get_or_from_slice_get}
use Rattle.scene_tests.proofs.renders.copied.Goals as goal

pub loop-i-preserved : goal.loop-i-preserved
loop-i-preserved c =
    let lights = c.args.lights.now in
    let light = c.get.result.now in
    c.in_ok-push.ensures.items
    ∙ (λ k. c.loop-i.invariant k ++ sym (get_or_from_slice_get lights c.loop-i.i light light c.get.ensures) k ∷ [])
    ∙ sym (take_more lights c.loop-i.i light (omega (arith, c.loop-i-test.true, c.len-i-end.ensures)))

pub returns : goal.returns
returns c = c.new.ensures ∙ c.loop-i.invariant ∙ take_all c.loop-i.i c.args.lights.now (omega (arith, c.loop-i-test.false, c.len-i-end.ensures))
