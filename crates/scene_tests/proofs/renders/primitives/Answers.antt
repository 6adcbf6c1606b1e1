use Rattle.std.proofs.Common.{◌≡◌, ◌++◌, [], ◌∷◌, arith, length, sym, ◌∙◌, take}
use Rattle.std.proofs.lemmas.List.{length-map, take_all, take_more}
use Rattle.std.proofs.lemmas.Option.{get_or_from_slice_get}
use Rattle.scene_tests.proofs.renders.primitives.Goals as goal

pub loop-i-preserved : goal.loop-i-preserved
loop-i-preserved c =
    let ps = c.args.prepared.now.primitives in
    let primitive = c.primitive.result in
    let count = c.len-i-end.ensures ∙ length-map ps (λ p. (p.place, p.shape)) in
    c.in_ok-push.ensures.items
    ∙ (λ k. c.loop-i.invariant k ++ sym (get_or_from_slice_get ps c.loop-i.i primitive primitive c.primitive.ensures) k ∷ [])
    ∙ sym (take_more ps c.loop-i.i primitive (omega (arith, c.loop-i-test.true, count)))

pub returns : goal.returns
returns c =
    let ps = c.args.prepared.now.primitives in
    let count = c.len-i-end.ensures ∙ length-map ps (λ p. (p.place, p.shape)) in
    c.new.ensures ∙ c.loop-i.invariant ∙ take_all c.loop-i.i ps (omega (arith, c.loop-i-test.false, count))
