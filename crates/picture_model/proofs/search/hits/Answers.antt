use Rattle.std.proofs.Common.{◌++◌, [], ◌∷◌, ◌∙◌, ap, sym, append_assoc, length}
use Rattle.picture_model.proofs.HitLists.{hits_from-end, hits_from-none, hits_from-some, hits_from-start, without_rest}
use Rattle.picture_model.specs.Shading.{placed}
use Rattle.picture_model.proofs.search.hits.Goals as goal
use Rattle.picture_model.proofs.search.hits.Goals.{else-loop-test, then-loop-test+in_default}

pub loop-init : goal.loop-init
loop-init c = rw (c.new-found.ensures.items, c.nearest-next.ensures) (hits_from-start c.args.ray.now c.args.primitives.now)

pub loop-preserved : goal.loop-preserved
loop-preserved c =
    rw (c.in_ok-push.ensures.items, c.hit_after-next.ensures)
    (append_assoc c.loop.found.items (c.in-Some.hit ∷ []) _
    ∙ ap (λ xs. c.loop.found.items ++ xs) (sym (hits_from-some c.args.ray.now (placed c.args.primitives.now) (length c.args.primitives.now) c.loop.index c.in-Some.hit c.loop-test.true))
    ∙ (rw c.in-Some.is at c.loop.invariant))

pub returns : goal.returns
returns c =
    without_rest c.loop.found.items _ (elim c.loop-test.branch [
      | else-loop-test w ↦ hits_from-end c.args.ray.now (placed c.args.primitives.now) (length c.args.primitives.now) c.loop.index c.loop.next w.loop-test.false
      | then-loop-test+in_default w ↦ rw w.in_default.is (hits_from-none c.args.ray.now (placed c.args.primitives.now) _)
    ])
    ∙ c.loop.invariant
