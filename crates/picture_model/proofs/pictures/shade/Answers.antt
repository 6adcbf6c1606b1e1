use Rattle.std.proofs.Common.{◌≡◌, [], ◌+◌, ◌-◌, ◌∙◌, ap, sym, fold, length}
use Rattle.std.specs.List.{filter_map}
use Rattle.picture_model.proofs.HitLists.{hits_from-end, hits_from-none, hits_from-some, hits_from-start}
use Rattle.picture_model.proofs.Nearness.{fold-cons_option, hit_after-near, hit_row-within, nearest-near, unblended-within}
use Rattle.picture_model.proofs.PictureLaws.{finish_blend-spent}
use Rattle.picture_model.specs.Hits.{hit_after, hits_from}
use Rattle.picture_model.specs.Shading.{blend_hit, finish_blend, hit_row, hit_rows, placed, shade, unblended}
use Rattle.picture_model.proofs.pictures.shade.Goals as goal
use Rattle.picture_model.proofs.pictures.shade.Goals.{else-loop-test, then-loop-test+in_default}

pub loop-init : goal.loop-init
unfolding unblended
loop-init c =
    rw c.nearest-next.ensures
    (record {
      value = ap (λ hs. fold (blend_hit c.args.lighting.now c.args.ray.now) unblended (filter_map (hit_row c.args.primitives.now) hs)) (hits_from-start c.args.ray.now c.args.primitives.now);
      size = unblended-within;
      near = nearest-near c.args.ray.now (placed c.args.primitives.now);
    })

pub blend_any-requires-clause-row : goal.blend_any-requires-clause-row
blend_any-requires-clause-row c =
    rw c.hit_row.ensures
    (hit_row-within c.args.primitives.now c.in-Some.hit c.requires.primitives (c.loop.invariant.near c.in-Some.hit c.in-Some.is))

pub loop-preserved : goal.loop-preserved
loop-preserved c =
    let rest = hits_from c.args.ray.now (placed c.args.primitives.now) (length c.args.primitives.now - (c.loop.index + 1)) (hit_after c.args.ray.now (placed c.args.primitives.now) c.in-Some.hit) in
    let before = rw (c.in-Some.is, hits_from-some c.args.ray.now (placed c.args.primitives.now) (length c.args.primitives.now) c.loop.index c.in-Some.hit c.loop-test.true) at c.loop.invariant.value in
    rw (c.hit_after-next.ensures, c.blend_any.ensures.value, c.hit_row.ensures)
    (record {
      value = sym (fold-cons_option c.args.lighting.now c.args.ray.now c.loop.blend (hit_row c.args.primitives.now c.in-Some.hit) (filter_map (hit_row c.args.primitives.now) rest)) ∙ before;
      size = rw (c.blend_any.ensures.value, c.hit_row.ensures) at c.blend_any.ensures.size;
      near = hit_after-near c.args.ray.now (placed c.args.primitives.now) c.in-Some.hit;
    })

pub returns-then-blend-eq0 : goal.returns-then-blend-eq0
unfolding shade
returns-then-blend-eq0 c =
    let rest = hits_from c.args.ray.now (placed c.args.primitives.now) (length c.args.primitives.now - (c.loop.index + 1)) (hit_after c.args.ray.now (placed c.args.primitives.now) c.in-Some.hit) in
    let rows = filter_map (hit_row c.args.primitives.now) rest in
    let before = rw (c.in-Some.is, hits_from-some c.args.ray.now (placed c.args.primitives.now) (length c.args.primitives.now) c.loop.index c.in-Some.hit c.loop-test.true) at c.loop.invariant.value in
    let same : fold (blend_hit c.args.lighting.now c.args.ray.now) c.blend_any.new.blend rows ≡ fold (blend_hit c.args.lighting.now c.args.ray.now) unblended (hit_rows c.args.primitives.now c.args.ray.now) =
    rw (c.blend_any.ensures.value, c.hit_row.ensures)
    (sym (fold-cons_option c.args.lighting.now c.args.ray.now c.loop.blend (hit_row c.args.primitives.now c.in-Some.hit) rows) ∙ before) in
    c.finish_blend.ensures
    ∙ sym (finish_blend-spent c.args.lighting.now c.args.ray.now rows c.blend_any.new.blend c.if-blend-eq0.true)
    ∙ ap (finish_blend c.args.lighting.now) same

pub returns : goal.returns
unfolding shade
returns c =
    let none : hits_from c.args.ray.now (placed c.args.primitives.now) (length c.args.primitives.now - c.loop.index) c.loop.next ≡ [] =
    elim c.loop-test.branch [
      | else-loop-test w ↦ hits_from-end c.args.ray.now (placed c.args.primitives.now) (length c.args.primitives.now) c.loop.index c.loop.next w.loop-test.false
      | then-loop-test+in_default w ↦ rw w.in_default.is (hits_from-none c.args.ray.now (placed c.args.primitives.now) _)
    ] in
    c.finish_blend-2.ensures ∙ ap (finish_blend c.args.lighting.now) (rw none at c.loop.invariant.value)
