use Rattle.std.proofs.Common.{◌≡◌, [], ◌+◌, ◌-◌, ◌∙◌, arith, ap, refl, sym, fold, length}
use Rattle.std.specs.List.{filter_map}
use Rattle.picture_model.proofs.HitLists.{hits_from-end, hits_from-none, hits_from-some}
use Rattle.picture_model.proofs.Nearness.{fold-cons_option, hit_after-near, hit_row-within, nearest-near, unblended-within}
use Rattle.picture_model.proofs.PictureLaws.{finish_blend-spent}
use Rattle.picture_model.specs.Hits.{hit_after, hits, hits_from, nearest}
use Rattle.picture_model.specs.Shading.{blend_hit, finish_blend, hit_row, hit_rows, placed, shade, unblended}
use Rattle.tile_render.proofs.pixels.shade.Goals as goal
use Rattle.tile_render.proofs.pixels.shade.Goals.{else-loop-test, then-loop-test+in_default}

pub loop-init : goal.loop-init
unfolding unblended hits
loop-init c =
    let ps = c.args.prepared.now.primitives in
    let ray = c.args.ray.now in
    let all : length (placed ps) - 0 ≡ length (placed ps) = omega arith in
    let start : hits_from ray (placed ps) (length (placed ps) - 0) (nearest ray (placed ps)) ≡ hits ray (placed ps) = rw all refl in
    rw c.requires.first
    (record {
      value = ap (λ hs. fold (blend_hit c.args.lighting.now ray) unblended (filter_map (hit_row ps) hs)) start;
      size = unblended-within;
      near = nearest-near ray (placed ps);
    })

pub blend_any-requires-clause-row : goal.blend_any-requires-clause-row
blend_any-requires-clause-row c =
    rw c.hit_row.ensures
    (hit_row-within c.args.prepared.now.primitives c.in-Some.hit c.requires.primitives (c.loop.invariant.near c.in-Some.hit c.in-Some.is))

pub loop-preserved : goal.loop-preserved
loop-preserved c =
    let ps = c.args.prepared.now.primitives in
    let rest = hits_from c.args.ray.now (placed ps) (length (placed ps) - (c.loop.counter + 1)) (hit_after c.args.ray.now (placed ps) c.in-Some.hit) in
    let before = rw (c.in-Some.is, hits_from-some c.args.ray.now (placed ps) (length (placed ps)) c.loop.counter c.in-Some.hit (omega (arith, c.loop-test.true, c.len-end.ensures))) at c.loop.invariant.value in
    rw (c.next_hit-next.ensures, c.blend_any.ensures.value, c.hit_row.ensures)
    (record {
      value = sym (fold-cons_option c.args.lighting.now c.args.ray.now c.loop.blend (hit_row ps c.in-Some.hit) (filter_map (hit_row ps) rest)) ∙ before;
      size = rw (c.blend_any.ensures.value, c.hit_row.ensures) at c.blend_any.ensures.size;
      near = hit_after-near c.args.ray.now (placed ps) c.in-Some.hit;
    })

pub returns-then-blend-eq0 : goal.returns-then-blend-eq0
unfolding shade
returns-then-blend-eq0 c =
    let ps = c.args.prepared.now.primitives in
    let rest = hits_from c.args.ray.now (placed ps) (length (placed ps) - (c.loop.counter + 1)) (hit_after c.args.ray.now (placed ps) c.in-Some.hit) in
    let rows = filter_map (hit_row ps) rest in
    let before = rw (c.in-Some.is, hits_from-some c.args.ray.now (placed ps) (length (placed ps)) c.loop.counter c.in-Some.hit (omega (arith, c.loop-test.true, c.len-end.ensures))) at c.loop.invariant.value in
    let same : fold (blend_hit c.args.lighting.now c.args.ray.now) c.blend_any.new.blend rows ≡ fold (blend_hit c.args.lighting.now c.args.ray.now) unblended (hit_rows ps c.args.ray.now) =
    rw (c.blend_any.ensures.value, c.hit_row.ensures)
    (sym (fold-cons_option c.args.lighting.now c.args.ray.now c.loop.blend (hit_row ps c.in-Some.hit) rows) ∙ before) in
    c.color_bytes.ensures
    ∙ sym (finish_blend-spent c.args.lighting.now c.args.ray.now rows c.blend_any.new.blend c.if-blend-eq0.true)
    ∙ ap (finish_blend c.args.lighting.now) same

pub returns : goal.returns
unfolding shade
returns c =
    let ps = c.args.prepared.now.primitives in
    let none : hits_from c.args.ray.now (placed ps) (length (placed ps) - c.loop.counter) c.loop.next ≡ [] =
    elim c.loop-test.branch [
      | else-loop-test w ↦ hits_from-end c.args.ray.now (placed ps) (length (placed ps)) c.loop.counter c.loop.next (omega (arith, w.loop-test.false, c.len-end.ensures))
      | then-loop-test+in_default w ↦ rw w.in_default.is (hits_from-none c.args.ray.now (placed ps) _)
    ] in
    c.color_bytes-2.ensures ∙ ap (finish_blend c.args.lighting.now) (rw none at c.loop.invariant.value)
