use Rattle.std.proofs.Common.{◌<◌, ◌≤◌, length, arith, sym, ap, ◌∙◌}
use Rattle.std.specs.List.{flat_map}
use Rattle.std.proofs.lemmas.List.{drop_all}
use Rattle.kind_tables.specs.Ranges.{first_broken, triangle_tests}
use Rattle.scene_read.proofs.ElementFacts.{corners_counted}
use Rattle.scene_read.proofs.GeometryFacts.{triangles_from}
use Rattle.scene_read.proofs.TestFacts.{answer_first, no_answer_first}
use Rattle.scene_read.specs.Shaped.{corners_in, triangle_count, vectors_in}
use Rattle.scene_read.proofs.geometry_ranges.broken_triangles.Goals as goal

pub returns-then-is_some : goal.returns-then-is_some
returns-then-is_some c =
    let within : c.loop-k.k < triangle_count c.args.indices.now c.args.positions.now = omega (arith, c.triangle_count-k-end.ensures.value) in
    sym (answer_first c.broken_triangle-broken.result _ (sym c.is_some.ensures ∙ c.if-is_some.true))
    ∙ sym (triangles_from c.args.m.now c.args.positions.now c.args.indices.now c.loop-k.k c.broken_triangle-broken.result within c.broken_triangle-broken.ensures)
    ∙ c.loop-k.invariant

pub loop-k-preserved : goal.loop-k-preserved
loop-k-preserved c =
    let within : c.loop-k.k < triangle_count c.args.indices.now c.args.positions.now = omega (arith, c.triangle_count-k-end.ensures.value) in
    sym (no_answer_first c.broken_triangle-broken.result _ (sym c.is_some.ensures ∙ c.if-is_some.false))
    ∙ sym (triangles_from c.args.m.now c.args.positions.now c.args.indices.now c.loop-k.k c.broken_triangle-broken.result within c.broken_triangle-broken.ensures)
    ∙ c.loop-k.invariant

pub returns : goal.returns
returns c =
    let past : length (corners_in c.args.indices.now c.args.positions.now) ≤ c.loop-k.k = omega (arith, corners_counted c.args.indices.now c.args.positions.now, c.triangle_count-k-end.ensures.value) in
    ap (λ xs. first_broken (flat_map (triangle_tests c.args.m.now (vectors_in c.args.positions.now)) xs)) (sym (drop_all c.loop-k.k (corners_in c.args.indices.now c.args.positions.now) past))
    ∙ c.loop-k.invariant
