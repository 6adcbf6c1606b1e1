use Rattle.std.proofs.Common.{false, length, ◌<◌, ◌≤◌, arith, sym, ap, ◌∙◌, []}
use Rattle.std.specs.List.{list_all}
use Rattle.std.proofs.lemmas.List.{drop_all}
use Rattle.fx_math.specs.Mat34.{placed}
use Rattle.kind_tables.specs.Ranges.{is_point}
use Rattle.kind_tables.specs.SceneObjects.{vector}
use Rattle.scene_read.proofs.ElementFacts.{count_read}
use Rattle.scene_read.proofs.TestFacts.{list_all_from}
use Rattle.scene_read.specs.Shaped.{vectors_in}
use Rattle.scene_read.proofs.geometry_ranges.are_centres.Goals as goal

pub returns-then-not-is_vertex : goal.returns-then-not-is_vertex
returns-then-not-is_vertex c =
    let within : c.loop-k.k < length (vectors_in c.args.positions.now) = omega (arith, count_read c.args.positions.now, c.count_in-k-end.ensures.value) in
    sym (list_all_from (λ p. is_point (placed c.args.m.now p)) (vectors_in c.args.positions.now) c.loop-k.k (vector []) false within (sym c.is_vertex.ensures ∙ c.if-not-is_vertex.true))
    ∙ c.loop-k.invariant

pub returns : goal.returns
returns c =
    let past : length (vectors_in c.args.positions.now) ≤ c.loop-k.k = omega (arith, count_read c.args.positions.now, c.count_in-k-end.ensures.value) in
    ap (list_all (λ p. is_point (placed c.args.m.now p))) (sym (drop_all c.loop-k.k (vectors_in c.args.positions.now) past)) ∙ c.loop-k.invariant
