use Rattle.std.proofs.Common.{◌≡◌, ◌*◌, [], refl, ap, ◌∙◌, arith}
use Rattle.std.specs.List.{flat_map, range_with_len}
use Rattle.trace_make.specs.Draws.{state_after}
use Rattle.trace_make.specs.Scene.{centre}
use Rattle.trace_make.proofs.Ranges.{added_of, moved_by}
use Rattle.trace_make.proofs.shapes.centres.Goals as goal

pub loop-sphere-init : goal.loop-sphere-init
unfolding state_after
loop-sphere-init c = record { spheres = c.new-numbers.ensures.items; moved = refl }

pub loop-sphere-preserved : goal.loop-sphere-preserved
loop-sphere-preserved c =
    let x = c.args.draws.now.state in
    let before = c.loop-sphere.invariant in
    record {
      spheres = added_of (λ k. centre (state_after x (3 * k))) c.loop-sphere._sphere [] _ _ _ before.spheres c.in_ok-push_centre.ensures.centre (ap centre before.moved);
      moved = moved_by x c.loop-sphere._sphere 3 _ _ before.moved c.in_ok-push_centre.ensures.moved;
    }

pub returns-clause-centres : goal.returns-clause-centres
returns-clause-centres c =
    let e : c.loop-sphere._sphere ≡ 20 = omega arith in
    c.loop-sphere.invariant.spheres ∙ ap (λ n. flat_map (λ k. centre (state_after c.args.draws.now.state (3 * k))) (range_with_len 0 n)) e
