use Rattle.std.proofs.Common.{ap, ◌∙◌}
use Rattle.trace_make.specs.Draws.{state_after}
use Rattle.trace_make.proofs.Ranges.{state-add}
use Rattle.trace_make.proofs.scene.scene.Goals as goal

pub returns-clause-moved : goal.returns-clause-moved
returns-clause-moved c =
    c.in_ok-make_spheres.ensures.moved ∙ ap (λ s. state_after s 60) c.in_ok-make_grid.ensures.moved ∙ state-add c.args.draws.now.state 289 60
