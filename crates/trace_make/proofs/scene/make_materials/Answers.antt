use Rattle.trace_make.specs.Calls.{written}
use Rattle.trace_make.proofs.Ranges.{one_then}
use Rattle.trace_make.proofs.scene.make_materials.Goals as goal

pub returns : goal.returns
returns c =
    (one_then (written c.args.calls.now) (written c.make_of.new.self) _ _ _ c.in_ok-make_of.ensures
    (one_then (written c.make_of.new.self) (written c.set_numbers.new.self) _ _ _ c.in_ok-set_numbers.ensures
    (one_then (written c.set_numbers.new.self) (written c.commit.new.self) _ _ _ c.in_ok-commit.ensures
    c.in_ok-make_of-2.ensures)))
