use Rattle.trace_make.specs.Calls.{written}
use Rattle.trace_make.proofs.Ranges.{one_then}
use Rattle.trace_make.proofs.scene.make_world.Goals as goal

pub returns : goal.returns
returns c =
    (one_then (written c.args.calls.now) (written c.make.new.self) _ _ _ c.in_ok-make.ensures
    (one_then (written c.make.new.self) (written c.set_word.new.self) _ _ _ c.in_ok-set_word.ensures
    (one_then (written c.set_word.new.self) (written c.set_word-2.new.self) _ _ _ c.in_ok-set_word-2.ensures
    (one_then (written c.set_word-2.new.self) (written c.commit.new.self) _ _ _ c.in_ok-commit.ensures
    (one_then (written c.commit.new.self) (written c.make-2.new.self) _ _ _ c.in_ok-make-2.ensures
    (one_then (written c.make-2.new.self) (written c.set_number.new.self) _ _ _ c.in_ok-set_number.ensures
    c.in_ok-commit-2.ensures))))))
