use Rattle.trace_make.specs.Calls.{written}
use Rattle.trace_make.proofs.Ranges.{one_then}
use Rattle.trace_make.proofs.pictures.open.Goals as goal

pub returns : goal.returns
returns c =
    (one_then (written c.args.calls.now) (written c.make_of.new.self) _ _ _ c.in_ok-make_of.ensures
    (one_then (written c.make_of.new.self) (written c.set_numbers.new.self) _ _ _ c.in_ok-set_numbers.ensures
    (one_then (written c.set_numbers.new.self) (written c.set_number.new.self) _ _ _ c.in_ok-set_number.ensures
    (one_then (written c.set_number.new.self) (written c.make.new.self) _ _ _ c.in_ok-make.ensures
    (one_then (written c.make.new.self) (written c.set_word.new.self) _ _ _ c.in_ok-set_word.ensures
    (one_then (written c.set_word.new.self) (written c.set_word-2.new.self) _ _ _ c.in_ok-set_word-2.ensures
    (one_then (written c.set_word-2.new.self) (written c.set_word-3.new.self) _ _ _ c.in_ok-set_word-3.ensures
    (one_then (written c.set_word-3.new.self) (written c.set_numbers-2.new.self) _ _ _ c.in_ok-set_numbers-2.ensures
    (one_then (written c.set_numbers-2.new.self) (written c.set_word-4.new.self) _ _ _ c.in_ok-set_word-4.ensures
    c.in_ok-commit.ensures)))))))))
