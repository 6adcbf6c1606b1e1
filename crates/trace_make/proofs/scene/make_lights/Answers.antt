use Rattle.std.proofs.Common.{[], ◌∷◌, ◌++◌, codes, ap, ◌∙◌}
use Rattle.trace_make.specs.Calls.{written, array_call}
use Rattle.trace_make.proofs.Ranges.{one_then}
use Rattle.trace_make.proofs.scene.make_lights.Goals as goal

pub returns : goal.returns
returns c =
    (one_then (written c.args.calls.now) (written c.make_of.new.self) _ _ _ c.in_ok-make_of.ensures
    (one_then (written c.make_of.new.self) (written c.set_numbers.new.self) _ _ _ c.in_ok-set_numbers.ensures
    (one_then (written c.set_numbers.new.self) (written c.commit.new.self) _ _ _ c.in_ok-commit.ensures
    (one_then (written c.commit.new.self) (written c.make_of-2.new.self) _ _ _ c.in_ok-make_of-2.ensures
    (one_then (written c.make_of-2.new.self) (written c.set_numbers-2.new.self) _ _ _ c.in_ok-set_numbers-2.ensures
    (one_then (written c.set_numbers-2.new.self) (written c.set_number.new.self) _ _ _ c.in_ok-set_number.ensures
    (one_then (written c.set_number.new.self) (written c.commit-2.new.self) _ _ _ c.in_ok-commit-2.ensures
    (c.in_ok-make_array.ensures ∙ ap (λ v. written c.commit-2.new.self ++ array_call (codes "e") (codes "LIGHT") 2 (codes "captured") 6 v ∷ []) c.in_ok-lights.ensures))))))))
