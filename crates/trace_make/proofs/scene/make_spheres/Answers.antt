use Rattle.std.proofs.Common.{[], ◌∷◌, ◌++◌, codes, ap, ◌∙◌}
use Rattle.trace_make.specs.Calls.{written, wholes, array_call}
use Rattle.trace_make.proofs.Ranges.{one_then}
use Rattle.trace_make.proofs.scene.make_spheres.Goals as goal

pub returns-clause-calls : goal.returns-clause-calls
returns-clause-calls c =
    (one_then (written c.args.calls.now) (written c.make_array.new.self) _ _ _ (c.in_ok-make_array.ensures ∙ ap (λ v. written c.args.calls.now ++ array_call (codes "b") (codes "SCALAR_VEC3") 20 (codes "shared") 3 v ∷ []) (c.in_ok-positions.ensures ∙ ap wholes (c.deref.ensures.value ∙ c.in_ok-centres.ensures.centres)))
    (one_then (written c.make_array.new.self) (written c.make_of.new.self) _ _ _ c.in_ok-make_of.ensures
    (one_then (written c.make_of.new.self) (written c.set_word.new.self) _ _ _ c.in_ok-set_word.ensures
    (one_then (written c.set_word.new.self) (written c.set_number.new.self) _ _ _ c.in_ok-set_number.ensures
    c.in_ok-commit.ensures))))
