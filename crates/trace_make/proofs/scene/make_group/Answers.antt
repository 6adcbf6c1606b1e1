use Rattle.std.proofs.Common.{[], ◌∷◌, ◌++◌, codes, ap, ◌∙◌}
use Rattle.trace_make.specs.Calls.{written, array_call}
use Rattle.trace_make.proofs.Ranges.{one_then}
use Rattle.trace_make.proofs.scene.make_group.Goals as goal

pub returns : goal.returns
returns c =
    (one_then (written c.args.calls.now) (written c.make_array.new.self) _ _ _ (c.in_ok-make_array.ensures ∙ ap (λ v. written c.args.calls.now ++ array_call (codes "a") (codes "SURFACE") 2 (codes "captured") 4 v ∷ []) c.in_ok-surfaces.ensures)
    (one_then (written c.make_array.new.self) (written c.make.new.self) _ _ _ c.in_ok-make.ensures
    (one_then (written c.make.new.self) (written c.set_word.new.self) _ _ _ c.in_ok-set_word.ensures
    c.in_ok-commit.ensures)))
