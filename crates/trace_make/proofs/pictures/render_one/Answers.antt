use Rattle.std.proofs.Common.{[], ◌∷◌, ◌++◌, codes, ap, ◌∙◌}
use Rattle.trace_make.specs.Calls.{written, wholes, set_call}
use Rattle.trace_make.proofs.Ranges.{one_then}
use Rattle.trace_make.proofs.pictures.render_one.Goals as goal

pub returns : goal.returns
returns c =
    (one_then (written c.args.calls.now) (written c.set_numbers.new.self) _ _ _ (c.in_ok-set_numbers.ensures ∙ ap (λ zs. written c.args.calls.now ++ set_call c.args.camera.now (codes "position") (codes "SCALAR_VEC3") (wholes zs) ∷ []) (c.deref.ensures.value ∙ c.in_ok-position.ensures))
    (one_then (written c.set_numbers.new.self) (written c.commit.new.self) _ _ _ c.in_ok-commit.ensures
    (one_then (written c.commit.new.self) (written c.render.new.self) _ _ _ c.in_ok-render.ensures
    (one_then (written c.render.new.self) (written c.wait.new.self) _ _ _ c.in_ok-wait.ensures
    c.in_ok-look.ensures))))
