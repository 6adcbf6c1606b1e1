use Rattle.std.proofs.Common.{rules, FitsSigned, w64}
use Rattle.std.proofs.lemmas.Int.{to_z-of_z}
use Rattle.trace_make.specs.Scene.{moved_along}
use Rattle.std.proofs.Common.{[], ◌∷◌, ◌++◌, codes, ap, ◌∙◌}
use Rattle.trace_make.specs.Calls.{written, wholes, set_call}
use Rattle.trace_make.proofs.Ranges.{one_then}
use Rattle.trace_make.proofs.scene.make_instance.Goals as goal

pub returns : goal.returns
returns c =
    let fits : FitsSigned w64 c.args.along = search rules in
    (one_then (written c.args.calls.now) (written c.make_of.new.self) _ _ _ c.in_ok-make_of.ensures
    (one_then (written c.make_of.new.self) (written c.set_word.new.self) _ _ _ c.in_ok-set_word.ensures
    (one_then (written c.set_word.new.self) (written c.set_numbers.new.self) _ _ _ (c.in_ok-set_numbers.ensures ∙ ap (λ zs. written c.set_word.new.self ++ set_call c.args.label.now (codes "transform") (codes "SCALAR_MAT34") (wholes zs) ∷ []) (c.deref.ensures.value ∙ c.in_ok-transform.ensures ∙ ap moved_along (to_z-of_z w64 c.args.along fits)))
    (one_then (written c.set_numbers.new.self) (written c.set_number.new.self) _ _ _ c.in_ok-set_number.ensures
    c.in_ok-commit.ensures))))
