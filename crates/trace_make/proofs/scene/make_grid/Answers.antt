use Rattle.std.proofs.Common.{[], ◌∷◌, ◌++◌, codes, ap, ◌∙◌}
use Rattle.trace_make.specs.Calls.{written, wholes, array_call}
use Rattle.trace_make.proofs.Ranges.{one_then}
use Rattle.trace_make.proofs.scene.make_grid.Goals as goal

pub returns-clause-calls : goal.returns-clause-calls
returns-clause-calls c =
    (one_then (written c.args.calls.now) (written c.make_array.new.self) _ _ _ (c.in_ok-make_array.ensures ∙ ap (λ v. written c.args.calls.now ++ array_call (codes "p") (codes "SCALAR_VEC3") 289 (codes "captured") 1 v ∷ []) (c.in_ok-positions.ensures ∙ ap wholes (c.deref.ensures.value ∙ c.in_ok-vertices.ensures.vertices)))
    (one_then (written c.make_array.new.self) (written c.make_array-2.new.self) _ _ _ (c.in_ok-make_array-2.ensures ∙ ap (λ v. written c.make_array.new.self ++ array_call (codes "t") (codes "UINT32_VEC3") 512 (codes "captured") 2 v ∷ []) (c.in_ok-indices.ensures ∙ ap wholes (c.deref-2.ensures.value ∙ c.in_ok-triangles.ensures)))
    (one_then (written c.make_array-2.new.self) (written c.make_of.new.self) _ _ _ c.in_ok-make_of.ensures
    (one_then (written c.make_of.new.self) (written c.set_word.new.self) _ _ _ c.in_ok-set_word.ensures
    (one_then (written c.set_word.new.self) (written c.set_word-2.new.self) _ _ _ c.in_ok-set_word-2.ensures
    c.in_ok-commit.ensures)))))
