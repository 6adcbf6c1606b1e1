use Rattle.std.proofs.Common.{[], ◌∷◌, ◌++◌, Some, sym, ap, ◌∙◌, subst}
use Rattle.atomic_table.specs.Table.{opening}
use Rattle.turn_lock.specs.Views.{first_view}
use Rattle.turn_lock.specs.Rule.{Kept}
use Rattle.turn_lock.proofs.TurnKept.{starts}
use Rattle.turn_lock.proofs.turn.Turn.new.Goals as goal

pub new-requires : goal.new-requires
new-requires g c =
    let J = g.S.Journaled in
    let given = J.fixed c.of-about.result.value in
    let slots = c.push_reserved.ensures.items ∙ ap (λ l. l ++ Some c.args.state ∷ []) c.in-Ok.ensures.items in
    subst (λ xs. Kept J.history J.fixed J.by given (opening (0 ∷ []) xs (first_view given))) (sym slots)
    (starts J.history J.fixed J.by given c.args.state (ap J.fixed (sym c.of-about.ensures)) c.requires.uncalled)
