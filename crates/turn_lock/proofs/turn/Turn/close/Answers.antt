use Rattle.std.proofs.Common.{◌≡◌, Some, refl, sym, ◌∙◌, subst}
use Rattle.std.specs.Prelude.{IsSome}
use Rattle.turn_lock.specs.Histories.{Extends, places}
use Rattle.turn_lock.specs.Passes.{seen, mine, fixed}
use Rattle.turn_lock.proofs.TurnKept.{ended}
use Rattle.turn_lock.proofs.turn.Turn.close.Goals as goal

pub unwrap-requires : goal.unwrap-requires
unwrap-requires g c =
    let J = g.S.Journaled in
    let pass = c.args.pass in
    let end = ended J.history J.fixed J.by (J.fixed c.args.self.table.shared.key.value) pass.badge.views c.into_seat.result.id c.into_seat.result.me.0 _ _ c.take-state.result
    c.into_seat.ensures.2 c.requires.whole pass.idle (pass.unspent c.requires.idle) c.close_with-closed.ensures.values.2 c.take-state.ensures.value in
    subst IsSome (sym end.1) refl

pub returns : goal.returns
returns g c =
    let J = g.S.Journaled in
    let pass = c.args.pass in
    let end = ended J.history J.fixed J.by (J.fixed c.args.self.table.shared.key.value) pass.badge.views c.into_seat.result.id c.into_seat.result.me.0 _ _ c.take-state.result
    c.into_seat.ensures.2 c.requires.whole pass.idle (pass.unspent c.requires.idle) c.close_with-closed.ensures.values.2 c.take-state.ensures.value in
    let both : Some end.0 ≡ Some c.unwrap.result = sym end.1 ∙ c.unwrap.ensures in
    let same : end.0 ≡ c.unwrap.result = cc both in record {
      begins = subst (λ x. Extends (seen pass) (J.history x)) same end.2;
      fixed = subst (λ x. fixed pass ≡ Some (J.fixed x)) same end.3;
      mine = subst (λ x. mine pass ≡ places J.by (J.history x)) same end.4;
    }
