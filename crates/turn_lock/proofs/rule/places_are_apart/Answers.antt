use Rattle.turn_lock.proofs.PlaceLaws.{apart-once}
use Rattle.turn_lock.proofs.TurnKept.{apart}
use Rattle.turn_lock.proofs.rule.places_are_apart.Goals as goal

pub returns : goal.returns
returns g c given s kept one other v w at there ne =
    let J = g.S.Journaled in apart-once v.mine w.mine (apart J.history J.fixed J.by given s kept one other v w at there ne)
