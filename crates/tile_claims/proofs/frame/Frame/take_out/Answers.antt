use Rattle.std.proofs.Common.{arith, ◌∙◌, ap, sym, subst, Some, ◌∷◌}
use mathlib.Core.Option.{none}
use Rattle.atomic_table.specs.Table.{rest, step, Allows}
use Rattle.tile_claims.specs.Rule.{Kept, Collects}
use Rattle.tile_claims.proofs.ClaimsKept.{collects}
use Rattle.tile_claims.proofs.frame.Frame.take_out.Goals as goal

pub load-requires : goal.load-requires
load-requires g c =
    let shared = c.args.self.now.table.shared in
    let seat = c.args.seat.now in (
      c.requires.table,
      omega (arith, c.args.self.now.two_words),
      subst (λ tile. Allows (Kept shared.key) shared.table_id.slots seat.id seat.me 1 (λ n. n) (Collects tile (step shared.table_id.slots 1 0 0 none) seat.me)) c.requires.named
          (collects shared.key shared.table_id.slots seat.id c.args.tile seat.me c.requires.first c.requires.seen c.requires.within c.requires.there),
    )

pub exchange-requires : goal.exchange-requires
exchange-requires g c =
    let did = c.load.ensures in
    let took = did.2.taken in
    let hand = ap (λ me. me.1) took.1 in
    let here = hand ∙ ap (λ tile. (tile, Some took.0) ∷ c.args.seat.now.me.1) (sym c.requires.named) in
    (did.0 ∙ c.requires.table, (Some took.0, here ∙ ap (λ cs. (c.args.tile, Some took.0) ∷ rest cs) (sym here)))
