use Rattle.std.proofs.Common.{◌≡◌, true, pos, arith, int_lt}
use Rattle.std.proofs.lemmas.Int.{ints}
use Rattle.picture_model.proofs.Crossings.{negated, same_crossing}
use Rattle.picture_model.specs.Depths.{turned}
use Rattle.picture_model.proofs.depths.turned.Goals as goal

pub returns-then-c-lt0-clause-value : goal.returns-then-c-lt0-clause-value
unfolding turned
returns-then-c-lt0-clause-value c =
    let negative : int_lt c.args.c.det (pos 0) ≡ true = grind (arith, ints) in
    rw negative
    (same_crossing _ _
    (negated c.args.c.det c.requires.det)
    (negated c.args.c.t c.requires.t)
    (negated c.args.c.p c.requires.p)
    (negated c.args.c.q c.requires.q))
