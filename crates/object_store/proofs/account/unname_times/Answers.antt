use Rattle.std.proofs.Common.{◌≡◌, [], subst, arith}
use Rattle.std.specs.Prelude.{replicate}
use Rattle.object_store.specs.Moves.{Moves}
use Rattle.object_store.proofs.MoveFacts.{moves_none}
use Rattle.object_store.proofs.Reslotted.{moves_once_less, still_many}
use Rattle.object_store.proofs.account.unname_times.Goals as goal

pub loop-i-init : goal.loop-i-init
loop-i-init c = moves_none c.args.counts.now

pub unname-requires : goal.unname-requires
unname-requires c = record { named = still_many c.args.counts.now c.loop-i.counts c.args.h c.loop-i._i c.args.times c.loop-i.invariant (omega (arith, c.loop-i-test.true)) c.requires }

pub loop-i-preserved : goal.loop-i-preserved
loop-i-preserved c =
    moves_once_less c.args.counts.now c.loop-i.counts c.unname.new.self c.args.h c.loop-i._i c.loop-i.invariant c.unname.ensures.changes
    (still_many c.args.counts.now c.loop-i.counts c.args.h c.loop-i._i c.args.times c.loop-i.invariant (omega (arith, c.loop-i-test.true)) c.requires)

pub returns : goal.returns
returns c =
    let end : c.loop-i._i ≡ c.args.times = omega (arith, c.loop-i-test.false, c.loop-i.auto._i-end) in
    subst (λ n. Moves c.args.counts.now c.loop-i.counts [] (replicate n c.args.h)) end c.loop-i.invariant
