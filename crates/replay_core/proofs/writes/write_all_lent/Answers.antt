use Rattle.replay_core.specs.Views.{meaning_of}
use Rattle.replay_core.proofs.WriteFacts.{lent_more}
use Rattle.replay_core.proofs.writes.write_all_lent.Goals as goal

pub loop-write-preserved : goal.loop-write-preserved
loop-write-preserved c =
    lent_more (meaning_of c.args.labels.now) c.args.writes.now c.loop-write.write-index c.write-item.result c.loop-write.lent c.write_lent.new.lent _
    c.loop-write-test.true c.write-item.is c.in_ok-write_lent.ensures c.loop-write.invariant
