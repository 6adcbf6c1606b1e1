use Rattle.replay_core.specs.Views.{meaning_of}
use Rattle.replay_core.proofs.loans.unmap_of.Goals as goal

pub returns-in-WithFrame : goal.returns-in-WithFrame
returns-in-WithFrame c = λ content lent.
    rw c.in-WithFrame.is
    (c.unmap_of_frame.ensures content (meaning_of c.args.labels.now) c.in-WithFrame.frame c.in-WithFrame.channel c.handle.ensures)
