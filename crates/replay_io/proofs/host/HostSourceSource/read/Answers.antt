use Rattle.replay_io.specs.declared.source.Failed.{Failed}
use Rattle.replay_io.proofs.Runs.{EndsExactly-from_read}
use Rattle.replay_io.proofs.host.HostSourceSource.read.Goals as goal

pub returns-then-not-is_empty-clause-end : goal.returns-then-not-is_empty-clause-end
returns-then-not-is_empty-clause-end g c = EndsExactly-from_read Failed _ _ c.in-Ok.count c.read.new.buf _ c.in-Ok.ensures.bound.0 c.read.auto.buf c.in-Ok.ensures.bytes.0 c.in-Ok.ensures.bytes.1
