use Rattle.std.proofs.Common.{arith}
use Rattle.std.proofs.lemmas.Grind.{common_steps}
use Rattle.ppm_out.specs.Lines.{call_words}
use Rattle.ppm_out.proofs.Joined.{spaced_split}
use Rattle.ppm_out.proofs.calls.push_call.Goals as goal

pub returns-clause-ok : goal.returns-clause-ok
returns-clause-ok c = rw (spaced_split (call_words c.args.call.now)) (grind (arith, common_steps))
