use Rattle.std.proofs.Common.{arith}
use Rattle.std.specs.Prelude.{decimal}
use Rattle.std.proofs.lemmas.Grind.{common_steps}
use Rattle.dev_types.specs.Refusals.{refusal_number}
use Rattle.ppm_out.specs.Lines.{refusal_words}
use Rattle.ppm_out.proofs.Joined.{spaced_first}
use Rattle.ppm_out.proofs.replies.push_refusal.Goals as goal

pub returns-clause-ok : goal.returns-clause-ok
returns-clause-ok c = rw (spaced_first (decimal (refusal_number c.args.refused.now)) (refusal_words c.args.refused.now)) (grind (arith, common_steps))
