use Rattle.std.proofs.Common.{◌∙◌}
use Rattle.picture_model.proofs.Numbers.{read_long}
use Rattle.shade_core.proofs.Spans.{offset-is, offset-size}
use Rattle.shade_core.proofs.cameras.offset_in.Goals as goal

pub returns-clause-value : goal.returns-clause-value
returns-clause-value c = read_long c.div_euclid.result c.div_euclid.type_inv ∙ c.div_euclid.ensures ∙ offset-is c.args.span.now c.args.i c.requires.span c.requires.pixel

pub returns-clause-size : goal.returns-clause-size
returns-clause-size c = rw (returns-clause-value c) (offset-size c.args.span.now c.args.i c.requires.span c.requires.pixel)
