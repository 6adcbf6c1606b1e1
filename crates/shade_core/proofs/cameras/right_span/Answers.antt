use Rattle.std.proofs.Common.{refl}
use Rattle.shade_core.proofs.Spans.{right_span-reach, right_span-within, wide_extent}
use Rattle.shade_core.specs.Frames.{right_span}
use Rattle.shade_core.proofs.cameras.right_span.Goals as goal

pub returns-clause-value : goal.returns-clause-value
unfolding right_span
returns-clause-value c = rw (wide_extent c.args.lens.now c.requires.lens) refl

pub returns-clause-within : goal.returns-clause-within
returns-clause-within c = rw (returns-clause-value c) (right_span-within c.args.lens.now c.args.w c.requires.lens c.requires.width)

pub returns-clause-size : goal.returns-clause-size
returns-clause-size c = rw (returns-clause-value c) (right_span-reach c.args.lens.now c.args.w c.requires.lens c.requires.width)
