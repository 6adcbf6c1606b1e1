use Rattle.std.proofs.Common.{refl}
use Rattle.shade_core.proofs.Spans.{high_extent, up_span-reach}
use Rattle.shade_core.specs.Frames.{up_span}
use Rattle.shade_core.proofs.cameras.up_span.Goals as goal

pub returns-clause-value : goal.returns-clause-value
unfolding up_span
returns-clause-value c = rw (high_extent c.args.lens.now c.requires.lens) refl

pub returns-clause-size : goal.returns-clause-size
returns-clause-size c = rw (returns-clause-value c) (up_span-reach c.args.lens.now c.args.h c.requires.lens c.requires.height)
