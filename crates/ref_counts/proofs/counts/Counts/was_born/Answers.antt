use Rattle.std.proofs.Common.{sym, ◌∙◌}
use Rattle.ref_counts.proofs.EntryFacts.{is_some-counted}
use Rattle.ref_counts.proofs.counts.Counts.was_born.Goals as goal

pub returns : goal.returns
returns c = rw (← c.self.view_is) (c.contains_key.ensures ∙ sym (is_some-counted c.self.inside.held.entries c.args.h))
