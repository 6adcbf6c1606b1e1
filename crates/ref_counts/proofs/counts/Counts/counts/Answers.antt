use Rattle.std.proofs.Common.{sym, ap, ◌∙◌}
use Rattle.ref_counts.specs.Queues.{counts_of}
use Rattle.ref_counts.proofs.EntryFacts.{counts_at-counted}
use Rattle.ref_counts.proofs.counts.Counts.counts.Goals as goal

pub returns-in_err-held : goal.returns-in_err-held
returns-in_err-held c =
    rw (← c.self.view_is) (c.from_residual.ensures ∙ sym (counts_at-counted c.self.inside.held.entries c.args.h ∙ ap counts_of (sym c.held_at.ensures ∙ c.in_err-held.was)))

pub returns : goal.returns
returns c =
    rw (← c.self.view_is) (sym (counts_at-counted c.self.inside.held.entries c.args.h ∙ ap counts_of (sym c.held_at.ensures ∙ c.in_ok-held.was)))
