use Rattle.std.proofs.Common.{◌≡◌, None, sym, ap, ◌∙◌}
use Rattle.std.specs.BTreeMap.{is_at}
use Rattle.std.specs.Map.{set_value}
use Rattle.std.specs.Ordering.{nat_cmp}
use Rattle.ref_counts.specs.Queues.{held_at, unless_dead}
use Rattle.ref_counts.proofs.QueueFacts.{set_value-none}
use Rattle.ref_counts.proofs.entries.bury.Goals as goal

pub returns-in-None-clause-entries : goal.returns-in-None-clause-entries
returns-in-None-clause-entries c =
    let es = c.args.entries.now.entries in
    let none : held_at es c.args.h ≡ None = sym c.held_at.ensures ∙ c.in-None.is in
    sym (ap (λ v. set_value (is_at (nat_cmp c.args.h)) es (unless_dead v)) none ∙ set_value-none es c.args.h none)
