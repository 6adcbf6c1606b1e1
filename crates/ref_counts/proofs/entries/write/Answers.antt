use Rattle.std.proofs.Common.{rules, ◌≡◌, None, sym, ap, ◌∙◌}
use Rattle.std.specs.BTreeMap.{is_at}
use Rattle.std.specs.Map.{lookup}
use Rattle.std.specs.Ordering.{nat_cmp}
use Rattle.ref_counts.proofs.EntryFacts.{set_value-absent}
use Rattle.ref_counts.proofs.entries.write.Goals as goal

pub returns-in_default : goal.returns-in_default
returns-in_default c =
    let absent : lookup (is_at (nat_cmp c.args.h)) c.args.entries.now.entries ≡ None = search rules in
    ap (λ m. m.entries) c.get_mut.follows.holds-at-none ∙ sym (set_value-absent _ _ _ absent)
