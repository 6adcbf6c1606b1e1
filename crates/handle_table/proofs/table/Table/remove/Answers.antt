use Rattle.std.proofs.Common.{rules, ◌≡◌, ◌+◌, ◌-◌, ◌<◌, length, set, None, sym, ap, ◌∙◌}
use Rattle.handle_table.specs.HandleMaps.{value_at}
use Rattle.handle_table.specs.Slots.{value_of, entries_from}
use Rattle.handle_table.proofs.SlotLemmas.{remove_entry-absent, lookup-read, entries_from-emptied, ChangesAt-set}
use Rattle.handle_table.specs.declared.table.Slot.TheVariants.{Empty}
use Rattle.handle_table.proofs.table.Table.remove.Goals as goal

pub returns-then-is_none-clause-entries : goal.returns-then-is_none-clause-entries
returns-then-is_none-clause-entries g c =
    let absent : value_at c.args.self.now c.args.h ≡ None = search rules in
    sym (remove_entry-absent _ _ absent)

pub returns-clause-value : goal.returns-clause-value
returns-clause-value g c =
    let items = c.self.inside.slots.items in
    let same : c.h.inside.0 ≡ c.args.h = c.h.view_is in
    let here : c.args.h ≡ 1 + (c.h.inside.0 - 1) = search rules in
    let within : c.h.inside.0 - 1 < length items = search rules in
    let found = lookup-read items c.args.h (c.h.inside.0 - 1) c.index_mut.result.now here within c.index_mut.ensures.value in
    rw (← c.self.view_is) (c.into_value.ensures ∙ ap value_of c.replace.ensures.value ∙ sym found)

pub returns-clause-entries : goal.returns-clause-entries
returns-clause-entries g c =
    let items = c.self.inside.slots.items in
    let same : c.h.inside.0 ≡ c.args.h = c.h.view_is in
    let here : c.args.h ≡ 1 + (c.h.inside.0 - 1) = search rules in
    rw (c.replace.ensures.after, ← c.self.view_is) (entries_from-emptied items 1 c.args.h (c.h.inside.0 - 1) here)

pub returns-clause-changes : goal.returns-clause-changes
returns-clause-changes g c =
    let items = c.self.inside.slots.items in
    let same : c.h.inside.0 ≡ c.args.h = c.h.view_is in
    let here : c.args.h ≡ 1 + (c.h.inside.0 - 1) = search rules in
    let within : c.h.inside.0 - 1 < length items = search rules in
    ChangesAt-set _ _ items c.args.h (c.h.inside.0 - 1) Empty here within
    (ap (λ m. m.entries) (sym c.self.view_is))
    (ap (λ slot. entries_from 1 (set items (c.h.inside.0 - 1) slot)) c.replace.ensures.after)
