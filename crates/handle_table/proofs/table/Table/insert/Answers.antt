use Rattle.std.proofs.Common.{◌≡◌, ◌+◌, length, sym, ap, arith}
use Rattle.handle_table.specs.Slots.{entries_from}
use Rattle.handle_table.proofs.SlotLemmas.{entries_from-push, ChangesAt-push}
use Rattle.handle_table.proofs.table.Table.insert.Goals as goal

pub returns-clause-entries : goal.returns-clause-entries
returns-clause-entries g c =
    let here : c.next-handle.result ≡ 1 + length c.self.inside.slots.items = omega (arith, rw (← c.self.view_is) at c.next-handle.ensures.value) in
    rw (c.push_reserved.ensures.items, here, ← c.self.view_is) (entries_from-push c.self.inside.slots.items 1 c.args.value)

pub returns-clause-changes : goal.returns-clause-changes
returns-clause-changes g c =
    let here : c.next-handle.result ≡ 1 + length c.self.inside.slots.items = omega (arith, rw (← c.self.view_is) at c.next-handle.ensures.value) in
    ChangesAt-push _ _ c.self.inside.slots.items _ c.args.value here
    (ap (λ m. m.entries) (sym c.self.view_is))
    (ap (entries_from 1) c.push_reserved.ensures.items)
