use Rattle.std.proofs.Common.{length, arith}
use Rattle.handle_table.proofs.SlotLemmas.{lookup-past, RiseWithin-entries_from}
use Rattle.handle_table.proofs.table.Table.next.Goals as goal

pub returns-clause-unused : goal.returns-clause-unused
returns-clause-unused g c =
    let items = c.self.inside.slots.items in
    rw (← c.self.view_is) (lookup-past items _ (length items) (omega (arith, c.len.ensures, c.self.inside.slots.ok.0)) (omega arith))

pub returns-clause-rising : goal.returns-clause-rising
returns-clause-rising g c =
    let items = c.self.inside.slots.items in
    rw (← c.self.view_is) (RiseWithin-entries_from items 1 _ (omega (arith, c.len.ensures, c.self.inside.slots.ok.0)))
