use Rattle.std.proofs.Common.{◌≡◌, ◌+◌, ◌-◌, ◌<◌, ◌≤◌, length, get_or, sym, arith}
use Rattle.handle_table.proofs.SlotLemmas.{lookup-before, lookup-read, lookup-past}
use Rattle.handle_table.proofs.table.Table.get.Goals as goal

pub returns-then-h-eq0-clause-value : goal.returns-then-h-eq0-clause-value
returns-then-h-eq0-clause-value g c =
    let same : c.h.inside.0 ≡ c.args.h = c.h.view_is in
    rw (← c.self.view_is) (sym (lookup-before c.self.inside.slots.items 1 c.args.h (omega (arith, same, c.if-h-eq0.true))))

pub returns-in_err-get-clause-value : goal.returns-in_err-get-clause-value
returns-in_err-get-clause-value g c =
    let items = c.self.inside.slots.items in
    let same : c.h.inside.0 ≡ c.args.h = c.h.view_is in
    let here : c.args.h ≡ 1 + (c.h.inside.0 - 1) = omega (arith, same, c.if-h-eq0.false) in
    let past : length items ≤ c.h.inside.0 - 1 = rw c.deref.ensures.value at c.in_err-get.ensures.lookup.3 in
    rw (c.from_residual.ensures, ← c.self.view_is) (sym (lookup-past items c.args.h (c.h.inside.0 - 1) here past))

pub returns-clause-value : goal.returns-clause-value
returns-clause-value g c =
    let items = c.self.inside.slots.items in
    let same : c.h.inside.0 ≡ c.args.h = c.h.view_is in
    let here : c.args.h ≡ 1 + (c.h.inside.0 - 1) = omega (arith, same, c.if-h-eq0.false) in
    let slot = c.in_ok-get.field-0.now in
    let within : c.h.inside.0 - 1 < length items = rw c.deref.ensures.value at c.in_ok-get.ensures.lookup.3.0 in
    let read : slot ≡ get_or items (c.h.inside.0 - 1) slot = rw c.deref.ensures.value at c.in_ok-get.ensures.lookup.1 in
    rw (c.value.ensures, ← c.self.view_is) (sym (lookup-read items c.args.h (c.h.inside.0 - 1) slot here within read))
