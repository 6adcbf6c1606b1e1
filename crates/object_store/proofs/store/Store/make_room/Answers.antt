use Rattle.std.proofs.Common.{◌≡◌, ◌∙◌, Some, true, ap, sym, subst, arith}
use Rattle.std.specs.Option.{IsSome, is_some}
use Rattle.ref_counts.specs.CountMaps.{ChangesAt, counts_at}
use Rattle.object_store.specs.Kept.{Stored, stored}
use Rattle.object_store.proofs.Births.{born_public, ready_by, stored_with_room}
use Rattle.object_store.proofs.Counted.{none_by}
use Rattle.object_store.proofs.store.Store.make_room.Goals as goal

pub born-requires : goal.born-requires
born-requires c =
    let is : c.next-next.result ≡ c.self.inside.slots.next = c.next-next.ensures.value ∙ c.in_ok-reserve.ensures.next in
    c.self.invariant.counted.fresh c.next-next.result (omega (arith, is)) (sym c.counts.ensures ∙ none_by c.counts.result c.if-is_none.ensures)

pub returns-in_ok-born-clause-room : goal.returns-in_ok-born-clause-room
returns-in_ok-born-clause-room c =
    let is : c.next-next.result ≡ c.self.inside.slots.next = c.next-next.ensures.value ∙ c.in_ok-reserve.ensures.next in
    let changes : ChangesAt c.self.inside.counts c.born.new.self c.self.inside.slots.next (Some (1, 0)) = subst (λ h. ChangesAt c.self.inside.counts c.born.new.self h (Some (1, 0))) is c.in_ok-born.ensures.changes in
    let some : IsSome (counts_at c.born.new.self c.reserve.new.self.next) = ap (λ n. is_some (counts_at c.born.new.self n)) c.in_ok-reserve.ensures.next ∙ ap is_some changes.changed in
    subst (λ (s : Stored). stored c.reserve.new.self c.self.inside.arrays c.born.new.self c.self.inside.stopped ≡ record s { ready = true }) c.self.view_is
    (stored_with_room c.self.inside.slots c.reserve.new.self c.self.inside.arrays c.self.inside.counts c.born.new.self c.self.inside.stopped true c.self.invariant.rising
    c.in_ok-reserve.ensures.entries c.in_ok-reserve.ensures.next (born_public c.self.inside.counts c.born.new.self c.self.inside.slots.next changes)
    (ready_by c.reserve.new.self.spare (counts_at c.born.new.self c.reserve.new.self.next) c.in_ok-reserve.ensures.room some))
