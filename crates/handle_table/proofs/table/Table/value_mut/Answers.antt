use Rattle.std.proofs.Common.{◌≡◌, ◌+◌, ◌-◌, ◌<◌, length, get_or, refl, subst, ◌∙◌, IsSome, arith}
use Rattle.std.proofs.lemmas.List.{length-set}
use Rattle.handle_table.specs.declared.table.Slot.TheVariants.{Empty}
use Rattle.handle_table.specs.Slots.{value_of}
use Rattle.handle_table.proofs.SlotLemmas.{names_filled, lookup-read, entries_from-written}
use Rattle.handle_table.proofs.table.Table.value_mut.Goals as goal

pub overflow_sub-h-inside : goal.overflow_sub-h-inside
overflow_sub-h-inside g c =
    let same : c.h.inside.0 ≡ c.args.h = c.h.view_is in
    let named = names_filled c.self.inside.slots.items c.args.h (rw (← c.self.view_is) at c.requires) in
    omega (arith, same, named.given)

pub index_mut-requires : goal.index_mut-requires
index_mut-requires g c =
    let same : c.h.inside.0 ≡ c.args.h = c.h.view_is in
    let named = names_filled c.self.inside.slots.items c.args.h (rw (← c.self.view_is) at c.requires) in
    omega (arith, same, named.within, c.self.inside.slots.ok.0)

pub value_mut-requires : goal.value_mut-requires
value_mut-requires g c =
    let items = c.self.inside.slots.items in
    let same : c.h.inside.0 ≡ c.args.h = c.h.view_is in
    let present = rw (← c.self.view_is) at c.requires in
    let named = names_filled items c.args.h present in
    let here : c.args.h ≡ 1 + (c.h.inside.0 - 1) = omega (arith, same, named.given) in
    let within : c.h.inside.0 - 1 < length items = omega (arith, same, named.within) in
    subst IsSome (lookup-read items c.args.h (c.h.inside.0 - 1) c.index_mut.result.now here within c.index_mut.ensures.value) present

pub returns : goal.returns
returns g c =
    let items = c.self.inside.slots.items in
    let same : c.h.inside.0 ≡ c.args.h = c.h.view_is in
    let present = rw (← c.self.view_is) at c.requires in
    let named = names_filled items c.args.h present in
    let here : c.args.h ≡ 1 + (c.h.inside.0 - 1) = omega (arith, same, named.given) in
    let within : c.h.inside.0 - 1 < length items = omega (arith, same, named.within) in
    let filled : IsSome (value_of (get_or items (c.h.inside.0 - 1) Empty)) =
    subst (λ place. IsSome (value_of (get_or items place Empty))) (omega (arith, same)) named.filled in
    let found = lookup-read items c.args.h (c.h.inside.0 - 1) c.index_mut.result.now here within c.index_mut.ensures.value in (
      (refl, λ w. rw (← c.self.view_is, length-set, entries_from-written items 1 c.args.h (c.h.inside.0 - 1) w here filled) refl),
      record { writes_back = tt; value = rw (← c.self.view_is) (found ∙ c.value_mut.ensures.value) },
    )
