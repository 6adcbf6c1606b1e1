use Rattle.std.proofs.Common.{◌-◌, ◌≡◌, ◌∙◌, ◌∷◌, [], ap, refl, sym, subst, arith}
use Rattle.std.specs.BTreeMap.{is_at}
use Rattle.std.specs.Map.{set_value}
use Rattle.std.specs.Ordering.{nat_cmp}
use Rattle.dev_types.specs.Counting.{times}
use Rattle.object_store.specs.Kept.{Stored, number_at, stored}
use Rattle.object_store.specs.Parts.{unhold_in, holds_at}
use Rattle.object_store.proofs.Holdings.{held_at, held_by, held_is_named, held_is_there, parts_held, stored_held}
use Rattle.object_store.proofs.MoveFacts.{moves_unnamed, never, once}
use Rattle.object_store.proofs.store.Store.unhold.Goals as goal

pub unhold_at-requires-clause-there : goal.unhold_at-requires-clause-there
unhold_at-requires-clause-there c =
    let held : number_at c.args.self.now.holds c.args.h ≡ holds_at c.self.inside.slots.entries c.args.h = held_at c.args.self.now c.self.inside.slots c.self.inside.arrays c.self.inside.counts c.self.inside.stopped c.args.h c.self.view_is in
    held_is_there c.self.inside.slots c.args.h (omega (arith, c.requires, held))

pub unhold_at-requires-clause-held : goal.unhold_at-requires-clause-held
unhold_at-requires-clause-held c = omega (arith, c.requires, held_at c.args.self.now c.self.inside.slots c.self.inside.arrays c.self.inside.counts c.self.inside.stopped c.args.h c.self.view_is)

pub unname-requires : goal.unname-requires
unname-requires c = record { named = omega (arith, c.requires, held_at c.args.self.now c.self.inside.slots c.self.inside.arrays c.self.inside.counts c.self.inside.stopped c.args.h c.self.view_is, held_is_named c.self.inside.slots c.self.inside.arrays c.self.inside.counts c.self.inside.bound c.self.invariant c.args.h) }

pub invariant_of-self : goal.invariant_of-self
invariant_of-self c =
    parts_held c.self.inside.slots c.unhold_at.new.slots c.self.inside.arrays c.self.inside.counts c.unname.new.self c.self.inside.bound c.self.invariant c.args.h unhold_in c.unhold_at.ensures refl [] (c.args.h ∷ [])
    (moves_unnamed c.self.inside.counts c.unname.new.self c.args.h c.unname.ensures.changes (omega (arith, c.requires, held_at c.args.self.now c.self.inside.slots c.self.inside.arrays c.self.inside.counts c.self.inside.stopped c.args.h c.self.view_is, held_is_named c.self.inside.slots c.self.inside.arrays c.self.inside.counts c.self.inside.bound c.self.invariant c.args.h)))
    (let none : times c.args.h [] ≡ 0 = refl in omega (arith, none, once c.args.h c.args.h refl, c.requires, held_at c.args.self.now c.self.inside.slots c.self.inside.arrays c.self.inside.counts c.self.inside.stopped c.args.h c.self.view_is, held_by c.self.inside.slots c.unhold_at.new.slots c.args.h unhold_in c.unhold_at.ensures)) (λ k apart. never c.args.h k apart)
    (omega (arith, c.self.invariant.few c.args.h, held_by c.self.inside.slots c.unhold_at.new.slots c.args.h unhold_in c.unhold_at.ensures))

pub returns : goal.returns
returns c =
    subst (λ (s : Stored). stored c.unhold_at.new.slots c.self.inside.arrays c.unname.new.self c.self.inside.stopped ≡ record s { holds = set_value (is_at (nat_cmp c.args.h)) s.holds (number_at c.args.self.now.holds c.args.h - 1) }) c.self.view_is
    (stored_held c.self.inside.slots c.unhold_at.new.slots c.self.inside.arrays c.self.inside.counts c.unname.new.self c.self.inside.bound c.self.invariant c.args.h unhold_in c.unhold_at.ensures refl [] (c.args.h ∷ [])
    (moves_unnamed c.self.inside.counts c.unname.new.self c.args.h c.unname.ensures.changes (omega (arith, c.requires, held_at c.args.self.now c.self.inside.slots c.self.inside.arrays c.self.inside.counts c.self.inside.stopped c.args.h c.self.view_is, held_is_named c.self.inside.slots c.self.inside.arrays c.self.inside.counts c.self.inside.bound c.self.invariant c.args.h)))
    (let none : times c.args.h [] ≡ 0 = refl in omega (arith, none, once c.args.h c.args.h refl, c.requires, held_at c.args.self.now c.self.inside.slots c.self.inside.arrays c.self.inside.counts c.self.inside.stopped c.args.h c.self.view_is, held_by c.self.inside.slots c.unhold_at.new.slots c.args.h unhold_in c.unhold_at.ensures)) (λ k apart. never c.args.h k apart) c.self.inside.stopped
    ∙ ap (λ n. record (stored c.self.inside.slots c.self.inside.arrays c.self.inside.counts c.self.inside.stopped) { holds = set_value (is_at (nat_cmp c.args.h)) (stored c.self.inside.slots c.self.inside.arrays c.self.inside.counts c.self.inside.stopped).holds (n - 1) })
    (sym (held_by c.self.inside.slots c.unhold_at.new.slots c.args.h unhold_in c.unhold_at.ensures) ∙ sym (held_at c.args.self.now c.self.inside.slots c.self.inside.arrays c.self.inside.counts c.self.inside.stopped c.args.h c.self.view_is)))
