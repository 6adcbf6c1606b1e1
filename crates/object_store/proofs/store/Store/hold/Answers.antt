use Rattle.std.proofs.Common.{◌+◌, ◌≡◌, ◌∙◌, ◌∷◌, [], ap, refl, sym, subst, arith}
use Rattle.std.specs.BTreeMap.{is_at}
use Rattle.std.specs.Map.{set_value}
use Rattle.std.specs.Ordering.{nat_cmp}
use Rattle.dev_types.specs.Counting.{times}
use Rattle.object_store.specs.Kept.{Stored, number_at, stored}
use Rattle.object_store.specs.Parts.{hold_in}
use Rattle.object_store.proofs.Holdings.{held_at, held_by, parts_held, stored_held}
use Rattle.object_store.proofs.MoveFacts.{moves_named, never, once}
use Rattle.object_store.proofs.PartFacts.{part_there}
use Rattle.object_store.proofs.Reslotted.{has_counts}
use Rattle.object_store.proofs.store.Store.hold.Goals as goal

pub hold_at-requires-clause-there : goal.hold_at-requires-clause-there
hold_at-requires-clause-there c = part_there c.args.self.now c.self.inside.slots c.self.inside.arrays c.self.inside.counts c.self.inside.stopped c.args.h c.self.view_is c.requires.there

pub hold_at-requires-clause-few : goal.hold_at-requires-clause-few
hold_at-requires-clause-few c = omega (arith, c.requires.few, held_at c.args.self.now c.self.inside.slots c.self.inside.arrays c.self.inside.counts c.self.inside.stopped c.args.h c.self.view_is)

pub name-requires-clause-live : goal.name-requires-clause-live
name-requires-clause-live c = has_counts c.self.inside.slots c.hold_at.new.slots c.self.inside.arrays c.self.inside.counts c.self.inside.counts c.self.inside.bound c.self.invariant c.args.h hold_in c.hold_at.ensures

pub name-requires-clause-fits : goal.name-requires-clause-fits
name-requires-clause-fits c = omega (arith, c.self.invariant.bounded c.args.h, c.self.invariant.few c.args.h, c.self.invariant.small)

pub invariant_of-self : goal.invariant_of-self
invariant_of-self c =
    parts_held c.self.inside.slots c.hold_at.new.slots c.self.inside.arrays c.self.inside.counts c.name.new.self c.self.inside.bound c.self.invariant c.args.h hold_in c.hold_at.ensures refl (c.args.h ∷ []) []
    (moves_named c.self.inside.counts c.name.new.self c.args.h c.name.ensures.changes (has_counts c.self.inside.slots c.hold_at.new.slots c.self.inside.arrays c.self.inside.counts c.self.inside.counts c.self.inside.bound c.self.invariant c.args.h hold_in c.hold_at.ensures))
    (let none : times c.args.h [] ≡ 0 = refl in omega (arith, none, once c.args.h c.args.h refl)) (λ k apart. sym (never c.args.h k apart))
    (omega (arith, c.requires.few, held_at c.args.self.now c.self.inside.slots c.self.inside.arrays c.self.inside.counts c.self.inside.stopped c.args.h c.self.view_is, held_by c.self.inside.slots c.hold_at.new.slots c.args.h hold_in c.hold_at.ensures))

pub returns : goal.returns
returns c =
    subst (λ (s : Stored). stored c.hold_at.new.slots c.self.inside.arrays c.name.new.self c.self.inside.stopped ≡ record s { holds = set_value (is_at (nat_cmp c.args.h)) s.holds (number_at c.args.self.now.holds c.args.h + 1) }) c.self.view_is
    (stored_held c.self.inside.slots c.hold_at.new.slots c.self.inside.arrays c.self.inside.counts c.name.new.self c.self.inside.bound c.self.invariant c.args.h hold_in c.hold_at.ensures refl (c.args.h ∷ []) []
    (moves_named c.self.inside.counts c.name.new.self c.args.h c.name.ensures.changes (has_counts c.self.inside.slots c.hold_at.new.slots c.self.inside.arrays c.self.inside.counts c.self.inside.counts c.self.inside.bound c.self.invariant c.args.h hold_in c.hold_at.ensures))
    (let none : times c.args.h [] ≡ 0 = refl in omega (arith, none, once c.args.h c.args.h refl)) (λ k apart. sym (never c.args.h k apart)) c.self.inside.stopped
    ∙ ap (λ n. record (stored c.self.inside.slots c.self.inside.arrays c.self.inside.counts c.self.inside.stopped) { holds = set_value (is_at (nat_cmp c.args.h)) (stored c.self.inside.slots c.self.inside.arrays c.self.inside.counts c.self.inside.stopped).holds (n + 1) })
    (sym (held_by c.self.inside.slots c.hold_at.new.slots c.args.h hold_in c.hold_at.ensures) ∙ sym (held_at c.args.self.now c.self.inside.slots c.self.inside.arrays c.self.inside.counts c.self.inside.stopped c.args.h c.self.view_is)))
