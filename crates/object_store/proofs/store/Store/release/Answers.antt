use Rattle.std.proofs.Common.{◌≡◌, ◌-◌, Some, ap, sym, arith}
use Rattle.ref_counts.specs.CountMaps.{public_at}
use Rattle.object_store.specs.Kept.{number_at}
use Rattle.object_store.specs.Parts.{Part, at}
use Rattle.object_store.proofs.References.{parts_referred, referred_becomes, referred_in}
use Rattle.object_store.proofs.store.Store.release.Goals as goal

pub release-requires : goal.release-requires
release-requires c =
    let one : (part : Part) × (at c.args.h c.self.inside.slots.entries ≡ Some part) × (number_at c.args.self.now.public c.args.h ≡ public_at c.self.inside.counts c.args.h) =
    referred_in c.args.self.now c.self.inside.slots c.self.inside.arrays c.self.inside.counts c.self.inside.stopped c.args.h c.self.view_is c.requires in
    record { held = omega (arith, one.2, c.requires) }

pub invariant_of-self : goal.invariant_of-self
invariant_of-self c =
    let one : (part : Part) × (at c.args.h c.self.inside.slots.entries ≡ Some part) × (number_at c.args.self.now.public c.args.h ≡ public_at c.self.inside.counts c.args.h) =
    referred_in c.args.self.now c.self.inside.slots c.self.inside.arrays c.self.inside.counts c.self.inside.stopped c.args.h c.self.view_is c.requires in
    parts_referred c.self.inside.slots c.self.inside.arrays c.self.inside.counts c.release.new.self c.self.inside.bound c.args.h (public_at c.self.inside.counts c.args.h - 1) one.0 c.self.invariant one.1 c.release.ensures.changes

pub returns : goal.returns
returns c =
    let one : (part : Part) × (at c.args.h c.self.inside.slots.entries ≡ Some part) × (number_at c.args.self.now.public c.args.h ≡ public_at c.self.inside.counts c.args.h) =
    referred_in c.args.self.now c.self.inside.slots c.self.inside.arrays c.self.inside.counts c.self.inside.stopped c.args.h c.self.view_is c.requires in
    referred_becomes c.args.self.now c.self.inside.slots c.self.inside.arrays c.self.inside.counts c.release.new.self c.self.inside.bound c.args.h (public_at c.self.inside.counts c.args.h - 1)
    (number_at c.args.self.now.public c.args.h - 1) c.self.inside.stopped one.0 c.self.view_is c.self.invariant one.1 c.release.ensures.changes (ap (λ n. n - 1) (sym one.2))
