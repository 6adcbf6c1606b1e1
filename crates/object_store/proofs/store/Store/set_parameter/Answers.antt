use Rattle.std.proofs.Common.{ℕ, ◌+◌, ◌≡◌, ◌<◌, ◌≤◌, List, Option, refl, sym, subst, arith, length}
use Rattle.std.specs.Option.{IsSome, MatchOption, option_to_list}
use Rattle.dev_types.specs.declared.values.Value.{Value}
use Rattle.kind_tables.specs.SceneObjects.{object_in, with_value}
use Rattle.dev_types.specs.Counting.{times}
use Rattle.seq_model.specs.State.{changed_at, object_at}
use Rattle.seq_model.specs.Steps.{set_staged}
use Rattle.object_store.specs.Kept.{Stored, stored}
use Rattle.object_store.specs.Parts.{set_in}
use Rattle.object_store.proofs.PartFacts.{at_most_one, gone_is_named, one_is, part_there, parts_restaged, stored_restaged}
use Rattle.object_store.proofs.store.Store.set_parameter.Goals as goal

-- who is named anew is there
anew : (v : Value) (s t : Stored) (added : List ℕ) → t ≡ s → MatchOption (object_in v) (Unit {0}) (λ k. IsSome (object_at s.state k)) → added ≡ option_to_list (object_in v) →
    (k : ℕ) → 0 < times k added → IsSome (object_at t.state k)
anew v s t added same all is k some =
    subst (λ (s : Stored). IsSome (object_at s.state k)) (sym same) (one_is (object_in v) (λ k. IsSome (object_at s.state k)) all k (subst (λ added. 0 < times k added) is some))

short : (o : Option ℕ) (added : List ℕ) → added ≡ option_to_list o → length added ≤ 1
short o added is = subst (λ added. length added ≤ 1) (sym is) (at_most_one o)

pub set_at-requires : goal.set_at-requires
set_at-requires c = part_there c.args.self.now c.self.inside.slots c.self.inside.arrays c.self.inside.counts c.self.inside.stopped c.args.h c.self.view_is c.requires.there

pub account-requires-clause-there : goal.account-requires-clause-there
account-requires-clause-there c = λ k some.
    c.self.invariant.counted.there k
    (anew c.args.v.now c.args.self.now (stored c.self.inside.slots c.self.inside.arrays c.self.inside.counts c.self.inside.stopped) c.in_ok-told.told.added c.self.view_is c.requires.named c.in_ok-told.ensures.added k some)

pub account-requires-clause-fits : goal.account-requires-clause-fits
account-requires-clause-fits c = λ k.
    omega (arith, c.self.invariant.bounded k, c.self.invariant.few k, c.if-self-ge-MOST_NAMES.false, short (object_in c.args.v.now) c.in_ok-told.told.added c.in_ok-told.ensures.added)

pub account-requires-clause-named : goal.account-requires-clause-named
account-requires-clause-named c =
    let r = c.in_ok-told.ensures.changes in
    gone_is_named c.self.inside.slots c.self.inside.arrays c.self.inside.counts c.self.inside.bound c.self.invariant c.args.h (set_in c.args.name.now c.args.v.now) r.part r.there
    c.in_ok-told.told.added c.in_ok-told.told.gone r.accounts

pub invariant_of-self-2 : goal.invariant_of-self-2
invariant_of-self-2 c =
    let r = c.in_ok-told.ensures.changes in
    let fits : c.self.inside.bound + length c.in_ok-told.told.added ≤ c.self.inside.bound + 1 = omega (arith, short (object_in c.args.v.now) c.in_ok-told.told.added c.in_ok-told.ensures.added) in
    parts_restaged c.self.inside.slots c.self.inside.arrays c.self.inside.counts c.self.inside.bound c.self.invariant c.args.h (set_in c.args.name.now c.args.v.now) r.part r.there
    c.set_at.new.slots c.account.new.counts (c.self.inside.bound + 1) c.in_ok-told.told.added c.in_ok-told.told.gone r.changed r.accounts c.account.ensures
    (anew c.args.v.now c.args.self.now (stored c.self.inside.slots c.self.inside.arrays c.self.inside.counts c.self.inside.stopped) c.in_ok-told.told.added c.self.view_is c.requires.named c.in_ok-told.ensures.added)
    fits (omega (arith, c.if-self-ge-MOST_NAMES.false))

pub returns-clause-ok : goal.returns-clause-ok
returns-clause-ok c =
    let r = c.in_ok-told.ensures.changes in
    subst (λ (s : Stored). stored c.set_at.new.slots c.self.inside.arrays c.account.new.counts c.self.inside.stopped ≡ record s { state = changed_at c.args.h (set_staged (with_value c.args.name.now c.args.v.now)) s.state }) c.self.view_is
    (stored_restaged c.self.inside.slots c.self.inside.arrays c.self.inside.counts c.self.inside.bound c.self.invariant c.args.h (set_in c.args.name.now c.args.v.now) r.part r.there
    c.set_at.new.slots c.account.new.counts c.self.inside.stopped c.in_ok-told.told.added c.in_ok-told.told.gone (set_staged (with_value c.args.name.now c.args.v.now)) r.changed c.account.ensures refl)
