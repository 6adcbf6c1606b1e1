use Rattle.std.proofs.Common.{◌+◌, ◌≡◌, ◌≤◌, [], length, refl, subst, ap, arith}
use Rattle.seq_model.specs.State.{changed_at}
use Rattle.seq_model.specs.Steps.{set_staged}
use Rattle.object_store.specs.Kept.{Stored, stored}
use Rattle.object_store.specs.Parts.{unset_all_in}
use Rattle.object_store.proofs.PartFacts.{gone_is_named, none_in, part_there, parts_restaged, stored_restaged}
use Rattle.object_store.proofs.store.Store.unset_all.Goals as goal

pub unset_all_at-requires : goal.unset_all_at-requires
unset_all_at-requires c = part_there c.args.self.now c.self.inside.slots c.self.inside.arrays c.self.inside.counts c.self.inside.stopped c.args.h c.self.view_is c.requires

pub account-requires-clause-there : goal.account-requires-clause-there
account-requires-clause-there c = λ k some. none_in k c.in_ok-told.told.added c.in_ok-told.ensures.added some

pub account-requires-clause-fits : goal.account-requires-clause-fits
account-requires-clause-fits c = λ k.
    let none : length c.in_ok-told.told.added ≡ 0 = ap length c.in_ok-told.ensures.added in
    omega (arith, c.self.invariant.bounded k, c.self.invariant.few k, c.self.invariant.small, none)

pub account-requires-clause-named : goal.account-requires-clause-named
account-requires-clause-named c =
    let r = c.in_ok-told.ensures.changes in
    gone_is_named c.self.inside.slots c.self.inside.arrays c.self.inside.counts c.self.inside.bound c.self.invariant c.args.h unset_all_in r.part r.there
    c.in_ok-told.told.added c.in_ok-told.told.gone r.accounts

pub invariant_of-self-2 : goal.invariant_of-self-2
invariant_of-self-2 c =
    let r = c.in_ok-told.ensures.changes in
    let none : length c.in_ok-told.told.added ≡ 0 = ap length c.in_ok-told.ensures.added in
    let fits : c.self.inside.bound + length c.in_ok-told.told.added ≤ c.self.inside.bound = omega (arith, none) in
    parts_restaged c.self.inside.slots c.self.inside.arrays c.self.inside.counts c.self.inside.bound c.self.invariant c.args.h unset_all_in r.part r.there
    c.unset_all_at.new.slots c.account.new.counts c.self.inside.bound c.in_ok-told.told.added c.in_ok-told.told.gone r.changed r.accounts c.account.ensures
    (λ k some. none_in k c.in_ok-told.told.added c.in_ok-told.ensures.added some) fits c.self.invariant.small

pub returns-clause-ok : goal.returns-clause-ok
returns-clause-ok c =
    let r = c.in_ok-told.ensures.changes in
    subst (λ (s : Stored). stored c.unset_all_at.new.slots c.self.inside.arrays c.account.new.counts c.self.inside.stopped ≡ record s { state = changed_at c.args.h (set_staged (λ _. [])) s.state }) c.self.view_is
    (stored_restaged c.self.inside.slots c.self.inside.arrays c.self.inside.counts c.self.inside.bound c.self.invariant c.args.h unset_all_in r.part r.there
    c.unset_all_at.new.slots c.account.new.counts c.self.inside.stopped c.in_ok-told.told.added c.in_ok-told.told.gone (set_staged (λ _. [])) r.changed c.account.ensures refl)
