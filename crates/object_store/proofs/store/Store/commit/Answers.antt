use Rattle.std.proofs.Common.{◌+◌, ◌≡◌, ◌≤◌, refl, subst, arith, length}
use Rattle.std.specs.Option.{IfSome}
use Rattle.kind_tables.specs.SceneObjects.{objects_of}
use Rattle.param_stage.specs.Params.{named}
use Rattle.seq_model.specs.State.{changed_at}
use Rattle.seq_model.specs.Steps.{commit}
use Rattle.object_store.specs.Kept.{Stored, stored}
use Rattle.object_store.specs.Parts.{Part, commit_in}
use Rattle.object_store.proofs.PartFacts.{at_most_staged, gone_is_named, part_there, parts_restaged, staged_is_there, stored_restaged}
use Rattle.object_store.proofs.store.Store.commit.Goals as goal

pub commit_at-requires : goal.commit_at-requires
commit_at-requires c = part_there c.args.self.now c.self.inside.slots c.self.inside.arrays c.self.inside.counts c.self.inside.stopped c.args.h c.self.view_is c.requires

pub account-requires-clause-there : goal.account-requires-clause-there
account-requires-clause-there c =
    let r = c.in_ok-told.ensures.changes in
    let added : c.in_ok-told.told.added ≡ objects_of r.part.params.staged = subst (λ x. IfSome x (λ (part : Part). c.in_ok-told.told.added ≡ objects_of part.params.staged)) r.there c.in_ok-told.ensures.added in
    λ k some. c.self.invariant.counted.there k (staged_is_there c.self.inside.slots c.self.inside.arrays c.self.inside.counts c.self.inside.bound c.self.invariant c.args.h commit_in r.part r.there c.in_ok-told.told.added added k some)

pub account-requires-clause-fits : goal.account-requires-clause-fits
account-requires-clause-fits c =
    let r = c.in_ok-told.ensures.changes in
    let added : c.in_ok-told.told.added ≡ objects_of r.part.params.staged = subst (λ x. IfSome x (λ (part : Part). c.in_ok-told.told.added ≡ objects_of part.params.staged)) r.there c.in_ok-told.ensures.added in
    let many : c.names_at-names.result ≡ length (named r.part.params) = subst (λ x. IfSome x (λ (part : Part). c.names_at-names.result ≡ length (named part.params))) r.there c.names_at-names.ensures in
    let least : length c.in_ok-told.told.added ≤ length (named r.part.params) =
    at_most_staged c.self.inside.slots c.self.inside.arrays c.self.inside.counts c.self.inside.bound c.self.invariant c.args.h commit_in r.part r.there c.in_ok-told.told.added added in
    λ k. omega (arith, c.self.invariant.bounded k, c.self.invariant.few k, many, least, c.if-names-gt-MOST_NAMES.false, c.if-self-gt-MOST_NAMES.false)

pub account-requires-clause-named : goal.account-requires-clause-named
account-requires-clause-named c =
    let r = c.in_ok-told.ensures.changes in
    gone_is_named c.self.inside.slots c.self.inside.arrays c.self.inside.counts c.self.inside.bound c.self.invariant c.args.h commit_in r.part r.there
    c.in_ok-told.told.added c.in_ok-told.told.gone r.accounts

pub invariant_of-self-2 : goal.invariant_of-self-2
invariant_of-self-2 c =
    let r = c.in_ok-told.ensures.changes in
    let added : c.in_ok-told.told.added ≡ objects_of r.part.params.staged = subst (λ x. IfSome x (λ (part : Part). c.in_ok-told.told.added ≡ objects_of part.params.staged)) r.there c.in_ok-told.ensures.added in
    let many : c.names_at-names.result ≡ length (named r.part.params) = subst (λ x. IfSome x (λ (part : Part). c.names_at-names.result ≡ length (named part.params))) r.there c.names_at-names.ensures in
    let least : length c.in_ok-told.told.added ≤ length (named r.part.params) =
    at_most_staged c.self.inside.slots c.self.inside.arrays c.self.inside.counts c.self.inside.bound c.self.invariant c.args.h commit_in r.part r.there c.in_ok-told.told.added added in
    let fits : c.self.inside.bound + length c.in_ok-told.told.added ≤ c.self.inside.bound + c.names_at-names.result = omega (arith, many, least) in
    parts_restaged c.self.inside.slots c.self.inside.arrays c.self.inside.counts c.self.inside.bound c.self.invariant c.args.h commit_in r.part r.there
    c.commit_at.new.slots c.account.new.counts (c.self.inside.bound + c.names_at-names.result) c.in_ok-told.told.added c.in_ok-told.told.gone r.changed r.accounts c.account.ensures
    (staged_is_there c.self.inside.slots c.self.inside.arrays c.self.inside.counts c.self.inside.bound c.self.invariant c.args.h commit_in r.part r.there c.in_ok-told.told.added added) fits
    (omega (arith, c.if-names-gt-MOST_NAMES.false, c.if-self-gt-MOST_NAMES.false))

pub returns-clause-ok : goal.returns-clause-ok
returns-clause-ok c =
    let r = c.in_ok-told.ensures.changes in
    subst (λ (s : Stored). stored c.commit_at.new.slots c.self.inside.arrays c.account.new.counts c.self.inside.stopped ≡ record s { state = changed_at c.args.h commit s.state }) c.self.view_is
    (stored_restaged c.self.inside.slots c.self.inside.arrays c.self.inside.counts c.self.inside.bound c.self.invariant c.args.h commit_in r.part r.there
    c.commit_at.new.slots c.account.new.counts c.self.inside.stopped c.in_ok-told.told.added c.in_ok-told.told.gone commit r.changed c.account.ensures refl)
