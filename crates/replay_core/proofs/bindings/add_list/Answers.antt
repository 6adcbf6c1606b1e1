use Rattle.std.proofs.Common.{Some, refl, subst, sym}
use Rattle.std.specs.Prelude.{IsSome}
use Rattle.std.proofs.lemmas.Result.{on_ok_weaker, on_err_weaker}
use Rattle.replay_core.proofs.FoundFacts.{HasAt, adds, keeps}
use Rattle.replay_core.proofs.bindings.add_list.Goals as goal

pub returns-clause-added : goal.returns-clause-added
returns-clause-added c =
    let there = sym c.in-Some.ensures.value in
    let now : HasAt c.args.by_label.now.entries (c.get_mut.follows.lender c.append.new.self).entries c.args.label c.append.new.self =
    ((c.get_mut.follows.holds c.append.new.self).3 (subst (λ x. IsSome x) (sym there) refl)).0 in
    on_ok_weaker c.append.result
    (λ appended. adds c.args.by_label.now.entries (c.get_mut.follows.lender c.append.new.self).entries c.args.label c.args.list (Some c.in-Some.there.now)
    (subst (HasAt c.args.by_label.now.entries (c.get_mut.follows.lender c.append.new.self).entries c.args.label) appended now) there)
    c.append.ensures.appended

pub returns-clause-kept : goal.returns-clause-kept
returns-clause-kept c =
    let there = sym c.in-Some.ensures.value in
    let now : HasAt c.args.by_label.now.entries (c.get_mut.follows.lender c.append.new.self).entries c.args.label c.append.new.self =
    ((c.get_mut.follows.holds c.append.new.self).3 (subst (λ x. IsSome x) (sym there) refl)).0 in
    on_err_weaker c.append.result
    (λ kept. keeps c.args.by_label.now.entries (c.get_mut.follows.lender c.append.new.self).entries c.args.label c.in-Some.there.now
    (subst (HasAt c.args.by_label.now.entries (c.get_mut.follows.lender c.append.new.self).entries c.args.label) kept now) there)
    c.append.ensures.kept
