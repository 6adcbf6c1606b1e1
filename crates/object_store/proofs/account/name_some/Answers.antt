use Rattle.std.proofs.Common.{◌≡◌, ◌∙◌, [], ap, refl, sym, subst, arith}
use Rattle.std.specs.Option.{IsSome, option_to_list}
use Rattle.ref_counts.specs.CountMaps.{counts_at}
use Rattle.dev_types.specs.Counting.{times}
use Rattle.object_store.specs.Moves.{Moves}
use Rattle.object_store.proofs.MoveFacts.{moves_named, moves_none, once}
use Rattle.object_store.proofs.account.name_some.Goals as goal

pub name-requires-clause-live : goal.name-requires-clause-live
name-requires-clause-live c =
    let one : times c.in-Some.h (option_to_list c.args.object) ≡ 1 = ap (λ o. times c.in-Some.h (option_to_list o)) c.in-Some.is ∙ once c.in-Some.h c.in-Some.h refl in
    c.requires.there c.in-Some.h (omega (arith, one))

pub returns-in-Some : goal.returns-in-Some
returns-in-Some c =
    let one : times c.in-Some.h (option_to_list c.args.object) ≡ 1 = ap (λ o. times c.in-Some.h (option_to_list o)) c.in-Some.is ∙ once c.in-Some.h c.in-Some.h refl in
    let some : IsSome (counts_at c.args.counts.now c.in-Some.h) = c.requires.there c.in-Some.h (omega (arith, one)) in
    subst (λ o. Moves c.args.counts.now c.name.new.self (option_to_list o) []) (sym c.in-Some.is) (moves_named c.args.counts.now c.name.new.self c.in-Some.h c.name.ensures.changes some)

pub returns-in_default : goal.returns-in_default
returns-in_default c = subst (λ o. Moves c.args.counts.now c.args.counts.now (option_to_list o) []) (sym c.in_default.is) (moves_none c.args.counts.now)
