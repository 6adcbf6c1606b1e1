use Rattle.std.proofs.Common.{◌≡◌, ◌∙◌, Option, None, Some, refl, sym, ap, subst, true≢false}
use Rattle.std.specs.Prelude.{IfSome, IsSome, option_copied}
use Rattle.std.specs.List.{find}
use Rattle.flight_books.specs.declared.kept.Cargo.{Cargo}
use Rattle.device_parts.specs.Lends.{is_lent}
use Rattle.device_parts.specs.declared.loads.Load.{Load}
use Rattle.device_parts.proofs.lends.lent_ticket.Goals as goal

pub unreachable-requires : goal.unreachable-requires
unreachable-requires c =
    let none : find is_lent c.args.flights.now.cargo ≡ None = ap (find is_lent) (sym c.cargo.ensures) ∙ sym c.lent_cargo.ensures ∙ ap option_copied c.in_default.is in
    true≢false (sym (subst (λ (o : Option (Cargo Load)). IsSome o) none c.requires))

pub returns : goal.returns
returns c =
    let some : find is_lent c.args.flights.now.cargo ≡ Some c.in-Some.cargo.now = ap (find is_lent) (sym c.cargo.ensures) ∙ sym c.lent_cargo.ensures ∙ ap option_copied c.in-Some.is in
    subst (λ o. IfSome o (λ (k : Cargo Load). c.in-Some.cargo.now.ticket ≡ k.ticket)) (sym some) refl
