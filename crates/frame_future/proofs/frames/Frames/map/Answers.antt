use Rattle.std.proofs.Common.{◌≡◌, ◌⊎◌, ℕ, None, Some, Err, IfErr, IfOk, IfSome, inl, sym, ap, subst, refl, ◌∙◌}
use Rattle.std.specs.Option.{IsSomeAnd}
use Rattle.dev_types.specs.declared.refusals.Refused.{Refused}
use Rattle.dev_types.specs.declared.refusals.Refused.TheVariants.{InFlight, NoPicture, NoMemory}
use Rattle.frame_future.specs.Flights.{awaited}
use Rattle.frame_future.specs.Future.{Finished, is_flight_of, is_picture_of, lent_as, loan_from, refusal_by, refusal_of_map, refusal_of_picture, shown_by}
use Rattle.frame_future.specs.Mapped.{Mapped}
use Rattle.frame_future.specs.contracts.frames.Frames.{the_view}
use Rattle.frame_future.proofs.Changes.{lent_kept, on_ok, picture_kept, picture_seen}
use Rattle.frame_future.proofs.Finds.{and_some, flight_here, if_some, picture_here}
use Rattle.frame_future.proofs.Lists.{found_none}
use Rattle.frame_future.proofs.frames.Frames.map.Goals as goal

pub returns-in-Some-clause-refused : goal.returns-in-Some-clause-refused
returns-in-Some-clause-refused c =
    let s = c.args.self.now in
    let f = c.index.result.now in
    let found = flight_here (the_view c.self.inside) s (is_flight_of c.args.frame) c.in-Some.place f c.self.view_is (sym c.flight_of.ensures ∙ c.in-Some.is) c.index.ensures in
    let is = ap (λ o. refusal_by o (shown_by s c.args.frame) c.args.channel) found.2 in
    if_some _ _ (InFlight f.looked (awaited f)) is (ap (λ (t : ℕ × ℕ). Err (InFlight t.0 t.1)) c.last_look-given.ensures.value)

pub returns-in-Some-clause-causes : goal.returns-in-Some-clause-causes
returns-in-Some-clause-causes c =
    let s = c.args.self.now in
    let f = c.index.result.now in
    let found = flight_here (the_view c.self.inside) s (is_flight_of c.args.frame) c.in-Some.place f c.self.view_is (sym c.flight_of.ensures ∙ c.in-Some.is) c.index.ensures in
    let is = ap (λ o. refusal_by o (shown_by s c.args.frame) c.args.channel) found.2 in
    inl (is ∙ ap (λ (t : ℕ × ℕ). Some (InFlight t.0 t.1)) (sym c.last_look-given.ensures.value))

pub invariant_of-self : goal.invariant_of-self
invariant_of-self c =
    let s = c.args.self.now in
    let p = c.index_mut.result.now in
    let at = sym c.picture_of.ensures ∙ c.in-Some-picture_of.is in
    picture_kept (the_view c.self.inside) s _ c.args.frame c.in-Some-picture_of.place p c.lend.new.picture c.self.view_is at c.index_mut.ensures.value
    (lent_kept c.lend.result p c.lend.new.picture c.args.channel c.args.number c.lend.ensures.lent c.lend.ensures.unchanged) c.self.invariant

pub returns-in-Some-picture_of-clause-refused : goal.returns-in-Some-picture_of-clause-refused
returns-in-Some-picture_of-clause-refused c =
    let s = c.args.self.now in
    let p = c.index_mut.result.now in
    let at = sym c.picture_of.ensures ∙ c.in-Some-picture_of.is in
    let found = picture_here (the_view c.self.inside) s c.args.frame c.in-Some-picture_of.place p c.self.view_is at c.index_mut.ensures.value in
    let none = found_none (is_flight_of c.args.frame) s.flights (sym c.flight_of.ensures ∙ c.in_default.is) in
    let is : refusal_of_map s c.args.frame c.args.channel ≡ refusal_of_picture p c.args.channel = (λ i. refusal_by (none i) (found.2 i) c.args.channel) in
    subst (λ o. IfSome o (λ (e : Refused). c.lend.result ≡ Err e)) (sym is) c.lend.ensures.refused

pub returns-in-Some-picture_of-clause-causes : goal.returns-in-Some-picture_of-clause-causes
returns-in-Some-picture_of-clause-causes c =
    let s = c.args.self.now in
    let p = c.index_mut.result.now in
    let at = sym c.picture_of.ensures ∙ c.in-Some-picture_of.is in
    let found = picture_here (the_view c.self.inside) s c.args.frame c.in-Some-picture_of.place p c.self.view_is at c.index_mut.ensures.value in
    let none = found_none (is_flight_of c.args.frame) s.flights (sym c.flight_of.ensures ∙ c.in_default.is) in
    let is : refusal_of_map s c.args.frame c.args.channel ≡ refusal_of_picture p c.args.channel = (λ i. refusal_by (none i) (found.2 i) c.args.channel) in
    subst (λ o. IfErr c.lend.result (λ (e : Refused). (o ≡ Some e) ⊎ ((o ≡ None) × (e ≡ NoMemory)))) (sym is) c.lend.ensures.causes

pub returns-in-Some-picture_of-clause-loan : goal.returns-in-Some-picture_of-clause-loan
returns-in-Some-picture_of-clause-loan c =
    let s = c.args.self.now in
    let p = c.index_mut.result.now in
    let at = sym c.picture_of.ensures ∙ c.in-Some-picture_of.is in
    let found = picture_here (the_view c.self.inside) s c.args.frame c.in-Some-picture_of.place p c.self.view_is at c.index_mut.ensures.value in
    let none = found_none (is_flight_of c.args.frame) s.flights (sym c.flight_of.ensures ∙ c.in_default.is) in
    let is : refusal_of_map s c.args.frame c.args.channel ≡ refusal_of_picture p c.args.channel = (λ i. refusal_by (none i) (found.2 i) c.args.channel) in
    subst (λ o. IfOk c.lend.result (λ (m : Mapped). IsSomeAnd o (λ (q : Finished). m ≡ loan_from q c.args.channel c.args.number))) (sym found.2) c.lend.ensures.loan

pub returns-in-Some-picture_of-clause-lent : goal.returns-in-Some-picture_of-clause-lent
returns-in-Some-picture_of-clause-lent c =
    let s = c.args.self.now in
    let p = c.index_mut.result.now in
    let at = sym c.picture_of.ensures ∙ c.in-Some-picture_of.is in
    let found = picture_here (the_view c.self.inside) s c.args.frame c.in-Some-picture_of.place p c.self.view_is at c.index_mut.ensures.value in
    let none = found_none (is_flight_of c.args.frame) s.flights (sym c.flight_of.ensures ∙ c.in_default.is) in
    let is : refusal_of_map s c.args.frame c.args.channel ≡ refusal_of_picture p c.args.channel = (λ i. refusal_by (none i) (found.2 i) c.args.channel) in
    on_ok c.lend.result _ _ (λ same. and_some _ _ p found.2 (picture_seen (the_view c.self.inside) s c.args.frame c.in-Some-picture_of.place p c.lend.new.picture (lent_as p c.args.channel c.args.number) c.self.view_is at c.index_mut.ensures.value same refl)) c.lend.ensures.lent

pub returns-in-None-clause-refused : goal.returns-in-None-clause-refused
returns-in-None-clause-refused c =
    let s = c.args.self.now in
    let none = found_none (is_flight_of c.args.frame) s.flights (sym c.flight_of.ensures ∙ c.in_default.is) in
    let gone = found_none (is_picture_of c.args.frame) s.pictures (sym c.picture_of.ensures ∙ c.in-None.is) in
    let is : refusal_of_map s c.args.frame c.args.channel ≡ Some NoPicture = (λ i. refusal_by (none i) (gone i) c.args.channel) in
    if_some _ _ NoPicture is refl

pub returns-in-None-clause-causes : goal.returns-in-None-clause-causes
returns-in-None-clause-causes c =
    let s = c.args.self.now in
    let none = found_none (is_flight_of c.args.frame) s.flights (sym c.flight_of.ensures ∙ c.in_default.is) in
    let gone = found_none (is_picture_of c.args.frame) s.pictures (sym c.picture_of.ensures ∙ c.in-None.is) in
    let is : refusal_of_map s c.args.frame c.args.channel ≡ Some NoPicture = (λ i. refusal_by (none i) (gone i) c.args.channel) in
    inl is
