use Rattle.std.proofs.Common.{◌≡◌, true≢false, None, Some, sym, ap, subst, ◌∙◌}
use Rattle.std.proofs.lemmas.Option.{none-some}
use Rattle.std.specs.List.{position}
use Rattle.frame_future.specs.Channels.{loan_of}
use Rattle.frame_future.specs.Future.{is_picture_of}
use Rattle.frame_future.specs.contracts.frames.Frames.{the_view}
use Rattle.frame_future.proofs.Finds.{picture_here}
use Rattle.frame_future.proofs.Lists.{found_none}
use Rattle.frame_future.proofs.frames.Frames.place_of_loan.Goals as goal

pub returns-then-is_out : goal.returns-then-is_out
returns-then-is_out c =
    let s = c.args.self.now in
    let m = c.args.frame.now in
    let p = c.index.result.now in
    let at = subst (λ h. position (is_picture_of h) s.pictures ≡ Some c.in-Some.place) c.frame.ensures (sym c.picture_of.ensures ∙ c.in-Some.is) in
    let found = picture_here (the_view c.self.inside) s m.frame c.in-Some.place p c.self.view_is at c.index.ensures in
    let out = (λ i. loan_of p.loans (sym c.channel.ensures i)) ∙ c.is_out.ensures.0 c.if-is_out.true ∙ ap Some c.number.ensures in
    (at, (p, found.2, out))

pub returns-else-is_out : goal.returns-else-is_out
returns-else-is_out c = λ out.
    let s = c.args.self.now in
    let m = c.args.frame.now in
    let p = c.index.result.now in
    let at = subst (λ h. position (is_picture_of h) s.pictures ≡ Some c.in-Some.place) c.frame.ensures (sym c.picture_of.ensures ∙ c.in-Some.is) in
    let found = picture_here (the_view c.self.inside) s m.frame c.in-Some.place p c.self.view_is at c.index.ensures in
    let both : Some out.0 ≡ Some p = sym out.1 ∙ found.2 in
    let same : out.0 ≡ p = cc in
    let lent : loan_of p.loans c.channel.result ≡ Some c.number.result = (λ i. loan_of (sym same i).loans (c.channel.ensures i)) ∙ out.2 ∙ ap Some (sym c.number.ensures) in
    true≢false (sym (c.is_out.ensures.1 lent) ∙ c.if-is_out.false)

pub returns-in-None : goal.returns-in-None
returns-in-None c = λ out.
    let s = c.args.self.now in
    let m = c.args.frame.now in
    let none = found_none (is_picture_of m.frame) s.pictures (subst (λ h. position (is_picture_of h) s.pictures ≡ None) c.frame.ensures (sym c.picture_of.ensures ∙ c.in-None.is)) in
    none-some out.0 (sym none ∙ out.1)
