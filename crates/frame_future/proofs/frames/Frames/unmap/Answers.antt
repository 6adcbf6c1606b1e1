use Rattle.std.proofs.Common.{◌≡◌, Some, ap, subst, refl, ◌∙◌}
use Rattle.std.specs.List.{position}
use Rattle.std.specs.Option.{MatchOption}
use Rattle.frame_future.specs.Future.{Finished, given_back, is_picture_of, IsOut}
use Rattle.frame_future.specs.contracts.frames.Frames.{the_view}
use Rattle.frame_future.proofs.Changes.{picture_kept, picture_seen}
use Rattle.frame_future.proofs.Finds.{and_some, picture_here}
use Rattle.frame_future.proofs.frames.Frames.unmap.Goals as goal

pub invariant_of-self : goal.invariant_of-self
invariant_of-self c =
    let s = c.args.self.now in
    let m = c.args.frame in
    let p = c.index_mut.result.now in
    let q = c.take_back.new.self in
    let both = subst (λ o. MatchOption o (IsOut s m → ⊥) (λ place. (position (is_picture_of m.frame) s.pictures ≡ Some place) × IsOut s m)) c.in-Some.is c.place_of_loan.ensures in
    picture_kept (the_view c.self.inside) s _ m.frame c.in-Some.place p q c.self.view_is both.0 c.index_mut.ensures.value (ap (λ (r : Finished). r.frame) c.take_back.ensures) c.self.invariant

pub returns-in-Some-clause-ended : goal.returns-in-Some-clause-ended
returns-in-Some-clause-ended c =
    let s = c.args.self.now in
    let m = c.args.frame in
    let p = c.index_mut.result.now in
    let q = c.take_back.new.self in
    let both = subst (λ o. MatchOption o (IsOut s m → ⊥) (λ place. (position (is_picture_of m.frame) s.pictures ≡ Some place) × IsOut s m)) c.in-Some.is c.place_of_loan.ensures in
    let found = picture_here (the_view c.self.inside) s m.frame c.in-Some.place p c.self.view_is both.0 c.index_mut.ensures.value in
    and_some _ _ p found.2 (picture_seen (the_view c.self.inside) s m.frame c.in-Some.place p q (given_back p m.channel) c.self.view_is both.0 c.index_mut.ensures.value (c.take_back.ensures ∙ ap (given_back p) c.channel.ensures) refl)
