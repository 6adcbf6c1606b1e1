use Rattle.std.proofs.Common.{sym, ap, refl, ◌∙◌}
use Rattle.std.specs.Option.{option_map_or}
use Rattle.frame_future.specs.Future.{Finished, given_back, is_picture_of, with_picture}
use Rattle.frame_future.specs.contracts.frames.Frames.{the_view}
use Rattle.frame_future.proofs.Changes.{picture_kept, picture_seen}
use Rattle.frame_future.proofs.Finds.{picture_here}
use Rattle.frame_future.proofs.Lists.{found_none}
use Rattle.frame_future.proofs.frames.Frames.end_loan.Goals as goal

pub invariant_of-self : goal.invariant_of-self
invariant_of-self c =
    let s = c.args.self.now in
    let p = c.index_mut.result.now in
    let at = sym c.picture_of.ensures ∙ c.in-Some.is in
    picture_kept (the_view c.self.inside) s _ c.args.frame c.in-Some.place p c.take_back.new.self c.self.view_is at c.index_mut.ensures.value (ap (λ (r : Finished). r.frame) c.take_back.ensures) c.self.invariant

pub returns-in-Some : goal.returns-in-Some
returns-in-Some c =
    let s = c.args.self.now in
    let p = c.index_mut.result.now in
    let at = sym c.picture_of.ensures ∙ c.in-Some.is in
    let found = picture_here (the_view c.self.inside) s c.args.frame c.in-Some.place p c.self.view_is at c.index_mut.ensures.value in
    picture_seen (the_view c.self.inside) s c.args.frame c.in-Some.place p c.take_back.new.self (given_back p c.args.channel) c.self.view_is at c.index_mut.ensures.value c.take_back.ensures refl
    ∙ sym (ap (λ o. option_map_or (λ q. with_picture s (given_back q c.args.channel)) o s) found.2)

pub returns-in-None : goal.returns-in-None
returns-in-None c =
    let s = c.args.self.now in
    let none = found_none (is_picture_of c.args.frame) s.pictures (sym c.picture_of.ensures ∙ c.in-None.is) in
    sym (ap (λ o. option_map_or (λ q. with_picture s (given_back q c.args.channel)) o s) none)
