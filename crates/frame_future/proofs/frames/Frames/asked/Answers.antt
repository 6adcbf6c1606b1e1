use Rattle.std.proofs.Common.{sym, ◌∙◌}
use Rattle.frame_future.specs.Future.{is_picture_of}
use Rattle.frame_future.specs.contracts.frames.Frames.{the_view}
use Rattle.frame_future.proofs.Finds.{asked_none, asked_some, picture_here}
use Rattle.frame_future.proofs.Lists.{found_none}
use Rattle.frame_future.proofs.frames.Frames.asked.Goals as goal

pub returns-in-Some : goal.returns-in-Some
returns-in-Some c =
    let s = c.args.self.now in
    let p = c.index.result.now in
    let found = picture_here (the_view c.self.inside) s c.args.frame c.in-Some.place p c.self.view_is (sym c.picture_of.ensures ∙ c.in-Some.is) c.index.ensures in
    c.channels.ensures ∙ sym (asked_some s c.args.frame p found.2)

pub returns-in-None : goal.returns-in-None
returns-in-None c =
    let s = c.args.self.now in
    sym (asked_none s c.args.frame (found_none (is_picture_of c.args.frame) s.pictures (sym c.picture_of.ensures ∙ c.in-None.is)))
