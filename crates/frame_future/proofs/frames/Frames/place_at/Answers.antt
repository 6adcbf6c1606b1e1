use Rattle.std.proofs.Common.{IsSome, true≢false, ◌∙◌, sym, subst}
use Rattle.frame_future.specs.Future.{has_ticket}
use Rattle.frame_future.proofs.Lists.{found_none}
use Rattle.frame_future.proofs.frames.Frames.place_at.Goals as goal

pub unreachable-requires : goal.unreachable-requires
unreachable-requires c =
    let none = found_none (has_ticket c.args.ticket) c.args.self.now.flights (sym c.place_of.ensures ∙ c.in-None.is) in
    true≢false (sym (subst IsSome none c.requires))

pub returns : goal.returns
returns c = sym c.place_of.ensures ∙ c.in-Some.is
