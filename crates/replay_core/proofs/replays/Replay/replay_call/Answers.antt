use Rattle.std.proofs.Common.{◌≡◌, ◌∙◌, OnOk, subst, sym}
use Rattle.replay_core.proofs.ReplayFacts.{end_of_loan, replayed_call}
use Rattle.replay_core.specs.Solo.{Replay}
use Rattle.replay_core.proofs.replays.Replay.replay_call.Goals as goal

pub returns-in-EndLoan : goal.returns-in-EndLoan
returns-in-EndLoan c =
    rw c.in-EndLoan.is
    (subst (λ (r : Replay). OnOk c.unmap.result (c.unmap.new.self ≡ r)) (end_of_loan c.args.phase c.args.caller c.args.self.now) c.unmap.ensures)

pub returns-in-Some : goal.returns-in-Some
returns-in-Some c =
    subst (λ (r : Replay). OnOk c.make.result (c.make.new.self ≡ r))
    (replayed_call c.args.phase c.args.caller c.args.self.now c.args.c.now c.in-Some.call (sym c.in_ok-call.ensures ∙ c.in-Some.is)) c.make.ensures
