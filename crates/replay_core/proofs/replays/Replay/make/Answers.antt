use Rattle.std.proofs.Common.{◌≡◌, List, Some, ap, subst, sym}
use Rattle.std.proofs.lemmas.Result.{on_ok_weaker}
use Rattle.device_parts.specs.Makes.{array_of}
use Rattle.replay_core.specs.Held.{loan_by}
use Rattle.replay_core.specs.Labels.{call_of, handle_of}
use Rattle.replay_core.specs.Loans.{mapped_content}
use Rattle.replay_core.specs.Solo.{Replay}
use Rattle.replay_core.specs.declared.bindings.Binding.{Binding}
use Rattle.replay_core.proofs.LoanFacts.{blank_told, loan_told}
use Rattle.replay_core.proofs.ReplayFacts.{made_by}
use Rattle.replay_core.proofs.replays.Replay.make.Goals as goal

pub take_reply-requires : goal.take_reply-requires
take_reply-requires c =
    blank_told c.finish_asked.new.self.past (handle_of c.args.self.now.bound c.args.phase c.args.caller) c.args.c.now c.args.call c.in_ok-made.made.0 c.in_ok-made.made.1
    c.requires c.in_ok-made.ensures.reply c.in_ok-made.ensures.loan

pub returns : goal.returns
returns c =
    let asked : c.finish_asked.new.self.bound ≡ c.args.self.now.bound = ap (λ (r : Replay). r.bound) c.finish_asked.ensures.past in
    let entered : c.enter.new.self.bound ≡ c.finish_asked.new.self.bound = ap (λ (r : Replay). r.bound) c.in_ok-made.ensures.past in
    let content = mapped_content c.finish_asked.new.self.past (handle_of c.finish_asked.new.self.bound c.args.phase c.args.caller) c.args.c.now in
    on_ok_weaker c.take_reply.result
    (λ left. made_by c.args.phase c.args.caller c.args.c.now c.args.call c.args.self.now c.finish_asked.new.self c.enter.new.self c.take_reply.new.self
    c.place-place.result c.in_ok-made.made.0 c.finish_asked.ensures.past c.place-place.ensures c.in_ok-made.ensures.past c.in_ok-made.ensures.reply left)
    (c.take_reply.ensures content
    (subst (λ (bound : List Binding). array_of c.in_ok-made.made.1 ≡ loan_by content (handle_of bound c.args.phase c.args.caller) c.args.c.now c.in_ok-made.made.0) (sym entered)
    (loan_told c.finish_asked.new.self.past (handle_of c.finish_asked.new.self.bound c.args.phase c.args.caller) c.args.c.now c.args.call c.in_ok-made.made.0 c.in_ok-made.made.1
    (subst (λ (bound : List Binding). call_of (handle_of bound c.args.phase c.args.caller) c.args.c.now ≡ Some c.args.call) (sym asked) c.requires)
    c.in_ok-made.ensures.reply c.in_ok-made.ensures.loan)))
