use Rattle.std.proofs.Common.{◌≡◌, IfOk, List, ap, subst}
use Rattle.device_parts.specs.Makes.{array_of}
use Rattle.replay_core.specs.Held.{loan_by}
use Rattle.replay_core.specs.Labels.{handle_of}
use Rattle.replay_core.specs.Loans.{unmap_by}
use Rattle.replay_core.specs.Solo.{Replay}
use Rattle.replay_core.specs.declared.bindings.Binding.{Binding}
use Rattle.replay_core.proofs.replays.Replay.gained.Goals as goal

pub returns-clause-unmap : goal.returns-clause-unmap
returns-clause-unmap c = λ content.
    subst (λ (bound : List Binding). array_of c.args.out ≡ loan_by content (handle_of bound c.args.phase c.args.caller) c.args.c.now c.args.reply.now
    → IfOk c.gained.result (λ g. g.1 ≡ unmap_by content c.args.place (handle_of bound c.args.phase c.args.caller) c.args.c.now c.args.reply.now))
    (ap (λ (r : Replay). r.bound) c.self.view_is) (c.gained.ensures.unmap content)
