use Rattle.std.proofs.Common.{◌≡◌, ◌∙◌, IfOk, OnOk, ap, subst}
use Rattle.std.proofs.lemmas.Result.{on_ok_weaker}
use Rattle.object_steps.specs.Carrying.{handed}
use Rattle.object_steps.specs.declared.array_loans.ArrayLoan.TheVariants.{Nothing}
use Rattle.device_parts.specs.Makes.{array_of}
use Rattle.seq_model.specs.Endings.{reply_to}
use Rattle.seq_model.specs.Steps.{next_place}
use Rattle.seq_model.specs.declared.calls.Call.{Call}
use Rattle.solo_device.specs.OneThread.{with_call}
use Rattle.replay_core.specs.Solo.{Replay}
use Rattle.replay_core.proofs.LoanFacts.{entered_as_made}
use Rattle.replay_core.proofs.ReplayFacts.{hears_on, tried_ok}
use Rattle.replay_core.proofs.replays.Replay.enter.Goals as goal

pub invariant_of-self-inside : goal.invariant_of-self-inside
invariant_of-self-inside c = (hears_on c.self.inside.device c.step.new.self c.step.ensures.told c.self.inside.heard, tt)

pub returns-clause-past : goal.returns-clause-past
returns-clause-past c =
    subst (λ (old : Replay). OnOk c.made_or_short.result (record { past = c.step.new.self.past; bound = c.self.inside.bound; loans = c.self.inside.loans.items } ≡ record old { past = with_call c.args.caller c.args.call old.past })) c.self.view_is
    (tried_ok c.made_or_short.result c.step.result _ c.made_or_short.ensures
    (on_ok_weaker c.step.result
    (λ past. ap (λ p. record { past = p; bound = c.self.inside.bound; loans = c.self.inside.loans.items })
    (past ∙ ap (λ (call : Call). with_call c.args.caller call c.self.inside.device.past) (entered_as_made c.self.inside.device.past c.args.call c.requires.plain)))
    c.step.ensures.past))

pub returns-clause-reply : goal.returns-clause-reply
returns-clause-reply c =
    subst (λ (old : Replay). IfOk c.made_or_short.result (λ r. r.0 ≡ reply_to old.past c.args.call)) c.self.view_is
    (tried_ok c.made_or_short.result c.step.result _ c.made_or_short.ensures
    (subst (λ (call : Call). IfOk c.step.result (λ r. r.0 ≡ reply_to c.self.inside.device.past call)) (entered_as_made c.self.inside.device.past c.args.call c.requires.plain) c.step.ensures.reply))

pub returns-clause-loan : goal.returns-clause-loan
returns-clause-loan c =
    subst (λ (old : Replay). IfOk c.made_or_short.result (λ r. array_of r.1 ≡ handed (next_place old.past) c.args.call r.0 old.past.state Nothing)) c.self.view_is
    (tried_ok c.made_or_short.result c.step.result _ c.made_or_short.ensures
    (subst (λ (call : Call). IfOk c.step.result (λ r. array_of r.1 ≡ handed (next_place c.self.inside.device.past) call r.0 c.self.inside.device.past.state Nothing))
    (entered_as_made c.self.inside.device.past c.args.call c.requires.plain) c.step.ensures.array))
