use Rattle.std.proofs.Common.{◌≡◌, ◌∙◌, ◌==◌, ◌&&◌, ◌<◌, ℕ, zero, suc, true, not, refl, ap, sym, arith}
use Rattle.std.specs.Prelude.{nat_lt}
use Rattle.std.specs.Option.{is_some}
use Rattle.std.proofs.Math.Dec.{eqb-suc-zero}
use Rattle.std.proofs.lemmas.Bool.{lt-ltb}
use Rattle.object_steps.proofs.Standings.{led}
use Rattle.object_steps.specs.Resting.{past_of}
use Rattle.seq_model.specs.Histories.{public}
use Rattle.seq_model.specs.Refusals.{phase_at}
use Rattle.seq_model.specs.State.{ticket_in}
use Rattle.seq_model.specs.Steps.{Past, after}
use Rattle.device_parts.specs.AllParts.{Inside}
use Rattle.device_parts.proofs.parts.Parts.is_waited_for.Goals as goal

-- more than none
not_none : (n : ℕ) → not (n == 0) ≡ nat_lt 0 n
not_none zero = refl
not_none (suc n) = let some : 0 < suc n = omega arith in ap not (eqb-suc-zero n) ∙ sym (lt-ltb 0 (suc n) some)

pub returns-then-is_some : goal.returns-then-is_some
returns-then-is_some c =
    let i = c.args.self.now in
    let stored = c.store.ensures ∙ ap (λ (i : Inside). i.objects.stored) c.self.view_is in
    let history = ap (λ (i : Inside). i.history) c.new-recorded.ensures in
    let rested : c.new-device.result ≡ record { stored = i.objects.stored; history = i.history } = c.new-device.ensures ∙ (λ k. record { stored = stored k; history = history k }) in
    let past : past_of c.new-device.result ≡ after i.history = ap past_of rested ∙ led i.objects.stored i.history c.are_parts.ensures.rest in
    let flies : is_some (ticket_in (phase_at (after i.history) c.args.h)) ≡ true =
    ap is_some (sym (c.ticket.ensures.standing c.requires.stands)) ∙ sym c.is_some.ensures ∙ c.if-is_some.true in
    c.is_held.ensures ∙ not_none (public (past_of c.new-device.result).seen c.args.h) ∙ ap (λ (past : Past). nat_lt 0 (public past.seen c.args.h)) past
    ∙ ap (λ b. b && nat_lt 0 (public (after i.history).seen c.args.h)) (sym flies)
