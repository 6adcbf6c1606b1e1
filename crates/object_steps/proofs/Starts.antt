-- A new store rests before anything happened.
use Rattle.std.proofs.Common.{ℕ, ◌≡◌, ◌∙◌, [], refl, sym, ap, subst}
use Rattle.std.specs.Option.{IsSome}
use Rattle.object_store.specs.Kept.{Stored, number_at}
use Rattle.seq_model.specs.Legal.{GoesOn, Legal}
use Rattle.seq_model.specs.State.{empty, object_at}
use Rattle.seq_model.specs.Steps.{after}
use Rattle.object_steps.specs.Resting.{IsAtRest, reaches}

legal_first : Legal []
unfolding Legal GoesOn
legal_first = tt

state_first : empty ≡ (after []).state
unfolding after
state_first = refl

nothing_there : (h : ℕ) → IsSome (object_at empty h) → ⊥
nothing_there h some = cc

pub rests_first : (s : Stored) → s.state ≡ empty → s.public ≡ [] → s.holds ≡ [] → IsAtRest s []
rests_first s state public_ holds_ = record {
  legal = legal_first;
  state = state ∙ state_first;
  public = λ h some. absurd (nothing_there h (subst (λ st. IsSome (object_at st h)) state some));
  holds = λ h. ap (λ ns. number_at ns h) holds_ ∙ sym (ap (λ st. reaches (after []).reached st h) state);
}
