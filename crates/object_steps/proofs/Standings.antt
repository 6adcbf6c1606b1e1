-- What a view of a store at rest tells of the past.
use Rattle.std.proofs.Common.{ℕ, ◌==◌, ◌≡◌, not, false, None, refl, sym, ap, subst}
use Rattle.std.specs.Option.{is_some}
use Rattle.dev_types.specs.declared.data_types.DataType.TheVariants as ty
use Rattle.dev_types.specs.declared.refusals.Refused.TheVariants.{NoSuchName}
use Rattle.object_store.specs.Kept.{Stored}
use Rattle.object_store.proofs.Counted.{none_by}
use Rattle.past_laws.specs.Open.{IsOpen}
use Rattle.past_laws.proofs.Follows.{one_call_more}
use Rattle.seq_model.specs.Answers.{IsAnswer, answer}
use Rattle.seq_model.specs.Histories.{History, public}
use Rattle.seq_model.specs.Legal.{Legal}
use Rattle.seq_model.specs.Refusals.{refusal, refusals_of}
use Rattle.seq_model.specs.State.{object_at}
use Rattle.seq_model.specs.Steps.{Past, after}
use Rattle.seq_model.specs.declared.calls.Call.TheVariants.{Subtypes}
use Rattle.seq_model.specs.declared.calls.Entry.TheVariants.{Called}
use Rattle.seq_model.specs.declared.calls.Reply.TheVariants as reply
use Rattle.seq_model.proofs.Afters.{seen_is_history}
use Rattle.seq_model.proofs.Held.{what_is_gone_is_not_held}
use Rattle.object_steps.specs.Resting.{IsAtRest, past_of}

-- a question that each device refuses
refused_question : (past : Past) → IsAnswer past (Subtypes ty.Int32) (reply.Denied NoSuchName)
unfolding IsAnswer answer refusal refusals_of
refused_question past = refl

-- where a call may follow, what is gone is not held
pub gone_unheld : (history : History) → Legal history → IsOpen history → (h : ℕ) → object_at (after history).state h ≡ None → public history h ≡ 0
gone_unheld history legal open_ h gone =
    what_is_gone_is_not_held history (Called 0 (Subtypes ty.Int32) (reply.Denied NoSuchName)) h
    (one_call_more history 0 (Subtypes ty.Int32) (reply.Denied NoSuchName) legal (open_ 0 (Subtypes ty.Int32) (reply.Denied NoSuchName)) (refused_question (after history)) refl tt) gone

-- the past of a store at rest is where its history led
pub led : (s : Stored) (history : History) → IsAtRest s history → past_of (record { stored = s; history = history }) ≡ after history
led s history rest = λ i. record { seen = sym (seen_is_history history) i; state = rest.state i; reached = (after history).reached }

-- what is gone is not held
pub held_gone : (s : Stored) (history : History) (h : ℕ) → IsAtRest s history → IsOpen history → false ≡ is_some (object_at s.state h) → false ≡ not (public history h == 0)
held_gone s history h rest open_ there =
    let gone : object_at s.state h ≡ None = none_by (object_at s.state h) (sym there) in
    ap (λ n. not (n == 0)) (sym (gone_unheld history rest.legal open_ h (subst (λ st. object_at st h ≡ None) rest.state gone)))
