-- Calls that need no memory, and their replies.
use Rattle.std.proofs.Common.{◌≡◌, ℕ, Bool, false, true, Option, None, Some, refl, subst}
use Rattle.std.specs.Option.{option_map, option_or}
use Rattle.answered_calls.specs.Tells.{with_given}
use Rattle.call_answers.specs.Plain.{needs_no_memory}
use Rattle.dev_types.specs.declared.refusals.Refused.{Refused}
use Rattle.dev_types.specs.declared.refusals.Refused.TheVariants.{InFlight}
use Rattle.seq_model.specs.Answers.{answer, granted, readiness}
use Rattle.seq_model.specs.Contents.{entered}
use Rattle.seq_model.specs.Pictures.{tiles_at}
use Rattle.seq_model.specs.Refusals.{phase_at, refusal}
use Rattle.seq_model.specs.State.{Done, Empty, Flight, Phase}
use Rattle.seq_model.specs.Steps.{Past}
use Rattle.seq_model.specs.declared.calls.Call.{Call}
use Rattle.seq_model.specs.declared.calls.Call.TheVariants.{DiscardFrame, FrameReady, Release, Retain, UnmapArray, UnmapFrame, UnmapParameterArray}
use Rattle.seq_model.specs.declared.calls.Reply.{Reply}
use Rattle.seq_model.specs.declared.calls.Reply.TheVariants as reply
use Rattle.device_parts.specs.Calls.{is_short}

-- such a call is entered as it was made
pub plain_entered : (past : Past) (call : Call) → needs_no_memory call ≡ true → entered past call ≡ call
unfolding entered
plain_entered past (UnmapArray h number bytes) needs = absurd cc
plain_entered past (UnmapParameterArray h name number bytes) needs = absurd cc
plain_entered past call needs = refl

short_done : (r : Reply) → Some reply.Done ≡ Some r → is_short r ≡ true
short_done r is = let same : reply.Done ≡ r = cc in subst (λ r. is_short r ≡ true) same refl

short_ready : (past : Past) (wait : Bool) (phase : Phase) (r : Reply) → readiness past wait phase ≡ Some r → is_short r ≡ true
short_ready past wait Empty r is = absurd cc
short_ready past true (Flight t) r is = absurd cc
short_ready past false (Flight t) r is =
    let same : reply.NotReady 0 (tiles_at past.seen t) ≡ r = cc in subst (λ r. is_short r ≡ true) same refl
short_ready past wait (Done t) r is = let same : reply.Ready ≡ r = cc in subst (λ r. is_short r ≡ true) same refl

short_granted : (past : Past) (call : Call) (r : Reply) → needs_no_memory call ≡ true → granted past call ≡ Some r → is_short r ≡ true
short_granted past (Retain h) r needs is = short_done r is
short_granted past (Release h) r needs is = short_done r is
short_granted past (DiscardFrame h) r needs is = short_done r is
short_granted past (UnmapFrame h number) r needs is = short_done r is
short_granted past (FrameReady h wait) r needs is = short_ready past wait (phase_at past h) r is
short_granted past call r needs is = absurd cc

short_either : (x : Option Refused) (g : Option Reply) (r : Reply) → ((r : Reply) → g ≡ Some r → is_short r ≡ true)
    → option_or (option_map reply.Denied x) g ≡ Some r → is_short r ≡ true
short_either (Some refused) g r short is = let same : reply.Denied refused ≡ r = cc in subst (λ r. is_short r ≡ true) same refl
short_either None g r short is = short r is

-- and its reply tells of no bytes, names or properties
pub short_answer : (past : Past) (call : Call) (r : Reply) → needs_no_memory call ≡ true → answer past call ≡ Some r → is_short r ≡ true
unfolding answer
short_answer past call r needs is = short_either (refusal past call) (granted past call) r (λ r. short_granted past call r needs) is

-- also with what a look at a flight read
pub short_given : (given : ℕ) (r : Reply) → is_short r ≡ true → is_short (with_given given r) ≡ true
short_given given (reply.NotReady read of) short = refl
short_given given (reply.Denied (InFlight read of)) short = refl
short_given given r short = short
