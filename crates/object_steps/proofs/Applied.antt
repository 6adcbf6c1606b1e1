-- A call on objects leads from a store at rest to a store at rest.
use Rattle.std.proofs.Common.{ℕ, ◌+◌, ◌≡◌, ◌<◌, ◌≤◌, ◌^◌, ◌∙◌, true, false, List, Option, Some, None, length, refl, sym, subst, arith}
use Rattle.std.specs.Option.{MatchOption, option_map, option_to_list}
use Rattle.dev_types.specs.Refusals.{status_of}
use Rattle.dev_types.specs.declared.handles.Origin.TheVariants.{Captured, Managed, Shared}
use Rattle.dev_types.specs.declared.notices.Notice.{Notice}
use Rattle.dev_types.specs.declared.notices.Notice.TheVariants.{Told}
use Rattle.answered_calls.proofs.Cleaned.{entered_is_sound}
use Rattle.answered_calls.proofs.SeenTiles.{HasTiles, may_be_given}
use Rattle.call_answers.specs.Plain.{ShowsNoPicture}
use Rattle.object_store.specs.Kept.{CountsItsObjects, Stored}
use Rattle.past_laws.specs.Open.{IsOpen}
use Rattle.past_laws.proofs.Follows.{one_call_more}
use Rattle.past_laws.proofs.OpenFacts.{follow_more}
use Rattle.seq_model.specs.Answers.{answer}
use Rattle.seq_model.specs.Contents.{entered}
use Rattle.seq_model.specs.Endings.{waited_flight}
use Rattle.seq_model.specs.Extensions.{readings_of}
use Rattle.seq_model.specs.Histories.{History}
use Rattle.seq_model.specs.Legal.{IsNoLess, Legal, is_content_sound, reading}
use Rattle.seq_model.specs.Steps.{Past, after, step}
use Rattle.seq_model.specs.Told.{source_of, status_at}
use Rattle.seq_model.specs.declared.calls.Call.{Call}
use Rattle.seq_model.specs.declared.calls.Call.TheVariants.{NewArray, UnmapArray, UnmapParameterArray, RenderFrame, FrameReady, DiscardFrame, MapFrame, UnmapFrame}
use Rattle.seq_model.specs.declared.calls.Entry.TheVariants.{Called}
use Rattle.seq_model.specs.declared.calls.Reply.{Reply}
use Rattle.seq_model.specs.declared.calls.Reply.TheVariants as reply
use Rattle.seq_model.proofs.Afters.{after_more}
use Rattle.object_steps.specs.Applying.{tells_of_flights, is_object_call, with_call}
use Rattle.object_steps.specs.Carrying.{Brings, CanCarry, GivesBack, carried}
use Rattle.object_steps.specs.Objects.{Objects, one_if, takes_memory, tellable}
use Rattle.object_steps.specs.Resting.{Follows, HasRoom, IsAtRest, IsOfObjects, past_of}
use Rattle.object_steps.specs.declared.array_loans.ArrayLoan.{ArrayLoan}
use Rattle.object_steps.proofs.Carried.{can_carry}
use Rattle.object_steps.proofs.Given.{gives_back}
use Rattle.object_steps.proofs.Rested.{follows as followed}
use Rattle.object_steps.proofs.Tellables.{effect_tellable}
use Rattle.object_steps.proofs.Standings.{led}

-- room that was made changes nothing else
pub rests_with_room : (old now : Objects) (history : History) → IsAtRest old.stored history → now ≡ record old { stored = record old.stored { ready = now.stored.ready } } → IsAtRest now.stored history
rests_with_room old now history rest same =
    subst (λ (o : Objects). IsAtRest o.stored history) (sym same) (record { legal = rest.legal; state = rest.state; public = rest.public; holds = rest.holds })

-- a call on objects tells of no flight, and changes no frame, also as it is entered
pub tells_of_none : (call : Call) → is_object_call call ≡ true → tells_of_flights call ≡ false
tells_of_none (RenderFrame h) is = absurd cc
tells_of_none (FrameReady h wait) is = absurd cc
tells_of_none (MapFrame h channel) is = absurd cc
tells_of_none _ is = refl

of_objects : (past : Past) (call : Call) (r : Reply) → is_object_call call ≡ true → IsOfObjects (entered past call) r
unfolding entered
of_objects past (RenderFrame h) r is = absurd cc
of_objects past (DiscardFrame h) r is = absurd cc
of_objects past (MapFrame h channel) r is = absurd cc
of_objects past (UnmapFrame h number) r is = absurd cc
of_objects past (UnmapArray h number bytes) r is = tt
of_objects past (UnmapParameterArray h name number bytes) r is = tt
of_objects past _ r is = tt

pub entry_of_objects : (past : Past) (call entry : Call) (r : Reply) → entry ≡ entered past call → is_object_call call ≡ true → IsOfObjects entry r
entry_of_objects past call entry r is object = subst (λ c. IsOfObjects c r) (sym is) (of_objects past call r object)

-- what a call that tells of no flight does not do
pub shows_no_picture : (call : Call) → tells_of_flights call ≡ false → ShowsNoPicture call
shows_no_picture (MapFrame h channel) is = absurd cc
shows_no_picture _ is = tt

pub waits_for_none : (past : Past) (call : Call) → tells_of_flights call ≡ false → waited_flight past call ≡ None
waits_for_none past (FrameReady h wait) is = absurd cc
waits_for_none past _ is = refl

asks_for_no_flight : (past : Past) (call : Call) → tells_of_flights call ≡ false → HasTiles past call
asks_for_no_flight past (RenderFrame h) is = absurd cc
asks_for_no_flight past (FrameReady h wait) is = absurd cc
asks_for_no_flight past (MapFrame h channel) is = absurd cc
asks_for_no_flight past _ is = tt

reads_no_flight : (past : Past) (readings : List (ℕ × ℕ)) (actor : ℕ) (call : Call) (r : Reply) → tells_of_flights call ≡ false →
    MatchOption (reading past (Called actor call r)) (Unit {0}) (IsNoLess readings)
reads_no_flight past readings actor (RenderFrame h) r is = absurd cc
reads_no_flight past readings actor (FrameReady h wait) r is = absurd cc
reads_no_flight past readings actor (MapFrame h channel) r is = absurd cc
reads_no_flight past readings actor _ r is = tt

-- as it is entered it is made on the same objects
stays_quiet : (past : Past) (call : Call) → tells_of_flights call ≡ false → tells_of_flights (entered past call) ≡ false
unfolding entered
stays_quiet past (UnmapArray h number bytes) is = refl
stays_quiet past (UnmapParameterArray h name number bytes) is = refl
stays_quiet past _ is = is

stays_roomy : (s : Stored) (past : Past) (call : Call) → HasRoom s call → HasRoom s (entered past call)
unfolding entered
stays_roomy s past (UnmapArray h number bytes) room = tt
stays_roomy s past (UnmapParameterArray h name number bytes) room = room
stays_roomy s past _ room = room

pub entry_is_quiet : (past : Past) (call entry : Call) → entry ≡ entered past call → tells_of_flights call ≡ false → tells_of_flights entry ≡ false
entry_is_quiet past call entry is quiet = subst (λ c. tells_of_flights c ≡ false) (sym is) (stays_quiet past call quiet)

-- the rest of a call that was answered as it is entered
module _ (s : Stored) (history : History) (rest : IsAtRest s history) (open_ : IsOpen history) (call entry : Call) (r : Reply)
    (quiet : tells_of_flights call ≡ false) (is : entry ≡ entered (after history) call) (answered : answer (after history) entry ≡ Some r) where
  entry_quiet : tells_of_flights entry ≡ false
  entry_quiet = entry_is_quiet (after history) call entry is quiet

  sound : is_content_sound (after history) entry ≡ true
  sound = subst (λ c. is_content_sound (after history) c ≡ true) (sym is) (entered_is_sound history rest.legal call)

  pub legal : (actor : ℕ) → Legal (with_call history actor entry r)
  legal actor =
      one_call_more history actor entry r rest.legal (open_ actor entry r)
      (may_be_given (after history) entry r (asks_for_no_flight (after history) entry entry_quiet) answered) sound
      (reads_no_flight (after history) (readings_of history) actor entry r entry_quiet)

  pub can_be_carried : IsOfObjects entry r → length history < 2 ^ 63 → HasRoom s call → CanCarry s entry r
  can_be_carried objects short room =
      can_carry s history rest entry r short (subst (HasRoom s) (sym is) (stays_roomy s (after history) call room)) objects answered sound

  pub loan_comes_back : (with : ArrayLoan) → Brings call with → GivesBack entry r with
  loan_comes_back with brings =
      subst (λ c. GivesBack c r with) (sym is) (gives_back history call r with brings (subst (λ c. answer (after history) c ≡ Some r) is answered))

  pub leads_on : IsOfObjects entry r → CountsItsObjects s → length history < 2 ^ 63 → HasRoom s call → (actor : ℕ) → Follows (carried (length history + 1) entry r s) history (Called actor entry r)
  leads_on objects counts short room actor = followed s history actor entry r rest counts objects (can_be_carried objects short room) (legal actor)

-- a store at rest after one more entry stands where that entry leads
pub stepped : (s : Stored) (history : History) (actor : ℕ) (call : Call) (r : Reply) → IsAtRest s (with_call history actor call r) →
    past_of (record { stored = s; history = with_call history actor call r }) ≡ step (after history) (Called actor call r)
stepped s history actor call r rest = led s (with_call history actor call r) rest ∙ after_more history (Called actor call r)

pub stays_open : (history : History) (actor : ℕ) (call : Call) (r : Reply) → IsOpen history → IsOpen (with_call history actor call r)
stays_open history actor call r open_ further next answer = follow_more history (Called actor call r) (Called further next answer) (open_ further next answer) refl

-- how much a call tells
one_of : (x : Option Notice) → length (option_to_list x) ≤ 1
one_of None = omega arith
one_of (Some notice) = omega arith

pub one_status : (actor : ℕ) (call : Call) (r : Reply) → length (status_at (Called actor call r)) ≤ 1
one_status actor call (reply.Denied refused) = one_of (option_map Told (status_of refused (source_of call)))
one_status actor call _ = omega arith

-- a call is refused, or makes an array whose end is to be told, or neither
once_told : (call : Call) (r : Reply) → length (status_at (Called 0 call r)) + one_if (takes_memory call r) ≤ 1
once_told (NewArray elem count stride (Captured user) bytes) (reply.Made made) = omega arith
once_told (NewArray elem count stride (Shared user) bytes) (reply.Made made) = omega arith
once_told (NewArray elem count stride Managed bytes) (reply.Made made) = omega arith
once_told (NewArray elem count stride origin bytes) (reply.Denied refused) = omega (arith, one_status 0 (NewArray elem count stride origin bytes) (reply.Denied refused))
once_told call r = omega (arith, one_status 0 call r)

pub few_told : (place : ℕ) (call : Call) (r : Reply) (s : Stored) → CanCarry s call r →
    length (status_at (Called 0 call r)) + tellable (carried place call r s).state ≤ tellable s.state + 1
few_told place call r s can = omega (arith, once_told call r, effect_tellable place call r s can)
