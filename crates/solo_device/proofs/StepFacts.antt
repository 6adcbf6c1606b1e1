-- A call of a device on whose flights nobody has worked, sweep by sweep.
use Rattle.std.proofs.Common.{◌≡◌, ◌∙◌, ◌++◌, ◌+◌, ℕ, List, [], ◌∷◌, Some, Result, Ok, Err, IfOk, length, sym, ap, subst}
use Rattle.std.specs.Prelude.{IfErr, if◌then◌else◌}
use Rattle.std.specs.Option.{option_map}
use Rattle.answered_calls.specs.Tells.{with_given}
use Rattle.dev_types.specs.declared.notices.Notice.{Notice}
use Rattle.dev_types.specs.declared.refusals.Refused.{Refused}
use Rattle.dev_types.specs.declared.refusals.Refused.TheVariants.{JournalFull, NoMemory}
use Rattle.frame_future.specs.Flights.{Flying}
use Rattle.frame_future.specs.Future.{flight_of, is_flight_of}
use Rattle.object_steps.specs.Applying.{tells_of_flights}
use Rattle.object_steps.specs.Carrying.{handed}
use Rattle.seq_model.proofs.Afters.{after_more, seen_is_history}
use Rattle.seq_model.specs.Answers.{answer}
use Rattle.seq_model.specs.Contents.{entered}
use Rattle.seq_model.specs.Endings.{reply_to}
use Rattle.seq_model.specs.Histories.{History}
use Rattle.seq_model.specs.Refusals.{phase_at}
use Rattle.seq_model.specs.Room.{is_full}
use Rattle.seq_model.specs.State.{ticket_in}
use Rattle.seq_model.specs.Steps.{Past, after, next_place, step}
use Rattle.seq_model.specs.Told.{source_of, told}
use Rattle.seq_model.specs.declared.calls.Call.{Call}
use Rattle.seq_model.specs.declared.calls.Entry.TheVariants.{Called, Left}
use Rattle.seq_model.specs.declared.calls.Reply.{Reply}
use Rattle.device_parts.proofs.TicketFacts.{ticket_told}
use Rattle.device_parts.specs.AllParts.{AreParts, Inside}
use Rattle.device_parts.specs.Looks.{given_of}
use Rattle.device_parts.specs.Makes.{IsMoved, array_of, frame_of}
use Rattle.device_parts.specs.Standing.{IsStanding}
use Rattle.device_parts.specs.Sweeps.{showing}
use Rattle.device_parts.specs.declared.handed.Handed.{Handed}
use Rattle.device_core.specs.States.{Device}
use Rattle.device_core.specs.Stepping.{HasDeclined, HasStepped}
use Rattle.device_core.specs.Sweeping.{Sweeps}
use Rattle.solo_device.specs.OneThread.{stopped_flight, with_call, with_note}
use Rattle.solo_device.specs.Untouched.{AreUntouched}
use Rattle.solo_device.proofs.MoveFacts.{moved_flights}
use Rattle.solo_device.proofs.NoteFacts.{StopsAtMost, stopped_noted}
use Rattle.solo_device.proofs.SweptFacts.{nothing_noted, still_untouched, tickets_stay}
use Rattle.solo_device.proofs.TellFacts.{none_seen, replies}

abbrev pub flown : Device → List Flying
flown d = d.parts.flights.future.flights

-- a sweep notes nothing
pub swept_history : (old new : Device) → Sweeps old new → AreUntouched (flown old) → new.parts.history ≡ old.parts.history
swept_history old new s all =
    nothing_noted old.parts.flights (showing s.parts.pictures new.parts.flights) old.parts.history new.parts.history s.parts.flights all

pub swept_untouched : (old new : Device) → Sweeps old new → AreUntouched (flown old) → AreUntouched (flown new)
swept_untouched old new s all =
    still_untouched old.parts.flights (showing s.parts.pictures new.parts.flights) old.parts.history new.parts.history s.parts.flights all

module _ (actor : ℕ) (call : Call) (with : Handed) (r : Reply) (out : Handed) (old new : Device) (s : HasStepped actor call with r out old new)
    (parts : AreParts old.parts) (stands : IsStanding old.parts) (all : AreUntouched (flown old)) where
  abbrev past : Past
  past = after old.parts.history

  abbrev made_of : Call
  made_of = entered past call

  same : s.settled.parts.history ≡ old.parts.history
  same = swept_history old s.settled s.first all

  settled_all : AreUntouched (flown s.settled)
  settled_all = swept_untouched old s.settled s.first all

  same_past : after s.settled.parts.history ≡ past
  same_past = ap after same

  tickets : (h : ℕ) → option_map (λ f. f.ticket) (flight_of s.settled.parts.flights.future h) ≡ ticket_in (phase_at past h)
  tickets h =
      tickets_stay old.parts.flights (showing s.first.parts.pictures s.settled.parts.flights) old.parts.history s.settled.parts.history s.first.parts.flights h all
      ∙ ticket_told old.parts h parts stands

  answered : (answer past made_of ≡ Some r) × (r ≡ reply_to past made_of)
  answered =
      replies past made_of (given_of s.settled.parts.flights.future (source_of call)) (tells_of_flights call) r
      (none_seen (flown s.settled) (is_flight_of (source_of call)) settled_all)
      (subst (λ (p : Past). option_map (λ a. (if tells_of_flights call then with_given (given_of s.settled.parts.flights.future (source_of call)) a else a)) (answer p (entered p call)) ≡ Some r)
      same_past s.makes.answered)

  pub reply_is : r ≡ reply_to past made_of
  reply_is = answered.1

  stops : StopsAtMost (stopped_flight past made_of r) (flown s.settled) (flown s.called)
  stops =
      subst (λ (i : Inside). StopsAtMost (stopped_flight past made_of r) (flown s.settled) i.flights.future.flights) (sym s.makes.parts)
      (moved_flights past made_of r (frame_of out) s.settled.parts s.makes.made
      (subst (λ (p : Past). IsMoved (entered p call) r (frame_of out) s.settled.parts s.makes.made) same_past s.makes.moved) settled_all tickets)

  grown : s.called.parts.history ≡ old.parts.history ++ Called actor made_of r ∷ []
  grown =
      ap (λ (i : Inside). i.history) s.makes.parts ∙ s.makes.enters.grown
      ∙ (λ i. same i ++ Called actor (entered (same_past i) call) r ∷ [])

  noted : (after new.parts.history ≡ with_note Left (stopped_flight past made_of r) (after s.called.parts.history)) × AreUntouched (flown new)
  noted =
      stopped_noted s.called.parts.flights (showing s.second.parts.pictures new.parts.flights) s.called.parts.history new.parts.history s.second.parts.flights
      (stopped_flight past made_of r) (flown s.settled) settled_all stops

  pub stepped_past : after new.parts.history ≡ with_call actor made_of past
  stepped_past =
      noted.0 ∙ ap (with_note Left (stopped_flight past made_of r)) (ap after grown ∙ after_more old.parts.history (Called actor made_of r))
      ∙ ap (λ r. with_note Left (stopped_flight past made_of r) (step past (Called actor made_of r))) reply_is

  pub stepped_untouched : AreUntouched (flown new)
  stepped_untouched = noted.1

  pub handed_out : array_of out ≡ handed (next_place past) made_of r past.state (array_of with)
  handed_out =
      s.makes.array ∙ (λ i. handed (length (same i) + 1) (entered (same_past i) call) r (same_past i).state (array_of with))
      ∙ ap (λ (h : History). handed (length h + 1) made_of r past.state (array_of with)) (sym (seen_is_history old.parts.history))

  pub stepped_told : (before : List Notice) → old.told ≡ before ++ told old.parts.history → new.told ≡ before ++ told new.parts.history
  stepped_told before heard = s.second.told before (s.makes.told before (s.first.told before heard))

  pub stepped_limit : new.limit ≡ old.limit
  stepped_limit = s.second.limit ∙ s.makes.limit ∙ s.first.limit

-- what holds whether a call was made or not
pub either_way : {T E P : Type 0} (r : Result T E) (A : T → Type 0) (B : E → Type 0) → IfOk r A → IfErr r B → ((x : T) → A x → P) → ((e : E) → B e → P) → P
either_way (Ok x) A B ok err made declined = made x ok
either_way (Err e) A B ok err made declined = declined e err

-- a call that was not made
module _ (call : Call) (e : Refused) (old new : Device) (d : HasDeclined call e old new) (all : AreUntouched (flown old)) where
  pub declined_history : new.parts.history ≡ old.parts.history
  declined_history = ap (λ (i : Inside). i.history) d.declines.parts.same ∙ swept_history old d.settled d.first all

  pub declined_untouched : AreUntouched (flown new)
  declined_untouched =
      subst (λ (i : Inside). AreUntouched i.flights.future.flights) (sym d.declines.parts.same) (swept_untouched old d.settled d.first all)

  pub declined_told : (before : List Notice) → old.told ≡ before ++ told old.parts.history → new.told ≡ before ++ told new.parts.history
  declined_told before heard =
      d.declines.told ∙ d.first.told before heard ∙ ap (λ (i : Inside). before ++ told i.history) (sym d.declines.parts.same)

  pub declined_limit : new.limit ≡ old.limit
  declined_limit = d.declines.limit ∙ d.first.limit

  pub declined_cause : e ≡ (if is_full old.limit (after old.parts.history) call then JournalFull old.limit else NoMemory)
  declined_cause =
      d.declines.cause
      ∙ (λ i. (if is_full (d.first.limit i) (after (swept_history old d.settled d.first all i)) call then JournalFull (d.first.limit i) else NoMemory))
