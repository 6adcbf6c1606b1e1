-- What a step of the device adds to its history, and what it tells.
use Rattle.std.proofs.Common.{◌≡◌, ◌∙◌, ◌-◌, ◌++◌, ◌∷◌, [], ℕ, Bool, true, false, List, Result, Ok, Err, arith, length, length-append, map, take, refl, sym, ap, subst, append_assoc}
use Rattle.std.specs.Prelude.{IfErr, IfOk, OnErr}
use Rattle.std.proofs.Math.Seq.{take-append_seam}
use Rattle.std.proofs.lemmas.List.{append-nil}
use Rattle.std.proofs.lemmas.List.Elements.{filter_map-append}
use Rattle.turn_lock.specs.Histories.{callers}
use Rattle.dev_types.specs.declared.notices.Notice.{Notice}
use Rattle.dev_types.specs.declared.refusals.Refused.{Refused}
use Rattle.flight_books.specs.Sweeps.{note, note_of, notes_of}
use Rattle.frame_future.specs.Flights.{Flying, is_stopped}
use Rattle.frame_future.specs.Reads.{ended_by}
use Rattle.device_parts.specs.AllParts.{Inside}
use Rattle.device_parts.specs.Looks.{given_of as looked_of}
use Rattle.device_parts.specs.declared.handed.Handed.{Handed}
use Rattle.device_core.specs.States.{Device}
use Rattle.device_core.specs.Stepping.{HasDeclined, HasStepped}
use Rattle.device_core.specs.Sweeping.{Sweeps, TellsOn}
use Rattle.seq_model.specs.Contents.{entered}
use Rattle.seq_model.specs.Histories.{History, caller_of}
use Rattle.seq_model.specs.Steps.{after}
use Rattle.seq_model.specs.Told.{source_of, told, told_from}
use Rattle.seq_model.specs.declared.calls.Call.{Call}
use Rattle.seq_model.specs.declared.calls.Entry.{Entry}
use Rattle.seq_model.specs.declared.calls.Entry.TheVariants.{Called}
use Rattle.seq_model.specs.declared.calls.Reply.{Reply}
use Rattle.device_calls.specs.Sharing.{IsShared, given_of, told_first}
use Rattle.device_calls.specs.Holds.{AddsCall, AddsNotes, AreNotes, IsCause, IsReplied}

-- nobody calls a note
pub notes_none : (fs : List Flying) → AreNotes (map note_of fs)
notes_none [] = refl
notes_none (f ∷ fs) = by (is_stopped f) (notes_none fs)
  where
    by : (b : Bool) → AreNotes (map note_of fs) → AreNotes (note b f.ticket ∷ map note_of fs)
    by true rest = rest
    by false rest = rest

unfoldable pub sweep_adds : (old new : Device) → Sweeps old new → AddsNotes old.parts.history new.parts.history
sweep_adds old new s = (
  notes_of old.parts.flights.future.flights s.parts.flights.reads,
  s.parts.flights.notes,
  notes_none (ended_by old.parts.flights.future.flights s.parts.flights.reads),
)

-- one step adds the call between the notes of its two sweeps
unfoldable pub step_adds : (actor : ℕ) (call : Call) (with : Handed) (r : Reply) (out : Handed) (old new : Device) → HasStepped actor call with r out old new
    → AddsCall actor call with r out old.parts.history new.parts.history
step_adds actor call with r out old new s =
    let first = sweep_adds old s.settled s.first in
    let last = sweep_adds s.called new s.second in
    let called : s.called.parts.history ≡ s.settled.parts.history ++ Called actor (entered (after s.settled.parts.history) call) r ∷ [] =
    ap (λ (i : Inside). i.history) s.makes.parts ∙ s.makes.enters.grown in
    record {
      first = first.0;
      last = last.0;
      noted_first = first.2;
      noted_last = last.2;
      is = last.1 ∙ ap (λ h. h ++ last.0) called
          ∙ ap (λ h. (h ++ Called actor (entered (after h) call) r ∷ []) ++ last.0) first.1
          ∙ append_assoc (old.parts.history ++ first.0) (Called actor (entered (after (old.parts.history ++ first.0)) call) r ∷ []) last.0
          ∙ append_assoc old.parts.history first.0 (Called actor (entered (after (old.parts.history ++ first.0)) call) r ∷ last.0);
      reply = subst (IsReplied call with r out) first.1 (record {
        given = looked_of s.settled.parts.flights.future (source_of call);
        answered = s.makes.answered;
        array = s.makes.array;
        frame = s.makes.frame;
        lends = s.makes.lends;
      });
    }

-- what was told stays told
pub tells_through : (one two three : Device) → TellsOn one two → TellsOn two three → TellsOn one three
tells_through one two three first then before is = then before (first before is)

pub step_tells : (actor : ℕ) (call : Call) (with : Handed) (r : Reply) (out : Handed) (old new : Device) → HasStepped actor call with r out old new → TellsOn old new
step_tells actor call with r out old new s =
    tells_through old s.called new (tells_through old s.settled s.called s.first.told s.makes.told) s.second.told

pub step_limit : (actor : ℕ) (call : Call) (with : Handed) (r : Reply) (out : Handed) (old new : Device) → HasStepped actor call with r out old new → new.limit ≡ old.limit
step_limit actor call with r out old new s = s.second.limit ∙ s.makes.limit ∙ s.first.limit

-- a call that is declined leaves the notes of the first sweep
declined_history : (call : Call) (e : Refused) (old new : Device) (d : HasDeclined call e old new) → new.parts.history ≡ d.settled.parts.history
declined_history call e old new d = ap (λ (i : Inside). i.history) d.declines.parts.same

pub declined_adds : (call : Call) (e : Refused) (old new : Device) → HasDeclined call e old new → AddsNotes old.parts.history new.parts.history
declined_adds call e old new d =
    let first = sweep_adds old d.settled d.first in (first.0, declined_history call e old new d ∙ first.1, first.2)

pub declined_cause : (call : Call) (e : Refused) (old new : Device) → HasDeclined call e old new → IsCause e old.limit new.parts.history call
declined_cause call e old new d =
    subst (λ n. IsCause e n new.parts.history call) d.first.limit
    (subst (λ h. IsCause e d.settled.limit h call) (sym (declined_history call e old new d)) d.declines.cause)

pub declined_tells : (call : Call) (e : Refused) (old new : Device) → HasDeclined call e old new → TellsOn old new
declined_tells call e old new d before is =
    d.declines.told ∙ d.first.told before is ∙ ap (λ h. before ++ told h) (sym (declined_history call e old new d))

pub declined_limit : (call : Call) (e : Refused) (old new : Device) → HasDeclined call e old new → new.limit ≡ old.limit
declined_limit call e old new d = d.declines.limit ∙ d.first.limit

-- whatever a step answers
module _ (made : Result (Reply × Handed) (Refused × Call × Handed)) (actor : ℕ) (call : Call) (with : Handed) (old new : Device)
    (stepped : IfOk made (λ r. HasStepped actor call with r.0 r.1 old new)) (declined : IfErr made (λ e. HasDeclined call e.0 old new)) where
  pub made_adds : IfOk made (λ r. AddsCall actor call with r.0 r.1 old.parts.history new.parts.history)
  made_adds = by made stepped
    where
      by : (made : Result (Reply × Handed) (Refused × Call × Handed)) → IfOk made (λ r. HasStepped actor call with r.0 r.1 old new)
          → IfOk made (λ r. AddsCall actor call with r.0 r.1 old.parts.history new.parts.history)
      by (Ok r) stepped = step_adds actor call with r.0 r.1 old new stepped
      by (Err e) stepped = tt

  pub made_notes : OnErr made (AddsNotes old.parts.history new.parts.history)
  made_notes = by made declined
    where
      by : (made : Result (Reply × Handed) (Refused × Call × Handed)) → IfErr made (λ e. HasDeclined call e.0 old new) → OnErr made (AddsNotes old.parts.history new.parts.history)
      by (Ok r) declined = tt
      by (Err e) declined = declined_adds call e.0 old new declined

  pub made_cause : IfErr made (λ e. IsCause e.0 old.limit new.parts.history call)
  made_cause = by made declined
    where
      by : (made : Result (Reply × Handed) (Refused × Call × Handed)) → IfErr made (λ e. HasDeclined call e.0 old new) → IfErr made (λ e. IsCause e.0 old.limit new.parts.history call)
      by (Ok r) declined = tt
      by (Err e) declined = declined_cause call e.0 old new declined

  pub made_tells : TellsOn old new
  made_tells = by made stepped declined
    where
      by : (made : Result (Reply × Handed) (Refused × Call × Handed)) → IfOk made (λ r. HasStepped actor call with r.0 r.1 old new)
          → IfErr made (λ e. HasDeclined call e.0 old new) → TellsOn old new
      by (Ok r) stepped declined = step_tells actor call with r.0 r.1 old new stepped
      by (Err e) stepped declined = declined_tells call e.0 old new declined

  pub made_limit : new.limit ≡ old.limit
  made_limit = by made stepped declined
    where
      by : (made : Result (Reply × Handed) (Refused × Call × Handed)) → IfOk made (λ r. HasStepped actor call with r.0 r.1 old new)
          → IfErr made (λ e. HasDeclined call e.0 old new) → new.limit ≡ old.limit
      by (Ok r) stepped declined = step_limit actor call with r.0 r.1 old new stepped
      by (Err e) stepped declined = declined_limit call e.0 old new declined

-- what the client was told first is all but what the history tells
pub first_is : (d : Device) (first : List Notice) → d.told ≡ first ++ told d.parts.history → told_first d ≡ first
first_is d first is =
    let count : length d.told - length (told d.parts.history) ≡ length first =
    (let all = ap length is ∙ length-append first (told d.parts.history) in omega (arith, all)) in
    ap (λ n. take n d.told) count ∙ ap (take (length first)) is ∙ take-append_seam first (told d.parts.history)

-- so it stays
pub given_stays : (old new : Device) → IsShared old → TellsOn old new → new.limit ≡ old.limit → given_of new ≡ given_of old
given_stays old new shared tells limit =
    let notices : told_first new ≡ told_first old =
    first_is new shared.first (tells shared.first shared.told) ∙ sym (first_is old shared.first shared.told) in
    (λ i. record { limit = limit i; notices = notices i })

-- at first nothing was told but that
pub nothing_told : (d : Device) (first : List Notice) → d.parts.history ≡ [] → d.told ≡ first → d.told ≡ first ++ told d.parts.history
unfolding told told_from
nothing_told d first empty is = is ∙ sym (append-nil first) ∙ ap (λ h. first ++ told h) (sym empty)

pub told_is : (d : Device) → IsShared d → d.told ≡ told_first d ++ told d.parts.history
told_is d shared = shared.told ∙ ap (λ first. first ++ told d.parts.history) (sym (first_is d shared.first shared.told))

-- notes behind notes
pub notes_through : (one two three : History) → AddsNotes one two → AddsNotes two three → AddsNotes one three
notes_through one two three first then = (
  first.0 ++ then.0,
  then.1 ∙ ap (λ h. h ++ then.0) first.1 ∙ append_assoc one first.0 then.0,
  filter_map-append caller_of first.0 then.0 ∙ ap (λ l. l ++ callers caller_of then.0) first.2 ∙ then.2,
)

-- a call behind notes
pub adds_behind : (actor : ℕ) (call : Call) (with : Handed) (r : Reply) (out : Handed) (one two three : History) → AddsNotes one two
    → AddsCall actor call with r out two three → AddsCall actor call with r out one three
adds_behind actor call with r out one two three notes adds =
    let e : History → Entry = λ h. Called actor (entered (after h) call) r in
    let behind : two ++ adds.first ≡ one ++ (notes.0 ++ adds.first) = ap (λ h. h ++ adds.first) notes.1 ∙ append_assoc one notes.0 adds.first in
    record {
      first = notes.0 ++ adds.first;
      last = adds.last;
      noted_first = filter_map-append caller_of notes.0 adds.first ∙ ap (λ l. l ++ callers caller_of adds.first) notes.2 ∙ adds.noted_first;
      noted_last = adds.noted_last;
      is = adds.is ∙ sym (append_assoc two adds.first (e (two ++ adds.first) ∷ adds.last)) ∙ ap (λ h. h ++ e h ∷ adds.last) behind
          ∙ append_assoc one (notes.0 ++ adds.first) (e (one ++ (notes.0 ++ adds.first)) ∷ adds.last);
      reply = subst (IsReplied call with r out) behind adds.reply;
    }

-- whatever a step behind notes answers
pub made_behind : (made : Result (Reply × Handed) (Refused × Call × Handed)) (actor : ℕ) (call : Call) (with : Handed) (one two three : History) → AddsNotes one two
    → IfOk made (λ r. AddsCall actor call with r.0 r.1 two three) → IfOk made (λ r. AddsCall actor call with r.0 r.1 one three)
made_behind (Ok r) actor call with one two three notes adds = adds_behind actor call with r.0 r.1 one two three notes adds
made_behind (Err e) actor call with one two three notes adds = tt

pub noted_behind : (made : Result (Reply × Handed) (Refused × Call × Handed)) (one two three : History) → AddsNotes one two → OnErr made (AddsNotes two three) → OnErr made (AddsNotes one three)
noted_behind (Ok r) one two three notes adds = tt
noted_behind (Err e) one two three notes adds = notes_through one two three notes adds
