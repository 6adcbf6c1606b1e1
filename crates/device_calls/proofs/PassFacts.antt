-- A hold of the turn, as the pass tells it that made it.
use Rattle.std.proofs.Common.{◌≡◌, ◌∙◌, ◌++◌, ◌∷◌, ◌+◌, [], ℕ, List, Option, None, Some, Result, Ok, Err, length, length-append, refl, sym, ap, subst, arith, append_assoc}
use Rattle.std.specs.Prelude.{IfErr, IfOk, OnErr, IfNone, IfSome}
use Rattle.std.proofs.lemmas.List.{append-nil}
use Rattle.dev_types.specs.declared.refusals.Refused.{Refused}
use Rattle.device_parts.specs.declared.handed.Handed.{Handed}
use Rattle.seq_model.specs.Contents.{entered}
use Rattle.seq_model.specs.Histories.{History, caller_of}
use Rattle.seq_model.specs.Legal.{Legal}
use Rattle.seq_model.specs.Steps.{after}
use Rattle.seq_model.specs.declared.calls.Call.{Call}
use Rattle.seq_model.specs.declared.calls.Entry.{Entry}
use Rattle.seq_model.specs.declared.calls.Entry.TheVariants.{Called}
use Rattle.seq_model.specs.declared.calls.Reply.{Reply}
use Rattle.turn_lock.specs.Histories.{AddsOneCall, Extends, new_places}
use Rattle.turn_lock.specs.Passes.{caller_number, fixed, mine, seen, share}
use Rattle.turn_lock.proofs.PlaceLaws.{adds-call, adds-notes, extends-later, new_places-call, new_places-notes}
use Rattle.device_calls.specs.Holds.{AddsCall, AddsNotes, IsCause}
use Rattle.device_calls.specs.Passes.{DevicePass, HasCalled, HasDeclined, Sees, limit_of}

-- one call of its caller at most
pub adds_one : (made : Result (Reply × Handed) (Refused × Call × Handed)) (actor : ℕ) (call : Call) (with : Handed) (old new : History)
    → IfOk made (λ r. AddsCall actor call with r.0 r.1 old new) → OnErr made (AddsNotes old new) → AddsOneCall caller_of actor old new
adds_one (Ok r) actor call with old new ok err =
    subst (λ h. AddsOneCall caller_of actor old h) (sym ok.is)
    (adds-call caller_of old ok.first ok.last (Called actor (entered (after (old ++ ok.first)) call) r.0) actor refl ok.noted_first ok.noted_last)
adds_one (Err e) actor call with old new ok err = subst (λ h. AddsOneCall caller_of actor old h) (sym err.1) (adds-notes caller_of actor old err.0 err.2)

-- what the pass has seen then ends with the call and notes, and has its place
unfoldable pub has_called : (call : Call) (with : Handed) (r : Reply) (out : Handed) (old new : DevicePass) (entry now : History)
    → Extends (seen old) entry → seen new ≡ now → mine new ≡ mine old ++ new_places caller_of entry now
    → AddsCall (caller_number old) call with r out entry now → HasCalled call with r out old new
has_called call with r out old new entry now later sees grown adds =
    let e : Entry = Called (caller_number old) (entered (after (entry ++ adds.first)) call) r in
    let place : new_places caller_of entry (entry ++ (adds.first ++ e ∷ adds.last)) ≡ (length entry + 1 + length adds.first) ∷ [] =
    new_places-call caller_of entry adds.first adds.last e (caller_number old) refl adds.noted_first adds.noted_last in
    let at : length entry + 1 + length adds.first ≡ length (entry ++ adds.first) + 1 = (let both = length-append entry adds.first in omega (arith, both)) in
    record {
      before = entry ++ adds.first;
      notes = adds.last;
      later = (later.0 ++ adds.first, ap (λ h. h ++ adds.first) later.1 ∙ append_assoc (seen old) later.0 adds.first);
      is = sees ∙ adds.is ∙ sym (append_assoc entry adds.first (e ∷ adds.last));
      are_notes = adds.noted_last;
      place = grown ∙ ap (λ h. mine old ++ new_places caller_of entry h) adds.is ∙ ap (λ l. mine old ++ l) place ∙ ap (λ n. mine old ++ n ∷ []) at;
      reply = adds.reply;
    }

pub has_declined : (call : Call) (e : Refused) (limit : ℕ) (old new : DevicePass) (entry now : History)
    → limit_of old ≡ limit → seen new ≡ now → mine new ≡ mine old ++ new_places caller_of entry now
    → AddsNotes entry now → IsCause e limit now call → HasDeclined call e old new
has_declined call e limit old new entry now limits sees grown adds cause = record {
  same = grown ∙ ap (λ h. mine old ++ new_places caller_of entry h) adds.1 ∙ ap (λ l. mine old ++ l) (new_places-notes caller_of entry adds.0 adds.2) ∙ append-nil (mine old);
  cause = subst (λ h. IsCause e (limit_of old) h call) (sym sees) (subst (λ n. IsCause e n now call) (sym limits) cause);
}

-- whatever a hold answers
pub made_called : (made : Result (Reply × Handed) (Refused × Call × Handed)) (actor : ℕ) (call : Call) (with : Handed) (old new : DevicePass) (entry now : History)
    → actor ≡ caller_number old → Extends (seen old) entry → seen new ≡ now → mine new ≡ mine old ++ new_places caller_of entry now
    → IfOk made (λ r. AddsCall actor call with r.0 r.1 entry now) → IfOk made (λ r. HasCalled call with r.0 r.1 old new)
made_called (Ok r) actor call with old new entry now same later sees grown adds =
    has_called call with r.0 r.1 old new entry now later sees grown (subst (λ n. AddsCall n call with r.0 r.1 entry now) same adds)
made_called (Err e) actor call with old new entry now same later sees grown adds = tt

pub made_declined : (made : Result (Reply × Handed) (Refused × Call × Handed)) (call : Call) (limit : ℕ) (old new : DevicePass) (entry now : History)
    → limit_of old ≡ limit → seen new ≡ now → mine new ≡ mine old ++ new_places caller_of entry now
    → OnErr made (AddsNotes entry now) → IfErr made (λ e. IsCause e.0 limit now call) → IfErr made (λ e. HasDeclined call e.0 old new)
made_declined (Ok r) call limit old new entry now limits sees grown adds cause = tt
made_declined (Err e) call limit old new entry now limits sees grown adds cause = has_declined call e.0 limit old new entry now limits sees grown adds cause

-- the places of a pass by those that it had
pub grown_by : (was had now_mine : List ℕ) (entry old now : History) → now_mine ≡ had ++ new_places caller_of entry now → had ≡ was → entry ≡ old
    → now_mine ≡ was ++ new_places caller_of old now
grown_by was had now_mine entry old now grown same begins = grown ∙ ap (λ l. l ++ new_places caller_of entry now) same ∙ ap (λ h. was ++ new_places caller_of h now) begins

-- a hold that adds notes
pub notes_seen : (old new : DevicePass) (entry now : History) → caller_number new ≡ caller_number old → share new ≡ share old → fixed new ≡ fixed old
    → Extends (seen old) entry → seen new ≡ now → AddsNotes entry now → Legal now → Sees old new
notes_seen old new entry now caller shares given later sees adds legal = record {
  caller = caller;
  share = shares;
  fixed = given;
  later = subst (Extends (seen old)) (sym sees) (extends-later (seen old) entry now later (adds.0, adds.1));
  legal = subst Legal (sym sees) legal;
}

pub notes_mine : (old new : DevicePass) (entry now : History) → mine new ≡ mine old ++ new_places caller_of entry now → AddsNotes entry now → mine new ≡ mine old
notes_mine old new entry now grown adds =
    grown ∙ ap (λ h. mine old ++ new_places caller_of entry h) adds.1 ∙ ap (λ l. mine old ++ l) (new_places-notes caller_of entry adds.0 adds.2) ∙ append-nil (mine old)

-- after holds before it
pub sees_through : (one two three : DevicePass) → caller_number two ≡ caller_number one → share two ≡ share one → fixed two ≡ fixed one → Extends (seen one) (seen two)
    → Sees two three → Sees one three
sees_through one two three caller shares given later then = record {
  caller = then.caller ∙ caller;
  share = then.share ∙ shares;
  fixed = then.fixed ∙ given;
  later = extends-later (seen one) (seen two) (seen three) later then.later;
  legal = then.legal;
}

-- a hold that may have made no call
pub some_adds : (made : Option (Result (Reply × Handed) (Refused × Call × Handed))) (actor : ℕ) (call : Call) (with : Handed) (old new : History)
    → IfSome made (λ made. IfOk made (λ r. AddsCall actor call with r.0 r.1 old new)) → IfSome made (λ made. OnErr made (AddsNotes old new)) → IfNone made (AddsNotes old new)
    → AddsOneCall caller_of actor old new
some_adds (Some made) actor call with old new ok err none = adds_one made actor call with old new ok err
some_adds None actor call with old new ok err none = subst (λ h. AddsOneCall caller_of actor old h) (sym none.1) (adds-notes caller_of actor old none.0 none.2)

-- a hold that adds one call at most
pub call_seen : (old new : DevicePass) (entry now : History) (actor : ℕ) → caller_number new ≡ caller_number old → share new ≡ share old → fixed new ≡ fixed old
    → Extends (seen old) entry → seen new ≡ now → AddsOneCall caller_of actor entry now → Legal now → Sees old new
call_seen old new entry now actor caller shares given later sees adds legal = record {
  caller = caller;
  share = shares;
  fixed = given;
  later = subst (Extends (seen old)) (sym sees) (extends-later (seen old) entry now later adds.0);
  legal = subst Legal (sym sees) legal;
}
