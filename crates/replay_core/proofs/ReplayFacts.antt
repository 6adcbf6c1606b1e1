-- What the device's calls ask of a replay, and what they give it.
use Rattle.std.proofs.Common.{ℕ, ◌+◌, ◌==◌, ◌≡◌, ◌<◌, ◌≤◌, ◌∙◌, true, false, List, [], ◌∷◌, ◌++◌, Option, Some, None, Result, Ok, Err, IfOk, IfSome, OnOk, drop, fold, get_or, length, refl, sym, ap, subst}
use Rattle.std.specs.List.{enumerate_from}
use Rattle.std.specs.Prelude.{IsSome}
use Rattle.std.specs.Result.{is_err}
use Rattle.std.proofs.lemmas.List.{drop_all, drop_more}
use Rattle.std.specs.Option.{option_map_or}
use Rattle.std.proofs.lemmas.Bool.{eq-eqb, or_right}
use Rattle.std.proofs.lemmas.List.Folds.{list_any-append}
use Rattle.seq_model.specs.Endings.{reply_to}
use Rattle.replay_core.proofs.Answered.{nothing_asked, still_answered}
use Rattle.answered_calls.proofs.Cleaned.{entered_is_sound}
use Rattle.replay_core.specs.Labels.{Meaning, call_of, call_of_query, handle_of}
use Rattle.replay_core.specs.Loans.{is_unmap, mapped_content, unmap_by}
use Rattle.replay_core.specs.Solo.{Replay, made, replayed, unmapped, with_reply}
use Rattle.solo_device.specs.Lone.{HeardOn, Lone}
use Rattle.solo_device.specs.OneThread.{asked_flight, ready_for, stopped_flight, with_call}
use Rattle.seq_model.proofs.Handles.{changed, step_state, swept_next}
use Rattle.seq_model.proofs.Keys.{some_passes}
use Rattle.seq_model.proofs.Sound.{has_head}
use Rattle.seq_model.specs.Answers.{answer}
use Rattle.seq_model.specs.Builds.{builds}
use Rattle.seq_model.specs.Contents.{entered}
use Rattle.seq_model.specs.Legal.{GoesOn, Legal, is_content_sound, is_flying}
use Rattle.seq_model.specs.Life.{has}
use Rattle.seq_model.specs.Refusals.{phase_at}
use Rattle.seq_model.specs.State.{Object, Phase, Empty, Flight, Done, is_in_flight, object_at, ticket_in}
use Rattle.seq_model.specs.Steps.{Past, after, change, discard, effect, next_place, start, step}
use Rattle.seq_model.specs.Told.{told, told_from}
use Rattle.seq_model.specs.declared.calls.Call.{Call}
use Rattle.seq_model.specs.declared.calls.Call.TheVariants.{DiscardFrame, FrameReady, MapFrame, RenderFrame, UnmapArray, UnmapFrame, UnmapParameterArray}
use Rattle.seq_model.specs.declared.calls.Entry.{Entry}
use Rattle.seq_model.specs.declared.calls.Entry.TheVariants.{Called}
use Rattle.seq_model.specs.declared.calls.Reply.{Reply}
use Rattle.seq_model.specs.declared.calls.Reply.TheVariants as reply
use Rattle.trace_text.specs.declared.calls.Query.{Query}
use Rattle.trace_text.specs.declared.calls.Query.TheVariants as query
use Rattle.trace_text.specs.declared.calls.TraceCall.{TraceCall}
use Rattle.trace_text.specs.declared.calls.TraceCall.TheVariants.{EndLoan, WithParam}
use Rattle.trace_text.specs.declared.calls.TraceCall.TheVariants as op

-- one more entry
seen_step : (past : Past) (e : Entry) → (step past e).seen ≡ past.seen ++ e ∷ []
unfolding step
seen_step past e = refl

pub led_first : start ≡ after []
unfolding after
led_first = refl

pub told_first : told [] ≡ []
unfolding told told_from
told_first = refl

pub legal_first : Legal []
unfolding GoesOn Legal
legal_first = tt

pub builds_first : builds [] ≡ 0
unfolding builds
builds_first = refl

-- the flight that a call asks for is one
flies_at : (past : Past) (h t : ℕ) → ticket_in (phase_at past h) ≡ Some t → is_flying past.state t ≡ true
flies_at past h t flies = by (object_at past.state h) refl flies
  where
    by : (x : Option Object) → object_at past.state h ≡ x → ticket_in (option_map_or (λ o. o.phase) x Empty) ≡ Some t → is_flying past.state t ≡ true
    by None is flies = absurd cc
    by (Some o) is flies =
        some_passes (λ entry. is_in_flight t entry.1) h past.state.objects o is (ap (λ x. option_map_or (λ u. u == t) x false) flies ∙ eq-eqb t t refl)

pub asked_flies : (past : Past) (call : Call) (t : ℕ) → asked_flight past call ≡ Some t → is_flying past.state t ≡ true
asked_flies past (FrameReady h wait) t asked = flies_at past h t asked
asked_flies past (MapFrame h channel) t asked = flies_at past h t asked
asked_flies past (RenderFrame h) t asked = flies_at past h t asked
asked_flies past _ t asked = absurd cc

-- the flight of a frame that was discarded is stopped
stopped_now : (past : Past) (caller h t : ℕ) → ticket_in (phase_at past h) ≡ Some t → has t (step past (Called caller (DiscardFrame h) reply.Done)).state.stopped ≡ true
unfolding change discard effect
stopped_now past caller h t flies =
    ap (λ s. has t s.stopped) (step_state past (Called caller (DiscardFrame h) reply.Done))
    ∙ ap (has t) (swept_next (step past (Called caller (DiscardFrame h) reply.Done)) (changed past (Called caller (DiscardFrame h) reply.Done))).1
    ∙ by (phase_at past h) refl flies
  where
    by : (phase : Phase) → phase_at past h ≡ phase → ticket_in phase ≡ Some t → has t (changed past (Called caller (DiscardFrame h) reply.Done)).stopped ≡ true
    by Empty is flies = absurd cc
    by (Done u) is flies = absurd cc
    by (Flight u) is flies =
        let same : u ≡ t = cc in
        rw is (list_any-append (λ j. j == t) past.state.stopped (u ∷ []) ∙ or_right (has t past.state.stopped) (has t (u ∷ [])) (ap (λ u. has t (u ∷ [])) same ∙ has_head t []))

pub stopped_is_there : (past : Past) (caller : ℕ) (call : Call) (r : Reply) → r ≡ reply.Done → IfSome (stopped_flight past call reply.Done) (λ t. has t (step past (Called caller call r)).state.stopped ≡ true)
stopped_is_there past caller (DiscardFrame h) r done = by (ticket_in (phase_at past h)) refl
  where
    by : (x : Option ℕ) → ticket_in (phase_at past h) ≡ x → IfSome x (λ t. has t (step past (Called caller (DiscardFrame h) r)).state.stopped ≡ true)
    by None is = tt
    by (Some t) is = subst (λ r. has t (step past (Called caller (DiscardFrame h) r)).state.stopped ≡ true) (sym done) (stopped_now past caller h t is)
stopped_is_there past caller _ r done = tt

-- a call that is no unmap brings nothing
some_sound : (past : Past) (x y : Call) → Some x ≡ Some y → is_content_sound past x ≡ true → is_content_sound past y ≡ true
some_sound past x y same sound = let value : x ≡ y = cc in subst (λ call. is_content_sound past call ≡ true) value sound

query_sound : (past : Past) (meaning : Meaning) (q : Query) → is_content_sound past (call_of_query meaning q) ≡ true
query_sound past meaning (query.Property object name) = refl
query_sound past meaning (query.Subtypes t) = refl
query_sound past meaning (query.ObjectInfo t subtype) = refl
query_sound past meaning (query.ParameterInfo t subtype name) = refl

pub others_sound : (past : Past) (meaning : Meaning) (c : TraceCall) (call : Call) → call_of meaning c ≡ Some call → is_content_sound past call ≡ true
others_sound past meaning EndLoan call is = absurd cc
others_sound past meaning (op.Query q) call is = some_sound past (call_of_query meaning q) call is (query_sound past meaning q)
others_sound past meaning _ call is = some_sound past _ call is refl

-- after the flight that it asks for is finished, a call is answered
pub ready_is_answered : (past : Past) (call : Call) → past ≡ after past.seen → IsSome (answer (ready_for past call) call)
ready_is_answered past call led = subst (λ (p : Past). IsSome (answer (ready_for p call) call)) (sym led) (still_answered (ready_for (after past.seen) call) call (nothing_asked past.seen call))

-- an unmap is answered, brings sound content as it is entered, and stops no flight
pub unmap_is_answered : (past : Past) (call : Call) → is_unmap call ≡ true → IsSome (answer past (entered past call))
unfolding entered
unmap_is_answered past (UnmapArray h number bytes) is = still_answered past _ refl
unmap_is_answered past (UnmapParameterArray h name number bytes) is = still_answered past _ refl
unmap_is_answered past (UnmapFrame h number) is = still_answered past _ refl
unmap_is_answered past _ is = absurd cc

pub unmap_is_sound : (past : Past) (call : Call) → past ≡ after past.seen → Legal past.seen → is_content_sound past (entered past call) ≡ true
unmap_is_sound past call led legal = subst (λ (p : Past). is_content_sound p (entered p call) ≡ true) (sym led) (entered_is_sound past.seen legal call)

pub unmap_stops_nothing : (past : Past) (caller : ℕ) (call : Call) → is_unmap call ≡ true → with_call caller (entered past call) past ≡ step past (Called caller (entered past call) (reply_to past (entered past call)))
unfolding entered
unmap_stops_nothing past caller (UnmapArray h number bytes) is = refl
unmap_stops_nothing past caller (UnmapParameterArray h name number bytes) is = refl
unmap_stops_nothing past caller (UnmapFrame h number) is = refl
unmap_stops_nothing past caller _ is = absurd cc

-- a call of a trace, step by step
pub made_by : (phase caller : ℕ) (c : TraceCall) (call : Call) (old asked entered left : Replay) (place : ℕ) (r : Reply) →
    asked ≡ record old { past = ready_for old.past call } →
    place ≡ next_place asked.past →
    entered ≡ record asked { past = with_call caller call asked.past } →
    r ≡ reply_to asked.past call →
    left ≡ with_reply phase caller c (unmap_by (mapped_content asked.past (handle_of asked.bound phase caller) c) place (handle_of entered.bound phase caller) c r) r entered →
    left ≡ made phase caller c (handle_of old.bound phase caller) call old
made_by phase caller c call old asked entered left place r is_asked is_place is_entered is_reply is_left =
    is_left
    ∙ ap (λ (e : Replay). with_reply phase caller c (unmap_by (mapped_content asked.past (handle_of asked.bound phase caller) c) place (handle_of e.bound phase caller) c r) r e) is_entered
    ∙ ap (λ (n : ℕ). with_reply phase caller c (unmap_by (mapped_content asked.past (handle_of asked.bound phase caller) c) n (handle_of asked.bound phase caller) c r) r (record asked { past = with_call caller call asked.past })) is_place
    ∙ ap (λ (r : Reply). with_reply phase caller c (unmap_by (mapped_content asked.past (handle_of asked.bound phase caller) c) (next_place asked.past) (handle_of asked.bound phase caller) c r) r (record asked { past = with_call caller call asked.past })) is_reply
    ∙ ap (λ (a : Replay). with_reply phase caller c (unmap_by (mapped_content a.past (handle_of a.bound phase caller) c) (next_place a.past) (handle_of a.bound phase caller) c (reply_to a.past call)) (reply_to a.past call) (record a { past = with_call caller call a.past })) is_asked

-- what a device that was told all so far is told more
pub hears_on : (old new : Lone) → HeardOn old new → old.told ≡ told old.past.seen → new.told ≡ told new.past.seen
hears_on old new heard so_far = heard [] so_far

-- a call of a trace that makes a call of the device
pub replayed_call : (phase caller : ℕ) (r : Replay) (c : TraceCall) (call : Call) → call_of (handle_of r.bound phase caller) c ≡ Some call →
    made phase caller c (handle_of r.bound phase caller) call r ≡ replayed phase caller r c
unfolding replayed
replayed_call phase caller r EndLoan call is = absurd cc
replayed_call phase caller r c call is = ap (λ x. option_map_or (λ call. made phase caller c (handle_of r.bound phase caller) call r) x r) (sym is)

pub end_of_loan : (phase caller : ℕ) (r : Replay) → unmapped caller r r.loans ≡ replayed phase caller r EndLoan
unfolding replayed
end_of_loan phase caller r = refl

-- the rest of a list after its first item
pub folded_more : {X : Type 0} (f : Replay → ℕ × X → Replay) (now next : Replay) (xs : List X) (i : ℕ) (d x : X) (all : Replay) → i < length xs → get_or xs i d ≡ x → next ≡ f now (i, x) →
    fold f now (enumerate_from i (drop i xs)) ≡ all → fold f next (enumerate_from (i + 1) (drop (i + 1) xs)) ≡ all
folded_more f now next xs i d x all below at is so_far =
    ap (λ (r : Replay). fold f r (enumerate_from (i + 1) (drop (i + 1) xs))) (is ∙ ap (λ x. f now (i, x)) (sym at))
    ∙ ap (λ ys. fold f now (enumerate_from i ys)) (sym (drop_more xs i d below)) ∙ so_far

pub folded_all : {X : Type 0} (f : Replay → ℕ × X → Replay) (now : Replay) (xs : List X) (i : ℕ) (all : Replay) → length xs ≤ i →
    fold f now (enumerate_from i (drop i xs)) ≡ all → now ≡ all
folded_all f now xs i all above so_far = ap (λ ys. fold f now (enumerate_from i ys)) (sym (drop_all i xs above)) ∙ so_far

-- what holds of a call that was done
pub if_not_err : {R E : Type 0} {P : Type 0} (r : Result R E) → is_err r ≡ false → OnOk r P → P
if_not_err (Ok x) done holds = holds
if_not_err (Err e) done holds = absurd cc

-- what holds of a call that was made holds of what it made
pub tried_ok : {X E F : Type 0} (out : Result X E) (tried : Result X F) (P : X → Type 0) → IfOk out (λ x. tried ≡ Ok x) → IfOk tried P → IfOk out P
tried_ok (Ok x) tried P is holds = subst (λ (r : Result _ _). IfOk r P) is holds
tried_ok (Err e) tried P is holds = tt
