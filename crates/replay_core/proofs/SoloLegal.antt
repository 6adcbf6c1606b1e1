-- The history of a trace on one thread is legal.
use Rattle.std.proofs.Common.{ℕ, zero, suc, ◌+◌, ◌≡◌, ◌∙◌, Bool, true, false, List, [], ◌∷◌, ◌++◌, All, Option, Some, None, IfSome, fold, length, refl, sym, ap, subst, arith}
use Rattle.std.specs.Prelude.{IsSome, cond}
use Rattle.std.specs.List.{enumerate_from}
use Rattle.std.specs.Option.{option_map, unwrap_or}
use Rattle.std.proofs.lemmas.List.Elements.{All-nil, All-cons, All-head, All-tail}
use Rattle.kind_tables.specs.SceneObjects.{Block}
use Rattle.plain_journal.proofs.Closings.{ending_done, ending_over, ending_start, ending_step, led_more, seen_more}
use Rattle.past_laws.proofs.OpenFacts.{called_is_open, finished_is_open, left_is_open}
use Rattle.plain_journal.proofs.Legality.{call_is_legal, finished_is_legal, left_is_legal}
use Rattle.answered_calls.proofs.SeenTiles.{HasTiles}
use Rattle.plain_journal.specs.Leaving.{IsEnding}
use Rattle.past_laws.specs.Open.{IsOpen}
use Rattle.plain_journal.specs.Unseen.{IsUnseen}
use Rattle.replay_core.proofs.Answered.{nothing_asked, ready_answers}
use Rattle.replay_core.proofs.Making.{ends_a_loan}
use Rattle.replay_core.proofs.ReplayFacts.{asked_flies, end_of_loan, led_first, legal_first, others_sound, replayed_call, stopped_is_there, unmap_is_answered, unmap_is_sound}
use Rattle.replay_core.specs.Labels.{Meaning, call_of, handle_of}
use Rattle.replay_core.specs.Places.{EndsLoan}
use Rattle.replay_core.specs.Loans.{is_unmap, mapped_content, opens, unmap_by, unmap_of}
use Rattle.replay_core.specs.Solo.{Replay, caller_replayed, made, phase_replayed, replayed, solo, trace_replayed, unmapped}
use Rattle.solo_device.specs.OneThread.{asked_flight, ready_for, stopped_flight, with_call, with_note}
use Rattle.seq_model.specs.Answers.{answer}
use Rattle.seq_model.specs.Contents.{entered}
use Rattle.seq_model.specs.Endings.{ended, reply_to}
use Rattle.seq_model.specs.Extensions.{let_follow, let_follow_from, readings_from, readings_of}
use Rattle.seq_model.specs.Legal.{Legal, is_content_sound}
use Rattle.seq_model.specs.Life.{has}
use Rattle.seq_model.specs.Refusals.{phase_at}
use Rattle.seq_model.specs.State.{Phase, Flight, flights, ticket_in}
use Rattle.seq_model.specs.Steps.{Past, after, next_place, start, step}
use Rattle.seq_model.specs.declared.calls.Call.{Call}
use Rattle.seq_model.specs.declared.calls.Call.TheVariants.{DiscardFrame, FrameReady, MapFrame, RenderFrame, UnmapArray, UnmapFrame, UnmapParameterArray}
use Rattle.seq_model.specs.declared.calls.Entry.{Entry}
use Rattle.seq_model.specs.declared.calls.Entry.TheVariants.{Called, Finished, Left}
use Rattle.seq_model.specs.declared.calls.Reply.{Reply}
use Rattle.seq_model.specs.declared.calls.Reply.TheVariants as reply
use Rattle.trace_text.specs.declared.calls.Caller.{Caller}
use Rattle.trace_text.specs.declared.calls.Phase.{Phase as TracePhase}
use Rattle.trace_text.specs.declared.calls.Trace.{Trace}
use Rattle.trace_text.specs.declared.calls.TraceCall.{TraceCall}
use Rattle.trace_text.specs.declared.calls.TraceCall.TheVariants.{WithArray, WithFrame, WithParam}

-- a past of a legal history in which no reply saw a tile, and which a call may follow
record IsGood (past : Past) : Type 0 where
  led : past ≡ after past.seen
  unseen : IsUnseen past.seen
  lets : IsOpen past.seen

first_unseen : IsUnseen []
unfolding readings_of readings_from
first_unseen = record { legal = legal_first; unseen = All-nil (λ (r : ℕ × ℕ). r.1 ≡ 0) }

first_lets : IsOpen []
unfolding let_follow let_follow_from
first_lets actor call r = refl

good_first : IsGood start
good_first = record { led = led_first; unseen = first_unseen; lets = first_lets }

good_more : (past : Past) (e : Entry) → IsGood past → IsUnseen (past.seen ++ e ∷ []) → IsOpen (past.seen ++ e ∷ []) → IsGood (step past e)
good_more past e good unseen lets = record {
  led = led_more past e good.led;
  unseen = subst IsUnseen (sym (seen_more past e)) unseen;
  lets = subst IsOpen (sym (seen_more past e)) lets;
}

-- the flight that a call asks for has finished
good_ready : (past : Past) (call : Call) → IsGood past → IsGood (ready_for past call)
good_ready past call good = by (asked_flight past call) refl
  where
    by : (t : Option ℕ) → asked_flight past call ≡ t → IsGood (with_note Finished t past)
    by None is = good
    by (Some t) is = good_more past (Finished t) good (finished_is_legal past t good.led good.unseen good.lets (asked_flies past call t is)) (finished_is_open past t good.lets)

-- a call with its reply
answer_is : (past : Past) (call : Call) → IsSome (answer past call) → answer past call ≡ Some (reply_to past call)
answer_is past call some = by (answer past call) some
  where
    by : (x : Option Reply) → IsSome x → x ≡ Some (unwrap_or x reply.Done)
    by None some = absurd cc
    by (Some r) some = refl

good_called : (past : Past) (caller : ℕ) (call : Call) → IsGood past → IsSome (answer past call) → HasTiles past call → is_content_sound past call ≡ true → IsGood (step past (Called caller call (reply_to past call)))
good_called past caller call good answered tiles sound =
    good_more past (Called caller call (reply_to past call)) good
    (call_is_legal past good.led good.unseen good.lets caller call (reply_to past call) tiles (answer_is past call answered) sound)
    (called_is_open past good.lets caller call (reply_to past call))

-- a flight that a call stopped has left
stops_when_done : (past : Past) (call : Call) (r : Reply) (t : ℕ) → stopped_flight past call r ≡ Some t → r ≡ reply.Done
stops_when_done past (DiscardFrame h) reply.Done t is = refl
stops_when_done past (DiscardFrame h) _ t is = absurd cc
stops_when_done past _ r t is = absurd cc

good_with_call : (past : Past) (caller : ℕ) (call : Call) → IsGood past → IsSome (answer past call) → HasTiles past call → is_content_sound past call ≡ true → IsGood (with_call caller call past)
good_with_call past caller call good answered tiles sound = by (stopped_flight past call (reply_to past call)) refl
  where
    called : IsGood (step past (Called caller call (reply_to past call)))
    called = good_called past caller call good answered tiles sound

    by : (t : Option ℕ) → stopped_flight past call (reply_to past call) ≡ t → IsGood (with_note Left t (step past (Called caller call (reply_to past call))))
    by None is = called
    by (Some t) is =
        let done : reply_to past call ≡ reply.Done = stops_when_done past call (reply_to past call) t is in
        let stopped : has t (step past (Called caller call (reply_to past call))).state.stopped ≡ true =
        subst (λ x. IfSome x (λ t. has t (step past (Called caller call (reply_to past call))).state.stopped ≡ true))
        (ap (stopped_flight past call) (sym done) ∙ is) (stopped_is_there past caller call (reply_to past call) done) in
        good_more (step past (Called caller call (reply_to past call))) (Left t) called
        (left_is_legal (step past (Called caller call (reply_to past call))) t called.led called.unseen called.lets stopped)
        (left_is_open (step past (Called caller call (reply_to past call))) t called.led called.lets stopped)

-- a call that asks for no flight
lands : (phase : Phase) → ticket_in phase ≡ None → (t : ℕ) → phase ≡ Flight t → ⊥
lands phase still t is = let some : None ≡ Some t = sym still ∙ ap ticket_in is in absurd cc

asks_for_none : (past : Past) (call : Call) → asked_flight past call ≡ None → HasTiles past call
asks_for_none past (RenderFrame h) still = λ t is. absurd (lands (phase_at past h) still t is)
asks_for_none past (FrameReady h wait) still = λ t is. absurd (lands (phase_at past h) still t is)
asks_for_none past (MapFrame h channel) still = λ t is. absurd (lands (phase_at past h) still t is)
asks_for_none past _ still = tt

unmaps_ask_for_none : (past : Past) (unmap : Call) → is_unmap unmap ≡ true → asked_flight past (entered past unmap) ≡ None
unfolding entered
unmaps_ask_for_none past (UnmapArray h number bytes) is = refl
unmaps_ask_for_none past (UnmapParameterArray h name number bytes) is = refl
unmaps_ask_for_none past (UnmapFrame h number) is = refl
unmaps_ask_for_none past _ is = absurd cc

-- what ends a loan is an unmap
ends_content : (content : Option Block) (h number : ℕ) (bytes : Block → List ℕ) → EndsLoan (option_map (λ b. UnmapArray h number (bytes b)) content)
ends_content None h number bytes = tt
ends_content (Some b) h number bytes = refl

pub unmap_ends : (content : Option Block) (place : ℕ) (meaning : Meaning) (c : TraceCall) (r : Reply) → EndsLoan (unmap_by content place meaning c r)
unmap_ends None place meaning (WithArray array write) (reply.Lent number) = tt
unmap_ends (Some b) place meaning (WithArray array write) (reply.Lent number) = refl
unmap_ends content place meaning (WithParam object name elem count write) (reply.Lent number) = refl
unmap_ends content place meaning (WithFrame frame channel) (reply.Mapped width height t rows) = refl
unmap_ends content place meaning _ _ = tt

-- a replay whose past is good, and whose loans are ended by unmaps
pub record IsGoodReplay (r : Replay) : Type 0 where
  past : IsGood r.past
  loans : All EndsLoan r.loans

pub loan_opened : (t : Bool) (x : Option Call) (loans : List (Option Call)) → EndsLoan x → All EndsLoan loans → All EndsLoan (cond t (x ∷ loans) loans)
loan_opened true x loans ends all = All-cons EndsLoan x loans ends all
loan_opened false x loans ends all = all

good_unmapped : (caller : ℕ) (r : Replay) (loans : List (Option Call)) → r.loans ≡ loans → IsGoodReplay r → IsGoodReplay (unmapped caller r loans)
good_unmapped caller r [] is good = good
good_unmapped caller r (None ∷ loans) is good = record { past = good.past; loans = All-tail EndsLoan None loans (subst (All EndsLoan) is good.loans) }
good_unmapped caller r (Some unmap ∷ loans) is good =
    let all : All EndsLoan (Some unmap ∷ loans) = subst (All EndsLoan) is good.loans in
    let ends : is_unmap unmap ≡ true = All-head EndsLoan (Some unmap) loans all in
    record {
      past = good_with_call r.past caller (entered r.past unmap) good.past (unmap_is_answered r.past unmap ends)
          (asks_for_none r.past (entered r.past unmap) (unmaps_ask_for_none r.past unmap ends))
          (unmap_is_sound r.past unmap good.past.led good.past.unseen.legal);
      loans = All-tail EndsLoan (Some unmap) loans all;
    }

good_made : (phase caller : ℕ) (c : TraceCall) (call : Call) (r : Replay) → call_of (handle_of r.bound phase caller) c ≡ Some call → IsGoodReplay r → IsGoodReplay (made phase caller c (handle_of r.bound phase caller) call r)
good_made phase caller c call r is good =
    let meaning : Meaning = handle_of r.bound phase caller in
    let now : Past = ready_for r.past call in
    let led : after r.past.seen ≡ r.past = sym good.past.led in
    record {
      past = good_with_call now caller call (good_ready r.past call good.past)
          (subst (λ (p : Past). IsSome (answer (ready_for p call) call)) led (ready_answers r.past.seen call))
          (asks_for_none now call (subst (λ (p : Past). asked_flight (ready_for p call) call ≡ None) led (nothing_asked r.past.seen call)))
          (others_sound now meaning c call is);
      loans = loan_opened (opens c) (unmap_of now meaning c (reply_to now call)) r.loans (unmap_ends (mapped_content now meaning c) (next_place now) meaning c (reply_to now call)) good.loans;
    }

pub good_replayed : (phase caller : ℕ) (r : Replay) (c : TraceCall) → IsGoodReplay r → IsGoodReplay (replayed phase caller r c)
good_replayed phase caller r c good = by (call_of (handle_of r.bound phase caller) c) refl
  where
    by : (x : Option Call) → call_of (handle_of r.bound phase caller) c ≡ x → IsGoodReplay (replayed phase caller r c)
    by None is =
        subst (λ c. IsGoodReplay (replayed phase caller r c)) (sym (ends_a_loan (handle_of r.bound phase caller) c is))
        (subst IsGoodReplay (end_of_loan phase caller r) (good_unmapped caller r r.loans refl good))
    by (Some call) is = subst IsGoodReplay (replayed_call phase caller r c call is) (good_made phase caller c call r is good)

-- and so through all calls, callers and phases
stays_good : {X : Type 0} (f : Replay → X → Replay) → ((r : Replay) (x : X) → IsGoodReplay r → IsGoodReplay (f r x)) → (xs : List X) (r : Replay) → IsGoodReplay r → IsGoodReplay (fold f r xs)
stays_good f keeps [] r good = good
stays_good f keeps (x ∷ xs) r good = stays_good f keeps xs (f r x) (keeps r x good)

good_caller : (phase : ℕ) (r : Replay) (caller : ℕ × Caller) → IsGoodReplay r → IsGoodReplay (caller_replayed phase r caller)
good_caller phase r caller good =
    stays_good (replayed phase caller.0) (good_replayed phase caller.0) caller.1.calls (record { past = r.past; bound = r.bound; loans = [] }) (record { past = good.past; loans = All-nil EndsLoan })

good_phase : (r : Replay) (phase : ℕ × TracePhase) → IsGoodReplay r → IsGoodReplay (phase_replayed r phase)
good_phase r phase good = stays_good (caller_replayed phase.0) (good_caller phase.0) (enumerate_from 0 phase.1.callers) r good

good_trace : (trace : Trace) → IsGood (trace_replayed trace).past
good_trace trace =
    (stays_good phase_replayed good_phase (enumerate_from 0 trace.phases) (record { past = start; bound = []; loans = [] }) (record { past = good_first; loans = All-nil EndsLoan })).past

-- the flights leave, and the device is closed
record Leaves (past : Past) : Type 0 where
  now : Past
  ending : IsEnding past now (length past.seen + 1)

all_leave : (past : Past) (left t : ℕ) (now : Past) → t + left ≡ length past.seen + 1 → IsEnding past now t → Leaves past
all_leave past zero t now is ending = record { now = now; ending = subst (IsEnding past now) (let e : t ≡ length past.seen + 1 = omega (arith, is) in e) ending }
all_leave past (suc left) t now is ending =
    let next : t + 1 + left ≡ length past.seen + 1 = omega (arith, is) in
    by (λ later ending. all_leave past left (t + 1) later next ending) (has t (flights now.state)) refl
  where
    by : ((later : Past) → IsEnding past later (t + 1) → Leaves past) → (flies : Bool) → has t (flights now.state) ≡ flies → Leaves past
    by go true flies = go (step now (Left t)) (ending_step past now t ending flies)
    by go false flies = go now (ending_over past now t ending flies)

good_end : (past : Past) → IsGood past → Legal (ended past).seen
good_end past good =
    let count : 1 + length past.seen ≡ length past.seen + 1 = omega arith in
    let leaves : Leaves past = all_leave past (length past.seen) 1 past count (ending_start past good.led good.unseen good.lets) in
    (ending_done past leaves.now good.led leaves.ending).1.legal

pub solo_is_legal : (trace : Trace) → Legal (solo trace)
unfolding solo
solo_is_legal trace = good_end (trace_replayed trace).past (good_trace trace)
