-- A frame whose flight was just finished is not in flight, and a call that asks for it waits for none.
use Rattle.std.proofs.Common.{ℕ, ◌==◌, ◌≡◌, ◌∙◌, ◌&&◌, true, false, Option, Some, None, refl, sym, ap, subst}
use Rattle.std.specs.Prelude.{cond, nat_lt}
use Rattle.std.specs.Option.{is_some, option_map, option_map_or}
use Rattle.std.proofs.lemmas.Bool.{eq-eqb}
use Rattle.seq_model.proofs.Came.{swept_was}
use Rattle.seq_model.proofs.Handles.{changed, changed_rises, rises, step_state}
use Rattle.seq_model.proofs.Keys.{at_map}
use Rattle.seq_model.specs.Histories.{History, public}
use Rattle.seq_model.specs.Refusals.{phase_at}
use Rattle.seq_model.specs.State.{Object, Empty, Done, is_in_flight, object_at, ticket_in}
use Rattle.seq_model.specs.Steps.{Past, after, change, end_flight, end_flights, set_phase, step}
use Rattle.seq_model.specs.declared.calls.Call.{Call}
use Rattle.seq_model.specs.declared.calls.Call.TheVariants.{FrameReady}
use Rattle.seq_model.specs.declared.calls.Entry.TheVariants.{Finished}
use Rattle.device_core.specs.Stepping.{IsAwake}
use Rattle.solo_device.specs.OneThread.{asked_flight, with_note}

finished_still : (t : ℕ) (p : Object) → ticket_in p.phase ≡ Some t → ticket_in (end_flight t (Done t) p).phase ≡ None
unfolding end_flight
finished_still t p flies =
    let is : is_in_flight t p ≡ true = ap (λ x. option_map_or (λ u. u == t) x false) flies ∙ eq-eqb t t refl in
    ap (λ b. ticket_in (cond b (set_phase (Done t) p) p).phase) is

lands : (history : History) (t h : ℕ) → ticket_in (phase_at (after history) h) ≡ Some t → ticket_in (phase_at (step (after history) (Finished t)) h) ≡ None
unfolding change end_flights
lands history t h flies = by (object_at (step (after history) (Finished t)).state h) refl
  where
    landed : (x : Option Object) (o : Object) → ticket_in (option_map_or (λ p. p.phase) x Empty) ≡ Some t → option_map (end_flight t (Done t)) x ≡ Some o → ticket_in o.phase ≡ None
    landed None o flies was = absurd cc
    landed (Some p) o flies was = let same : end_flight t (Done t) p ≡ o = cc in subst (λ (o : Object). ticket_in o.phase ≡ None) same (finished_still t p flies)

    by : (x : Option Object) → object_at (step (after history) (Finished t)).state h ≡ x → ticket_in (option_map_or (λ p. p.phase) x Empty) ≡ None
    by None is = refl
    by (Some o) is =
        landed (object_at (after history).state h) o flies
        (sym (at_map (end_flight t (Done t)) h (after history).state.objects)
        ∙ (swept_was (step (after history) (Finished t)) (changed (after history) (Finished t)) h o (changed_rises (after history) (Finished t) (rises history)).0
        (ap (λ s. object_at s h) (sym (step_state (after history) (Finished t))) ∙ is)).0)

-- after the note the frame is in no flight
pub noted_lands : (history : History) (t : Option ℕ) (h : ℕ) → ticket_in (phase_at (after history) h) ≡ t → ticket_in (phase_at (with_note Finished t (after history)) h) ≡ None
noted_lands history None h is = is
noted_lands history (Some t) h is = lands history t h is

-- so no call waits
pub waits_for_none : (past : Past) (call : Call) → asked_flight past call ≡ None → IsAwake past call
waits_for_none past (FrameReady h true) still = ap (λ t. is_some t && nat_lt 0 (public past.seen h)) still
waits_for_none past call still = tt
