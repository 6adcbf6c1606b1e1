use Rattle.std.proofs.Common.{◌≡◌, ◌∙◌, ◌+◌, ◌-◌, ◌≤◌, ℕ, false, arith, length, ap, subst, sym}
use Rattle.std.specs.Prelude.{nat_lt}
use Rattle.std.proofs.lemmas.Bool.{ltb-false}
use Rattle.frame_future.specs.Future.{IsKept}
use Rattle.seq_model.proofs.Afters.{seen_is_history}
use Rattle.seq_model.specs.Room.{is_full, loans_out, need}
use Rattle.seq_model.specs.State.{flights}
use Rattle.seq_model.specs.Steps.{after}
use Rattle.device_parts.specs.AllParts.{Inside}
use Rattle.device_parts.proofs.RoomFacts.{flight_count}
use Rattle.device_parts.proofs.parts.Parts.is_full.Goals as goal

-- what is owed beyond the limit
owes : (limit entries flown loans needed : ℕ) → nat_lt (limit - 1) (entries + flown + loans + needed) ≡ false → entries + flown + loans + needed ≤ limit - 1
owes limit entries flown loans needed not_full = ltb-false (limit - 1) (entries + flown + loans + needed) not_full

pub returns-clause-full : goal.returns-clause-full
unfolding is_full
returns-clause-full c =
    let i = c.args.self.now in
    let kept : IsKept i.flights.future = subst IsKept (c.frames.ensures.value ∙ ap (λ (i : Inside). i.flights.future) c.self.view_is) c.are_kept.ensures in
    let limit = c.from-3.ensures ∙ c.saturating_sub.ensures in
    let entries : c.from-entries.result ≡ length (after i.history).seen = c.from-entries.ensures ∙ c.entries.ensures.count ∙ ap length (sym (seen_is_history i.history)) in
    let flown : c.flight_count-flights.result ≡ length (flights (after i.history).state) =
    c.flight_count-flights.ensures ∙ ap (λ (i : Inside). length i.flights.future.flights) c.self.view_is ∙ sym (flight_count i.history i.flights.future c.are_parts.ensures.flown kept) in
    let loans : c.from.result ≡ loans_out (after i.history).state = c.from.ensures ∙ c.requires.loans in
    let needed : c.from-2.result ≡ need (after i.history).state c.args.call.now = c.from-2.ensures ∙ c.need.ensures in
    (λ k. nat_lt (limit k) (entries k + flown k + loans k + needed k))

pub returns-clause-owed : goal.returns-clause-owed
unfolding is_full
returns-clause-owed c = λ not_full.
    let i = c.args.self.now in
    let kept : IsKept i.flights.future = subst IsKept (c.frames.ensures.value ∙ ap (λ (i : Inside). i.flights.future) c.self.view_is) c.are_kept.ensures in
    let entries : length (after i.history).seen ≡ length i.history = ap length (seen_is_history i.history) in
    let flown = flight_count i.history i.flights.future c.are_parts.ensures.flown kept in
    let owed = owes c.args.limit (length (after i.history).seen) (length (flights (after i.history).state)) (loans_out (after i.history).state)
    (need (after i.history).state c.args.call.now) (sym (returns-clause-full c) ∙ not_full) in
    omega (arith, owed, entries, flown)
