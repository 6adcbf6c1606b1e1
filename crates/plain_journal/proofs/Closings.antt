-- How a device ends: each flight leaves, by rising ticket, and then the device is closed.
use Rattle.std.proofs.Common.{ℕ, suc, ◌+◌, ◌-◌, ◌==◌, ◌≡◌, ◌<◌, ◌≤◌, ◌∙◌, ◌⊎◌, inl, inr, not, Bool, true, false, List, [], ◌∷◌, ◌++◌, refl, sym, ap, subst, length, arith}
use Rattle.std.specs.Prelude.{◌&&◌, ◌||◌, cond, fold}
use Rattle.std.specs.List.{filter, range_with_len}
use Rattle.std.proofs.lemmas.Bool.{cases_eq, cases_lt, eq-eqb, ne_eqb, or_cases, or_right}
use Rattle.std.proofs.lemmas.List.{append-nil}
use Rattle.std.proofs.lemmas.List.Elements.{filter-append}
use Rattle.std.proofs.lemmas.List.Sums.{fold-append}
use Rattle.seq_model.proofs.Afters.{after_more}
use Rattle.seq_model.proofs.Tickets.{tickets_are_places}
use Rattle.seq_model.specs.Extensions.{let_follow}
use Rattle.seq_model.specs.Legal.{IsInPlace, is_called, is_flying}
use Rattle.seq_model.specs.Life.{has}
use Rattle.seq_model.specs.State.{flights}
use Rattle.seq_model.specs.Steps.{Past, after, next_place, step}
use Rattle.seq_model.specs.declared.calls.Entry.{Entry}
use Rattle.seq_model.specs.declared.calls.Entry.TheVariants.{Left, Closed}
use Rattle.past_laws.proofs.FlightFacts.{flights_have, flights_without, no_ticket_zero}
use Rattle.plain_journal.proofs.Legality.{unseen_more}
use Rattle.past_laws.proofs.OpenFacts.{follow_more, open_lets}
use Rattle.past_laws.proofs.Places.{range_more}
use Rattle.seq_model.specs.Endings.{ended}
use Rattle.plain_journal.specs.Leaving.{IsEnding, first_flights}
use Rattle.plain_journal.specs.Unseen.{IsUnseen}
use Rattle.past_laws.specs.Open.{IsOpen}

-- before any of them left
pub ending_start : (past : Past) → past ≡ after past.seen → IsUnseen past.seen → IsOpen past.seen → IsEnding past past 1
ending_start past led unseen open_ = record {
  from = omega arith;
  led = led;
  unseen = unseen;
  lets = λ note is. open_lets past.seen note open_;
  folded = refl;
  left = λ k less.
      let zero_ : k ≡ 0 = omega (arith, less) in
      ap (λ k. has k (flights past.state)) zero_ ∙ ap (λ (p : Past). has 0 (flights p.state)) led ∙ no_ticket_zero past.seen;
  later = λ k less. refl;
}

-- the flights with one ticket more
more_flights : (past : Past) (t : ℕ) → 1 ≤ t → first_flights past (t + 1 - 1) ≡ first_flights past (t - 1) ++ filter (λ t. has t (flights past.state)) (t ∷ [])
more_flights past t from =
    let next : t + 1 - 1 ≡ suc (t - 1) = omega (arith, from) in
    let last : 1 + (t - 1) ≡ t = omega (arith, from) in
    ap (first_flights past) next
    ∙ ap (filter (λ t. has t (flights past.state))) (range_more 1 (t - 1) ∙ ap (λ k. range_with_len 1 (t - 1) ++ k ∷ []) last)
    ∙ filter-append (λ t. has t (flights past.state)) (range_with_len 1 (t - 1)) (t ∷ [])

pub led_more : (past : Past) (e : Entry) → past ≡ after past.seen → step past e ≡ after (step past e).seen
unfolding step
led_more past e led = ap (λ (p : Past). step p e) led ∙ sym (after_more past.seen e)

pub seen_more : (past : Past) (e : Entry) → (step past e).seen ≡ past.seen ++ e ∷ []
unfolding step
seen_more past e = refl

-- a flight may leave where no call follows
left_in_place : (past : Past) (t : ℕ) → has t (flights past.state) ≡ true → IsInPlace past [] (Left t)
left_in_place past t is = by (or_cases (is_flying past.state t) (has t past.state.stopped) (sym (flights_have past.state t) ∙ is))
  where
    by : (is_flying past.state t ≡ true) ⊎ (has t past.state.stopped ≡ true) → IsInPlace past [] (Left t)
    by (inl flies) = inr (flies, refl)
    by (inr stopped) = inl stopped

others_stay : (past : Past) (t k : ℕ) → past ≡ after past.seen → has k (flights (step past (Left t)).state) ≡ (not (k == t) && has k (flights past.state))
others_stay past t k led = subst (λ (p : Past). has k (flights (step p (Left t)).state) ≡ (not (k == t) && has k (flights p.state))) (sym led) (flights_without past.seen t k)

-- the next ticket is one of a flight, which leaves
pub ending_step : (past now : Past) (t : ℕ) → IsEnding past now t → has t (flights now.state) ≡ true → IsEnding past (step now (Left t)) (t + 1)
ending_step past now t ending is = record {
  from = omega arith;
  led = led_more now (Left t) ending.led;
  unseen = subst IsUnseen (sym (seen_more now (Left t)))
      (unseen_more now (Left t) ending.led ending.unseen (record { placed = left_in_place now t is; rising = tt }) (ending.lets (Left t) refl) tt);
  lets = λ note is. subst (λ history. let_follow history note ≡ true) (sym (seen_more now (Left t)))
      (follow_more now.seen (Left t) note (ending.lets note is) (or_right (has t (after now.seen).state.stopped) (not (is_called note)) (ap not is)));
  folded = ap (λ (p : Past). step p (Left t)) ending.folded
      ∙ sym (fold-append (λ p k. step p (Left k)) past (first_flights past (t - 1)) (t ∷ []))
      ∙ ap (fold (λ p k. step p (Left k)) past) (sym (more_flights past t ending.from ∙ ap (λ b. first_flights past (t - 1) ++ cond b (t ∷ []) []) was));
  left = λ k less. others_stay now t k ending.led ∙ gone k less;
  later = λ k more.
      let apart : k ≡ t → ⊥ = λ same. omega (arith, more, same) in
      others_stay now t k ending.led ∙ ap (λ b. not b && has k (flights now.state)) (ne_eqb k t apart) ∙ ending.later k (omega (arith, more));
}
  where
    was : has t (flights past.state) ≡ true
    was = sym (ending.later t (omega arith)) ∙ is

    gone : (k : ℕ) → k < t + 1 → (not (k == t) && has k (flights now.state)) ≡ false
    gone k less = by (cases_eq k t)
      where
        by : (k ≡ t) ⊎ (k ≡ t → ⊥) → (not (k == t) && has k (flights now.state)) ≡ false
        by (inl same) = ap (λ b. not b && has k (flights now.state)) (eq-eqb k t same)
        by (inr apart) =
            let below : k < t = omega (arith, less, apart) in
            ap (λ b. not b && has k (flights now.state)) (ne_eqb k t apart) ∙ ending.left k below

-- it is not, and nothing happens
pub ending_over : (past now : Past) (t : ℕ) → IsEnding past now t → has t (flights now.state) ≡ false → IsEnding past now (t + 1)
ending_over past now t ending is = record {
  from = omega arith;
  led = ending.led;
  unseen = ending.unseen;
  lets = ending.lets;
  folded = ending.folded
      ∙ ap (fold (λ p k. step p (Left k)) past)
      (sym (more_flights past t ending.from ∙ ap (λ b. first_flights past (t - 1) ++ cond b (t ∷ []) []) was ∙ append-nil (first_flights past (t - 1))));
  left = λ k less. by k less (cases_eq k t);
  later = λ k more. ending.later k (omega (arith, more));
}
  where
    was : has t (flights past.state) ≡ false
    was = sym (ending.later t (omega arith)) ∙ is

    by : (k : ℕ) → k < t + 1 → (k ≡ t) ⊎ (k ≡ t → ⊥) → has k (flights now.state) ≡ false
    by k less (inl same) = ap (λ k. has k (flights now.state)) same ∙ is
    by k less (inr apart) = ending.left k (omega (arith, less, apart))

-- what has nothing is empty
empty_from : (us : List ℕ) → ((k : ℕ) → has k us ≡ false) → us ≡ []
empty_from [] none = refl
empty_from (u ∷ us) none =
    let wrong : true ≡ false = sym (ap (λ b. b || has u us) (eq-eqb u u refl)) ∙ none u in absurd cc

-- after all tickets no flight is left
pub no_flight_left : (past now : Past) → past ≡ after past.seen → IsEnding past now (length past.seen + 1) → flights now.state ≡ []
no_flight_left past now led ending = empty_from (flights now.state) none
  where
    was : (k : ℕ) → length past.seen + 1 ≤ k → (t : Bool) → has k (flights past.state) ≡ t → t ≡ false
    was k late false is = refl
    was k late true is =
        let early : k < next_place (after past.seen) = tickets_are_places past.seen k (ap (λ (p : Past). has k (flights p.state)) (sym led) ∙ is) in
        let same : next_place (after past.seen) ≡ length past.seen + 1 = ap next_place (sym led) in
        absurd (omega (arith, early, same, late))

    none : (k : ℕ) → has k (flights now.state) ≡ false
    none k = by (cases_lt k (length past.seen + 1))
      where
        by : (k < length past.seen + 1) ⊎ (length past.seen + 1 ≤ k) → has k (flights now.state) ≡ false
        by (inl less) = ending.left k less
        by (inr more) = ending.later k more ∙ was k more (has k (flights past.state)) refl

-- and the close may follow
pub ending_done : (past now : Past) → past ≡ after past.seen → IsEnding past now (length past.seen + 1) → (step now Closed ≡ ended past) × IsUnseen (ended past).seen
ending_done past now led ending = (
  closed,
  subst (λ (p : Past). IsUnseen p.seen) closed
      (subst IsUnseen (sym (seen_more now Closed))
      (unseen_more now Closed ending.led ending.unseen (record { placed = (refl, no_flight_left past now led ending); rising = tt }) (ending.lets Closed refl) tt)),
)
  where
    all : length past.seen + 1 - 1 ≡ length past.seen
    all = omega arith

    closed : step now Closed ≡ ended past
    closed = ap (λ (p : Past). step p Closed) (ending.folded ∙ ap (λ n. fold (λ p k. step p (Left k)) past (first_flights past n)) all)
