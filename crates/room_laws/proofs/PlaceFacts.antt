-- How many places of a journal the entries of a history take.
use Rattle.std.proofs.Common.{◌≡◌, ◌+◌, ◌*◌, ◌-◌, ◌<◌, ◌≤◌, ◌++◌, ◌∷◌, ℕ, Bool, true, false, cond, [], length, length-append, refl, ap, arith}
use Rattle.std.specs.Prelude.{count_by, nat_lt}
use Rattle.std.specs.List.{sum_by}
use Rattle.std.proofs.lemmas.Bool.{and_parts, cond-false}
use Rattle.std.proofs.lemmas.Bool.Decides.{nat_tests}
use Rattle.std.proofs.lemmas.List.Sums.{sum_by-cons, sum_by_push}
use Rattle.seq_model.specs.Extensions.{let_follow, let_follow_from, lets_follow}
use Rattle.seq_model.specs.Histories.{History}
use Rattle.seq_model.specs.Legal.{Legal, is_called}
use Rattle.seq_model.specs.Refusals.{is_array_loan_out, is_channel_out, is_parameter_loan_out}
use Rattle.seq_model.specs.Room.{is_full, loans_out, need}
use Rattle.seq_model.specs.State.{State, flights}
use Rattle.seq_model.specs.Steps.{Past, after, change, start, step}
use Rattle.seq_model.specs.declared.calls.Call.{Call}
use Rattle.seq_model.specs.declared.calls.Call.TheVariants.{MapArray, MapFrame, MapParameterArray, RenderFrame, UnmapArray, UnmapFrame, UnmapParameterArray}
use Rattle.seq_model.specs.declared.calls.Entry.{Entry}
use Rattle.seq_model.specs.declared.calls.Entry.TheVariants.{Called, Closed, Finished, Left}
use Rattle.seq_model.specs.declared.calls.Reply.TheVariants as reply
use Rattle.seq_model.proofs.Afters.{grows_by, seen_is_history}
use Rattle.seq_model.proofs.Prefixes.{last_was_let_follow, prefix_is_legal}
use Rattle.room_laws.specs.Loans.{lends, takes_back}
use Rattle.room_laws.specs.Taken.{is_close, most_places}
use Rattle.room_laws.proofs.FlightCounts.{begins, ends, flights_move}
use Rattle.room_laws.proofs.LoanFacts.{left_lent, moves}

-- an entry that is not the close takes its own place and one for what it begins or lends, but what ends a flight has its place
places_suffice : (e : Entry) → (e ≡ Closed → ⊥) → 1 + begins e + lends e ≤ most_places e + ends e
places_suffice (Finished t) open_ = omega arith
places_suffice (Left t) open_ = omega arith
places_suffice Closed open_ = absurd (open_ refl)
places_suffice (Called actor (MapArray h) (reply.Lent n)) open_ = omega arith
places_suffice (Called actor (MapParameterArray h name elem count) (reply.Lent n)) open_ = omega arith
places_suffice (Called actor (MapFrame h c) (reply.Mapped width height t rows)) open_ = omega arith
places_suffice (Called actor (RenderFrame h) reply.Done) open_ = omega arith
places_suffice (Called actor (UnmapArray h number bytes) r) open_ = omega arith
places_suffice (Called actor (UnmapParameterArray h name number bytes) r) open_ = omega arith
places_suffice (Called actor (UnmapFrame h number) r) open_ = omega arith
places_suffice (Called actor call r) open_ = omega arith

-- the places that are taken after a history, and those that came back
abbrev Taken : History → Type 0
Taken history = length history + length (flights (after history).state) + loans_out (after history).state + sum_by takes_back history ≤ sum_by most_places history

taken_first : Taken []
unfolding after
taken_first = omega arith

none_lent : (history : History) → loans_out (after (history ++ Closed ∷ [])).state ≡ 0
unfolding change
none_lent history = left_lent history Closed

opened_more : (history : History) (e : Entry) → (e ≡ Closed → ⊥) → Legal (history ++ e ∷ []) → Taken history → Taken (history ++ e ∷ [])
opened_more history e open_ legal now =
    let entries = length-append history (e ∷ []) in
    let air = flights_move history e legal in
    let lent = moves history e legal open_ in
    let back = sum_by_push takes_back history e in
    let places = sum_by_push most_places history e in
    let least = places_suffice e open_ in
    omega (arith, now, entries, air, lent, back, places, least)

taken_more : (history : History) (e : Entry) → Legal (history ++ e ∷ []) → Taken history → Taken (history ++ e ∷ [])
taken_more history Closed legal now =
    let entries = length-append history (Closed ∷ []) in
    let air = flights_move history Closed legal in
    let none = none_lent history in
    let back = sum_by_push takes_back history Closed in
    let places = sum_by_push most_places history Closed in
    omega (arith, now, entries, air, none, back, places)
taken_more history (Called actor call r) legal now = opened_more history (Called actor call r) (λ same. cc) legal now
taken_more history (Finished t) legal now = opened_more history (Finished t) (λ same. cc) legal now
taken_more history (Left t) legal now = opened_more history (Left t) (λ same. cc) legal now

pub taken : (history : History) → Legal history → Taken history
taken history = grows_by (λ history. Legal history → Taken history) (λ legal. taken_first) (λ history e now legal. taken_more history e legal (now (prefix_is_legal history (e ∷ []) legal))) history

-- ---- in numbers of calls

count_of : (p : Entry → Bool) (e : Entry) (es : History) → count_by p (e ∷ es) ≡ cond (p e) 1 0 + count_by p es
count_of p e es = sum_by-cons (λ e. cond (p e) 1 0) e es

at_most_two : (e : Entry) → most_places e ≤ 2 * cond (is_called e) 1 0 + cond (is_close e) 1 0
at_most_two (Finished t) = omega arith
at_most_two (Left t) = omega arith
at_most_two Closed = omega arith
at_most_two (Called actor (UnmapArray h number bytes) r) = omega arith
at_most_two (Called actor (UnmapParameterArray h name number bytes) r) = omega arith
at_most_two (Called actor (UnmapFrame h number) r) = omega arith
at_most_two (Called actor call r) = omega arith

most_two : (history : History) → sum_by most_places history ≤ 2 * count_by is_called history + count_by is_close history
most_two [] = omega arith
most_two (e ∷ es) =
    let here = at_most_two e in
    let rest = most_two es in
    let places = sum_by-cons most_places e es in
    let calls = count_of is_called e es in
    let closes = count_of is_close e es in
    omega (arith, here, rest, places, calls, closes)

pub two_a_call : (history : History) → Legal history → length history + length (flights (after history).state) + loans_out (after history).state ≤ 2 * count_by is_called history + count_by is_close history
two_a_call history legal = let all = taken history legal in let most = most_two history in omega (arith, all, most)

-- nothing follows a close
none_closes : (past : Past) (history : History) (next : Entry) → let_follow_from past history next ≡ true → count_by is_close history ≡ 0
unfolding let_follow_from
none_closes past [] next lets = refl
none_closes past (e ∷ es) next lets =
    let both = and_parts (lets_follow past e next) (let_follow_from (step past e) es next) lets in
    let rest = none_closes (step past e) es next both.1 in
    let all = count_of is_close e es in
    let here : cond {A = ℕ} (is_close e) 1 0 ≡ 0 = cond-false (is_close e) 1 0 (not_closed e both.0) in
    omega (arith, rest, all, here)
  where
    not_closed : (e : Entry) → lets_follow past e next ≡ true → is_close e ≡ false
    not_closed (Called actor call r) lets = refl
    not_closed (Finished t) lets = refl
    not_closed (Left t) lets = refl
    not_closed Closed lets = absurd cc

pub closes_once : (history : History) → Legal history → count_by is_close history ≤ 1
unfolding let_follow
closes_once history = grows_by (λ history. Legal history → count_by is_close history ≤ 1) (λ legal. omega arith) more history
  where
    more : (history : History) (e : Entry) → (Legal history → count_by is_close history ≤ 1) → Legal (history ++ e ∷ []) → count_by is_close (history ++ e ∷ []) ≤ 1
    more history e now legal =
        let none = none_closes start history e (last_was_let_follow history e legal) in
        let all = sum_by_push (λ e. cond (is_close e) 1 0) history e in
        let last = at_most_one (is_close e) in
        omega (arith, none, all, last)
      where
        at_most_one : (b : Bool) → cond b 1 0 ≤ 1
        at_most_one true = omega arith
        at_most_one false = omega arith

-- ---- room for a call

needs_two : (s : State) (call : Call) → need s call ≤ 2
needs_two s (UnmapArray h number bytes) = by (is_array_loan_out s h number (length bytes))
  where
    by : (b : Bool) → cond b 0 1 ≤ 2
    by true = omega arith
    by false = omega arith
needs_two s (UnmapParameterArray h name number bytes) = by (is_parameter_loan_out s h name number (length bytes))
  where
    by : (b : Bool) → cond b 0 1 ≤ 2
    by true = omega arith
    by false = omega arith
needs_two s (UnmapFrame h number) = by (is_channel_out s h number)
  where
    by : (b : Bool) → cond b 0 1 ≤ 2
    by true = omega arith
    by false = omega arith
needs_two s (MapArray h) = omega arith
needs_two s (MapParameterArray h name elem count) = omega arith
needs_two s (RenderFrame h) = omega arith
needs_two s (MapFrame h c) = omega arith
needs_two s call = omega arith

within : (limit n : ℕ) → n + 1 ≤ limit → nat_lt (limit - 1) n ≡ false
within limit n few = grind (arith, nat_tests, few)

pub has_room : (limit : ℕ) (history : History) (call : Call) → Legal history → sum_by most_places history + 2 < limit → is_full limit (after history) call ≡ false
unfolding is_full
has_room limit history call legal few =
    let all = taken history legal in
    let seen = ap length (seen_is_history history) in
    let least = needs_two (after history).state call in
    within limit (length (after history).seen + length (flights (after history).state) + loans_out (after history).state + need (after history).state call) (omega (arith, all, seen, least, few))

pub few_calls_have_room : (history : History) (call : Call) → Legal history → count_by is_called history ≤ 262144 → is_full 1048576 (after history) call ≡ false
few_calls_have_room history call legal few =
    let all = most_two history in
    let once = closes_once history legal in
    has_room 1048576 history call legal (omega (arith, all, once, few))
