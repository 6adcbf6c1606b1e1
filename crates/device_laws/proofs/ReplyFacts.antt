-- What replies tell of flights was read of them, and never falls.
use Rattle.std.proofs.Common.{ℕ, ◌+◌, ◌≡◌, ◌<◌, ◌≤◌, ◌∙◌, Bool, true, false, List, [], ◌∷◌, ◌++◌, All, Option, None, Some, Result, Ok, Err, map, length, refl, sym, ap, subst, arith}
use Rattle.std.specs.Prelude.{cond}
use Rattle.std.specs.List.{AllByRecursion, find}
use Rattle.std.specs.Option.{MatchOption, option_map}
use Rattle.std.proofs.lemmas.List.{length-append}
use Rattle.std.proofs.lemmas.List.Elements.{All-cons, All-nil, All-weaker}
use Rattle.dev_types.specs.declared.handles.NoMemory.{NoMemory as NoRoom}
use Rattle.dev_types.specs.declared.refusals.Refused.TheVariants.{InFlight}
use Rattle.tile_claims.specs.declared.seats.Claims.{Claims}
use Rattle.tile_claims.specs.declared.seats.Seat.{Seat}
use Rattle.flight_books.specs.Work.{AreAsked}
use Rattle.flight_books.specs.declared.work.Handed.{Handed}
use Rattle.frame_future.specs.Flights.{Flying, looked_at, stopped_at}
use Rattle.frame_future.specs.Future.{Future, IsDiscarded, Rising, asked_for, flight_at, flight_of, has_ticket, is_flight_of, phase_by, shown_by, with_flight_at}
use Rattle.frame_future.specs.Reads.{AreRead, AreSeen, is_end, left_by}
use Rattle.frame_future.specs.declared.phase.Ended.{Ended}
use Rattle.past_laws.proofs.OpenFacts.{readings_more}
use Rattle.seq_model.proofs.Afters.{frame_within, grows_by}
use Rattle.seq_model.proofs.Flights.{own_tickets}
use Rattle.seq_model.specs.Extensions.{readings_from, readings_of}
use Rattle.seq_model.specs.Histories.{History}
use Rattle.seq_model.specs.Legal.{IsNoLess, reading, seen_of, with_reading}
use Rattle.seq_model.specs.Refusals.{phase_at}
use Rattle.seq_model.specs.State.{Object, Phase, Empty, Flight, Done, object_at, ticket_in}
use Rattle.seq_model.specs.Steps.{after}
use Rattle.seq_model.specs.Tickets.{ticket_of}
use Rattle.seq_model.specs.declared.calls.Call.TheVariants.{FrameReady, MapFrame, RenderFrame, Retain}
use Rattle.seq_model.specs.declared.calls.Entry.{Entry}
use Rattle.seq_model.specs.declared.calls.Entry.TheVariants.{Called}
use Rattle.seq_model.specs.declared.calls.Reply.TheVariants as reply
use Rattle.device_laws.proofs.CallFacts.{all_put}
use Rattle.device_laws.proofs.FlownFacts.{joined, weaker}
use Rattle.device_laws.proofs.FrameFacts.{asked_flights, back, there}
use Rattle.device_laws.proofs.FramesStandFacts.{both_parts}
use Rattle.device_laws.proofs.StandingFacts.{flight_shown, found, phases_agree}
use Rattle.device_laws.specs.Flown.{Flown, runs_of}
use Rattle.device_laws.specs.Replies.{AreTold, IsTold}
use Rattle.device_laws.specs.Standing.{Standing, phase_as}

-- what is no less than one number is no less than a greater one
no_less : (readings : List (ℕ × ℕ)) (t m n : ℕ) → m ≤ n → IsNoLess readings (t, m) → IsNoLess readings (t, n)
no_less readings t m n less is =
    All-weaker (λ earlier. earlier.0 ≡ t → earlier.1 ≤ m) (λ earlier. earlier.0 ≡ t → earlier.1 ≤ n) (λ earlier before same. (let below : earlier.1 ≤ m = before same in omega (arith, below, less))) readings is

-- flights that were looked at
read_told : (history : History) (fs : List Flying) (reads : List ℕ) → AreRead fs reads → AreTold history fs → AreTold history (left_by fs reads)
read_told history [] reads read told = tt
read_told history (f ∷ fs) [] read told = absurd read
read_told history (f ∷ fs) (r ∷ reads) read told = by (is_end f r) (read_told history fs reads read.1 told.1)
  where
    by : (b : Bool) → AreTold history (left_by fs reads) → AreTold history (cond b (left_by fs reads) (looked_at r f ∷ left_by fs reads))
    by true rest = rest
    by false rest =
        (record { told = no_less (readings_of history) f.ticket f.looked r (let first : f.looked ≤ f.view.gives.last = told.0.read in let more : f.view.gives.last ≤ r = read.0.rises in omega (arith, first, more)) told.0.told; read = omega arith }, rest)

pub seen_told : (history : History) (last : ℕ) (old new : Future) (result : Option Ended) → AreSeen last old new result → AreTold history old.flights → AreTold history new.flights
seen_told history last old new result s told =
    let parts : AreTold history s.passed × AreTold history (s.seen ++ s.behind) = both_parts (IsTold history) s.passed (s.seen ++ s.behind) (subst (AreTold history) s.there told) in
    let later : AreTold history s.seen × AreTold history s.behind = both_parts (IsTold history) s.seen s.behind parts.1 in
    subst (AreTold history) (sym s.flights)
    (joined (IsTold history) s.passed (left_by s.seen s.reads ++ s.behind) parts.0
    (joined (IsTold history) (left_by s.seen s.reads) s.behind (read_told history s.seen s.reads s.read later.0) later.1))

at_most : (m n : ℕ) → m ≡ n → m ≤ n
at_most m n is = omega (arith, is)

-- flights of which the first seat has seen no less, with the same last look
on_told : (history : History) (f g : Flying) → g.ticket ≡ f.ticket → g.looked ≡ f.looked → f.view.gives.last ≤ g.view.gives.last → IsTold history f → IsTold history g
on_told history f g ticket looked rises told = record {
  told = subst (λ t. IsNoLess (readings_of history) (t, g.looked)) (sym ticket) (subst (λ n. IsNoLess (readings_of history) (f.ticket, n)) (sym looked) told.told);
  read = (let before : f.looked ≤ f.view.gives.last = told.read in omega (arith, looked, before, rises));
}

pub one_told : (history : History) (s : Future) (ticket : ℕ) (f g : Flying) → flight_at s ticket ≡ Some f → g.ticket ≡ f.ticket → g.looked ≡ f.looked → f.view.gives.last ≤ g.view.gives.last →
    AreTold history s.flights → AreTold history (with_flight_at s ticket g).flights
one_told history s ticket f g there ticket_is looked rises told =
    all_put (IsTold history) (has_ticket ticket) g s.flights
    (on_told history f g ticket_is looked rises (found (IsTold history) (has_ticket ticket) s.flights f told there).0) told

pub discarded_told : (history : History) (frame : ℕ) (old new : Future) → IsDiscarded frame old new (flight_of old frame) → AreTold history old.flights → AreTold history new.flights
discarded_told history frame old new discarded told = by (flight_of old frame) refl discarded
  where
    by : (x : Option Flying) → flight_of old frame ≡ x → IsDiscarded frame old new x → AreTold history new.flights
    by None none is = subst (λ (s : Future). AreTold history s.flights) (sym is) told
    by (Some f) some is =
        subst (λ (s : Future). AreTold history s.flights) (sym is.2)
        (all_put (IsTold history) (is_flight_of frame) is.0 old.flights
        (subst (IsTold history) (sym is.1.now)
        (on_told history f (stopped_at is.1.claims f) refl refl (at_most f.view.gives.last f.view.gives.last refl) (found (IsTold history) (is_flight_of frame) old.flights f told some).0)) told)

-- flights that were asked for a seat
record Last : Type 0 where
  ticket : ℕ
  looked : ℕ
  given : ℕ

abbrev last_of : Flying → Last
last_of f = record { ticket = f.ticket; looked = f.looked; given = f.view.gives.last }

record IsLastTold (history : History) (l : Last) : Type 0 where
  told : IsNoLess (readings_of history) (l.ticket, l.looked)
  read : l.looked ≤ l.given

asked_last : (result : Result (Option (Claims × Seat)) NoRoom) (read : ℕ) (f : Flying) → last_of (asked_for result read f) ≡ last_of f
asked_last (Ok (Some out)) read f = refl
asked_last (Ok None) read f = refl
asked_last (Err none) read f = refl

pub asked_told : (history : History) (old new : Future) (result : Result (Option Handed) NoRoom) → AreAsked old new result → AreTold history old.flights → AreTold history new.flights
asked_told history old new result asked told =
    weaker (λ f. IsLastTold history (last_of f)) (IsTold history) new.flights (λ f is. record { told = is.told; read = is.read })
    (back (IsLastTold history) last_of new.flights
    (subst (AllByRecursion (IsLastTold history)) (sym (asked_flights last_of asked_last old new result asked))
    (there (IsLastTold history) last_of old.flights
    (weaker (IsTold history) (λ f. IsLastTold history (last_of f)) old.flights (λ f is. record { told = is.told; read = is.read }) told))))

-- a reply tells of a flight of the history
first_same : (a b : ℕ × ℕ) → Some a ≡ Some b → a.0 ≡ b.0
first_same a b is = let same : a ≡ b = cc in ap (λ (r : ℕ × ℕ). r.0) same

seen_is_early : (history : History) (h g t n : ℕ) → seen_of (after history) h g ≡ Some (t, n) → t ≤ length history
seen_is_early history h g t n is = by (phase_at (after history) h) refl is
  where
    by : (phase : Phase) → phase_at (after history) h ≡ phase → option_map {U = ℕ × ℕ} (λ (u : ℕ). (u, g)) (ticket_in phase) ≡ Some (t, n) → t ≤ length history
    by Empty shows is = absurd cc
    by (Done u) shows is = absurd cc
    by (Flight u) shows is =
        let o : (o : Object) × ((object_at (after history).state h ≡ Some o) × (o.phase ≡ Flight u)) = flight_shown history h u shows in
        let early : u ≤ length history = (frame_within history u h (own_tickets history h u o.0 o.1.0 (ap ticket_of o.1.1))).1 in
        subst (λ k. k ≤ length history) (first_same (u, g) (t, n) is) early

reading_is_early : (history : History) (e : Entry) (t n : ℕ) → reading (after history) e ≡ Some (t, n) → t ≤ length history
reading_is_early history (Called actor (FrameReady h wait) (reply.NotReady given of)) t n is = seen_is_early history h given t n is
reading_is_early history (Called actor (RenderFrame h) (reply.Denied (InFlight given of))) t n is = seen_is_early history h given t n is
reading_is_early history (Called actor (MapFrame h c) (reply.Denied (InFlight given of))) t n is = seen_is_early history h given t n is
reading_is_early history (Called actor (Retain k) r) t n is = absurd cc
reading_is_early history e t n is = absurd cc

nothing_told : All (λ r. r.0 ≤ 0) (readings_of [])
unfolding readings_of readings_from
nothing_told = All-nil (λ (r : ℕ × ℕ). r.0 ≤ 0)

readings_are_early : (history : History) → All (λ r. r.0 ≤ length history) (readings_of history)
readings_are_early = grows_by (λ history. All (λ r. r.0 ≤ length history) (readings_of history)) nothing_told more
  where
    more : (history : History) (e : Entry) → All (λ r. r.0 ≤ length history) (readings_of history) → All (λ r. r.0 ≤ length (history ++ e ∷ [])) (readings_of (history ++ e ∷ []))
    more history e before = subst (All (λ (r : ℕ × ℕ). r.0 ≤ length (history ++ e ∷ []))) (sym (readings_more history e)) (by (reading (after history) e) refl)
      where
        all : All (λ (r : ℕ × ℕ). r.0 ≤ length (history ++ e ∷ [])) (readings_of history)
        all = All-weaker (λ (r : ℕ × ℕ). r.0 ≤ length history) (λ r. r.0 ≤ length (history ++ e ∷ [])) (λ r early. omega (arith, early, length-append history (e ∷ []))) (readings_of history) before

        by : (x : Option (ℕ × ℕ)) → reading (after history) e ≡ x → All (λ (r : ℕ × ℕ). r.0 ≤ length (history ++ e ∷ [])) (with_reading x (readings_of history))
        by None is = all
        by (Some r) is =
            let early : r.0 ≤ length history = reading_is_early history e r.0 r.1 is in
            All-cons (λ (r : ℕ × ℕ). r.0 ≤ length (history ++ e ∷ [])) r (readings_of history) (omega (arith, early, length-append history (e ∷ []))) all

-- a flight that begins, of which nothing was told
pub begun_told : (history : History) (fs : List Flying) (f : Flying) → f.ticket ≡ length history + 1 → f.looked ≤ f.view.gives.last → AreTold history fs → AreTold history (fs ++ f ∷ [])
begun_told history fs f ticket read told =
    joined (IsTold history) fs (f ∷ []) told (
      record {
        told = All-weaker (λ (r : ℕ × ℕ). r.0 ≤ length history) (λ r. r.0 ≡ f.ticket → r.1 ≤ f.looked) (λ r early same. absurd (omega (arith, early, same, ticket))) (readings_of history) (readings_are_early history);
        read = read;
      },
      tt,
    )

-- an entry that tells of no flight
pub quiet_told : (history : History) (e : Entry) (fs : List Flying) → reading (after history) e ≡ None → AreTold history fs → AreTold (history ++ e ∷ []) fs
quiet_told history e fs none told =
    weaker (IsTold history) (IsTold (history ++ e ∷ [])) fs
    (λ f is. record { told = subst (λ rs. IsNoLess rs (f.ticket, f.looked)) (sym (readings_more history e ∙ ap (λ x. with_reading x (readings_of history)) none)) is.told; read = is.read }) told

-- a reply that tells what the last look at a frame's flight read
told_more : (history : History) (e : Entry) (t n : ℕ) (fs : List Flying) → reading (after history) e ≡ Some (t, n) → AllByRecursion (λ f. t ≡ f.ticket → n ≤ f.looked) fs → AreTold history fs → AreTold (history ++ e ∷ []) fs
told_more history e t n [] is within told = tt
told_more history e t n (f ∷ fs) is within told = (
  record {
    told =
        subst (λ rs. IsNoLess rs (f.ticket, f.looked)) (sym (readings_more history e ∙ ap (λ x. with_reading x (readings_of history)) is))
        (All-cons (λ earlier. earlier.0 ≡ f.ticket → earlier.1 ≤ f.looked) (t, n) (readings_of history) within.0 told.0.told);
    read = told.0.read;
  },
  told_more history e t n fs is within.1 told.1,
)

-- the flight that was found alone has its ticket
not_below : (m n : ℕ) → m < n → n ≡ m → ⊥
not_below m n less is = omega (arith, less, is)

single : (p : Flying → Bool) (f : Flying) (fs : List Flying) → find p fs ≡ Some f → Rising (map (λ f. f.ticket) fs) → AllByRecursion (λ g. f.ticket ≡ g.ticket → f.looked ≤ g.looked) fs
single p f [] none rising = tt
single p f (g ∷ fs) is rising = by (p g) is (λ later. single p f fs later rising.1)
  where
    above : AllByRecursion (λ h. g.ticket < h.ticket) fs
    above = back (λ t. g.ticket < t) (λ (h : Flying). h.ticket) fs rising.0

    by : (b : Bool) → cond b (Some g) (find p fs) ≡ Some f → (find p fs ≡ Some f → AllByRecursion (λ h. f.ticket ≡ h.ticket → f.looked ≤ h.looked) fs) →
        (f.ticket ≡ g.ticket → f.looked ≤ g.looked) × AllByRecursion (λ h. f.ticket ≡ h.ticket → f.looked ≤ h.looked) fs
    by true is rest =
        let one : g ≡ f = cc in (
          λ same. at_most f.looked g.looked (ap (λ (h : Flying). h.looked) (sym one)),
          weaker (λ h. g.ticket < h.ticket) (λ h. f.ticket ≡ h.ticket → f.looked ≤ h.looked) fs
              (λ h less same. absurd (not_below g.ticket h.ticket less (sym same ∙ ap (λ (h : Flying). h.ticket) (sym one)))) above,
        )
    by false is rest =
        (λ same. absurd (not_below g.ticket f.ticket (found (λ h. g.ticket < h.ticket) p fs f above is).0 same), rest is)

pub reply_told : (history : History) (e : Entry) (s : Future) (h : ℕ) (f : Flying) → Flown history (runs_of s.flights) → Standing history (runs_of s.flights) s.pictures → Rising (map (λ f. f.ticket) s.flights) →
    flight_of s h ≡ Some f → reading (after history) e ≡ seen_of (after history) h f.looked → AreTold history s.flights →
    MatchOption (reading (after history) e) (Unit {0}) (IsNoLess (readings_of history)) × AreTold (history ++ e ∷ []) s.flights
reply_told history e s h f flown standing rising there tells told = (
  subst (λ x. MatchOption x (Unit {0}) (IsNoLess (readings_of history))) (sym is) (found (IsTold history) (is_flight_of h) s.flights f told there).0.told,
  told_more history e f.ticket f.looked s.flights is (single (is_flight_of h) f s.flights there rising) told,
)
  where
    flies : phase_at (after history) h ≡ Flight f.ticket
    flies = phases_agree history s flown standing h ∙ ap (λ x. phase_as (phase_by x (shown_by s h))) there

    is : reading (after history) e ≡ Some (f.ticket, f.looked)
    is = tells ∙ ap (λ phase. option_map {U = ℕ × ℕ} (λ (t : ℕ). (t, f.looked)) (ticket_in phase)) flies
