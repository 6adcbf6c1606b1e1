-- What is kept of frames stands as the history says, entry by entry.
use Rattle.std.proofs.Common.{ℕ, ◌+◌, ◌==◌, ◌≡◌, ◌<◌, ◌∙◌, ◌⊎◌, inl, inr, not, Bool, true, false, List, [], ◌∷◌, ◌++◌, append-nil, Option, Some, None, map, length, refl, sym, ap, subst, arith}
use Rattle.std.specs.Prelude.{cond, ◌&&◌, ◌||◌}
use Rattle.std.specs.List.{AllByRecursion, filter, find}
use Rattle.std.specs.Option.{is_some, option_map_or}
use Rattle.std.proofs.lemmas.Bool.{eq-eqb, eqb-true, or_left, or_right}
use Rattle.frame_future.specs.Future.{Finished, is_picture_of}
use Rattle.past_laws.specs.Worlds.{render_of}
use Rattle.seq_model.proofs.Flights.{own_tickets}
use Rattle.seq_model.specs.Histories.{History}
use Rattle.seq_model.specs.Life.{has}
use Rattle.seq_model.specs.Refusals.{phase_at}
use Rattle.seq_model.specs.State.{Object, Phase, Empty, Flight, Done, flights, object_at}
use Rattle.seq_model.specs.Steps.{Past, after}
use Rattle.seq_model.specs.Tickets.{ticket_of}
use Rattle.seq_model.specs.declared.calls.Call.TheVariants.{DiscardFrame, MapFrame, RenderFrame, Retain, UnmapFrame}
use Rattle.seq_model.specs.declared.calls.Entry.{Entry}
use Rattle.seq_model.specs.declared.calls.Entry.TheVariants.{Called, Finished as FinishedAt, Left}
use Rattle.seq_model.specs.declared.calls.Reply.TheVariants as reply
use Rattle.device_laws.proofs.FlightFacts.{flight_is}
use Rattle.device_laws.proofs.FlightSteps.{lends, stops_after}
use Rattle.device_laws.proofs.FlownFacts.{joined, mapped, middle, own_flight, stopped_is_early, stops_same, weaker, without_middle}
use Rattle.device_laws.proofs.PhaseFacts.{flying_phase}
use Rattle.device_laws.proofs.ShowingFacts.{shows_after}
use Rattle.device_laws.proofs.StandingFacts.{both, flight_shown}
use Rattle.device_laws.proofs.SweepFacts.{run_flies}
use Rattle.device_laws.specs.FlightMoves.{moves_flights}
use Rattle.device_laws.specs.Flown.{Flown, IsRun, Run, note_of_run, stopped_run, stopped_runs, tickets_in}
use Rattle.device_laws.specs.Showings.{Showing, flight_ends, is_flight, nothing_shown, showing_after, showing_at, showing_of, with_phase}
use Rattle.device_laws.specs.Standing.{AreLeft, LeavesPictures, LeavesPicturesBy, Standing, other_pictures, pictures_left}

-- what a filter leaves
pub all_filtered : {X : Type 0} (P Q : X → Type 0) (q : X → Bool) (xs : List X) → ((x : X) → P x → q x ≡ true → Q x) → AllByRecursion P xs → AllByRecursion Q (filter q xs)
all_filtered P Q q [] more all = tt
all_filtered {X} P Q q (x ∷ xs) more all = by (q x) refl (all_filtered P Q q xs more all.1)
  where
    by : (b : Bool) → q x ≡ b → AllByRecursion Q (filter q xs) → AllByRecursion Q (cond b (x ∷ filter q xs) (filter q xs))
    by true is rest = (more x all.0 is, rest)
    by false is rest = rest

find_filtered : {X : Type 0} (p q : X → Bool) (xs : List X) → ((x : X) → p x ≡ true → q x ≡ true) → is_some (find p xs) ≡ true → is_some (find p (filter q xs)) ≡ true
find_filtered p q [] more is = is
find_filtered {X} p q (x ∷ xs) more is = by (p x) refl (q x) refl is (find_filtered p q xs more)
  where
    by : (b : Bool) → p x ≡ b → (c : Bool) → q x ≡ c → is_some (cond b (Some x) (find p xs)) ≡ true → (is_some (find p xs) ≡ true → is_some (find p (filter q xs)) ≡ true) →
        is_some (find p (cond c (x ∷ filter q xs) (filter q xs))) ≡ true
    by true passes true stays is rest = ap (λ b. is_some (cond b (Some x) (find p (filter q xs)))) passes
    by true passes false goes is rest = let wrong : true ≡ false = sym (more x passes) ∙ goes in absurd cc
    by false fails true stays is rest = ap (λ b. is_some (cond b (Some x) (find p (filter q xs)))) fails ∙ rest is
    by false fails false goes is rest = rest is

find_joined : {X : Type 0} (p : X → Bool) (xs ys : List X) → (is_some (find p xs) ≡ true) ⊎ (is_some (find p ys) ≡ true) → is_some (find p (xs ++ ys)) ≡ true
find_joined p [] ys (inl is) = absurd cc
find_joined p [] ys (inr is) = is
find_joined {X} p (x ∷ xs) ys any = by (p x) any (find_joined p xs ys)
  where
    by : (b : Bool) → (is_some (cond b (Some x) (find p xs)) ≡ true) ⊎ (is_some (find p ys) ≡ true) → ((is_some (find p xs) ≡ true) ⊎ (is_some (find p ys) ≡ true) → is_some (find p (xs ++ ys)) ≡ true) →
        is_some (cond b (Some x) (find p (xs ++ ys))) ≡ true
    by true any rest = refl
    by false any rest = rest any

-- phases, and what is there
pub phase_shown : (past : Past) (h : ℕ) → phase_at past h ≡ (showing_at past.state h).phase
phase_shown past h = by (object_at past.state h)
  where
    by : (x : Option Object) → option_map_or (λ (o : Object). o.phase) x Empty ≡ (option_map_or showing_of x nothing_shown).phase
    by None = refl
    by (Some o) = refl

pub there_if : (past : Past) (h t : ℕ) → (phase_at past h ≡ Done t) ⊎ (phase_at past h ≡ Flight t) → is_some (object_at past.state h) ≡ true
there_if past h t = by (object_at past.state h)
  where
    by : (x : Option Object) → (option_map_or (λ (o : Object). o.phase) x Empty ≡ Done t) ⊎ (option_map_or (λ (o : Object). o.phase) x Empty ≡ Flight t) → is_some x ≡ true
    by None (inl is) = absurd cc
    by None (inr is) = absurd cc
    by (Some o) is = refl

pub phase_over : (history : History) (e : Entry) (h : ℕ) → is_some (object_at (after (history ++ e ∷ [])).state h) ≡ true →
    phase_at (after (history ++ e ∷ [])) h ≡ (showing_after (length history + 1) e h (showing_at (after history).state h)).phase
phase_over history e h there = phase_shown (after (history ++ e ∷ [])) h ∙ ap (λ (x : Showing). x.phase) (shows_after history e h there)

-- what stands after an entry, by the pictures that there are before the frames that do not live are gone
module _ (history : History) (e : Entry) (left : ℕ → Bool) (leaves : AreLeft history e left) where
  standing_by : (runs : List Run) (pictures : List Finished) → AllByRecursion (λ r. has r.ticket (after (history ++ e ∷ [])).state.stopped ≡ r.stopped) runs →
      AllByRecursion (λ p. is_some (object_at (after history).state p.frame) ≡ true
      × ((showing_after (length history + 1) e p.frame (showing_at (after history).state p.frame)).phase ≡ Done p.ticket)) pictures →
      ((h t : ℕ) → (showing_after (length history + 1) e h (showing_at (after history).state h)).phase ≡ Done t → is_some (object_at (after history).state h) ≡ true × (is_some (find (is_picture_of h) pictures) ≡ true)) →
      Standing (history ++ e ∷ []) runs (pictures_left left pictures)
  standing_by runs pictures stops shown done = record {
    stopped = stops;
    shown =
        all_filtered (λ p. is_some (object_at (after history).state p.frame) ≡ true × ((showing_after (length history + 1) e p.frame (showing_at (after history).state p.frame)).phase ≡ Done p.ticket))
        (λ p. phase_at (after (history ++ e ∷ [])) p.frame ≡ Done p.ticket) (λ p. left p.frame) pictures
        (λ p is stays. phase_over history e p.frame (sym (leaves p.frame is.0) ∙ stays) ∙ is.1) shown;
    done = λ h t is.
        (let there : is_some (object_at (after (history ++ e ∷ [])).state h) ≡ true = there_if (after (history ++ e ∷ [])) h t (inl is) in
        let was : is_some (object_at (after history).state h) ≡ true × (is_some (find (is_picture_of h) pictures) ≡ true) = done h t (sym (phase_over history e h there) ∙ is) in
        find_filtered (is_picture_of h) (λ p. left p.frame) pictures
        (λ p passes. ap left (eqb-true p.frame h passes) ∙ leaves h was.0 ∙ there) was.1);
  }

-- an entry that moves no flight
same_phase : (place : ℕ) (e : Entry) (h : ℕ) (x : Showing) → moves_flights e ≡ false → (showing_after place e h x).phase ≡ x.phase
same_phase place (Called actor (RenderFrame f) reply.Done) h x none = absurd cc
same_phase place (Called actor (DiscardFrame f) reply.Done) h x none = absurd cc
same_phase place (Called actor (MapFrame f channel) (reply.Mapped width height kind rows)) h x none = lends f h (λ ms. ms ++ (channel, place) ∷ []) x
same_phase place (Called actor (UnmapFrame f number) reply.Done) h x none = lends f h (λ ms. filter (λ m. not (m.1 == number)) ms) x
same_phase place (Called actor (Retain f) r) h x none = refl
same_phase place (FinishedAt u) h x none = absurd cc
same_phase place (Left u) h x none = absurd cc
same_phase place e h x none = refl

pub others_stand : (history : History) (e : Entry) (left : ℕ → Bool) (runs : List Run) (pictures : List Finished) → moves_flights e ≡ false → AreLeft history e left → Standing history runs pictures →
    Standing (history ++ e ∷ []) runs (pictures_left left pictures)
others_stand history e left runs pictures none leaves standing =
    standing_by history e left leaves runs pictures
    (weaker (λ r. has r.ticket (after history).state.stopped ≡ r.stopped) (λ r. has r.ticket (after (history ++ e ∷ [])).state.stopped ≡ r.stopped) runs
    (λ r is. stops_after history e r.ticket ∙ stops_same (after history) e r.ticket none ∙ is) standing.stopped)
    (weaker (λ p. phase_at (after history) p.frame ≡ Done p.ticket) (λ p. is_some (object_at (after history).state p.frame) ≡ true × ((showing_after (length history + 1) e p.frame (showing_at (after history).state p.frame)).phase ≡ Done p.ticket)) pictures
    (λ p is. (there_if (after history) p.frame p.ticket (inl is), same_phase (length history + 1) e p.frame (showing_at (after history).state p.frame) none ∙ sym (phase_shown (after history) p.frame) ∙ is)) standing.shown)
    (λ h t is.
    (let was : phase_at (after history) h ≡ Done t = phase_shown (after history) h ∙ sym (same_phase (length history + 1) e h (showing_at (after history).state h) none) ∙ is in
    (there_if (after history) h t (inl was), standing.done h t was)))

-- an entry that puts a frame into a phase without a picture
pub flip : (a b : ℕ) (c : Bool) → (a == b) ≡ c → (b == a) ≡ c
flip a b true is = eq-eqb b a (sym (eqb-true a b is))
flip a b false is = by (b == a) refl
  where
    by : (c : Bool) → (b == a) ≡ c → c ≡ false
    by false other = refl
    by true other = let wrong : (a == b) ≡ true = eq-eqb a b (sym (eqb-true b a other)) in absurd cc

not_false : (b : Bool) → not b ≡ true → b ≡ false
not_false true is = absurd cc
not_false false is = refl

set_stands : (history : History) (e : Entry) (f : ℕ) (phase : Phase) (left : ℕ → Bool) (before runs : List Run) (pictures : List Finished) →
    ((h : ℕ) (x : Showing) → showing_after (length history + 1) e h x ≡ cond (f == h) (with_phase phase x) x) → ((t : ℕ) → phase ≡ Done t → ⊥) → AreLeft history e left →
    AllByRecursion (λ r. has r.ticket (after (history ++ e ∷ [])).state.stopped ≡ r.stopped) runs → Standing history before pictures →
    Standing (history ++ e ∷ []) runs (pictures_left left (other_pictures f pictures))
set_stands history e f phase left before runs pictures makes none leaves stops standing =
    standing_by history e left leaves runs (other_pictures f pictures) stops
    (all_filtered (λ p. phase_at (after history) p.frame ≡ Done p.ticket) (λ p. is_some (object_at (after history).state p.frame) ≡ true × ((showing_after (length history + 1) e p.frame (showing_at (after history).state p.frame)).phase ≡ Done p.ticket))
    (λ p. not (is_picture_of f p)) pictures
    (λ p is other. (
      there_if (after history) p.frame p.ticket (inl is),
      ap (λ (x : Showing). x.phase) (makes p.frame (showing_at (after history).state p.frame))
          ∙ ap (λ b. (cond b (with_phase phase (showing_at (after history).state p.frame)) (showing_at (after history).state p.frame)).phase) (flip p.frame f false (not_false (p.frame == f) other))
          ∙ sym (phase_shown (after history) p.frame) ∙ is,
    )) standing.shown)
    (λ h t is. done h t (f == h) refl (sym (ap (λ (x : Showing). x.phase) (makes h (showing_at (after history).state h))) ∙ is))
  where
    done : (h t : ℕ) (b : Bool) → (f == h) ≡ b → (cond b (with_phase phase (showing_at (after history).state h)) (showing_at (after history).state h)).phase ≡ Done t →
        is_some (object_at (after history).state h) ≡ true × (is_some (find (is_picture_of h) (other_pictures f pictures)) ≡ true)
    done h t true here is = absurd (none t is)
    done h t false here is =
        let was : phase_at (after history) h ≡ Done t = phase_shown (after history) h ∙ is in (
          there_if (after history) h t (inl was),
          find_filtered (is_picture_of h) (λ p. not (is_picture_of f p)) pictures
              (λ p passes. ap (λ frame. not (frame == f)) (eqb-true p.frame h passes) ∙ ap not (flip f h false here)) (standing.done h t was),
        )

pub render_stands : (history : History) (actor f : ℕ) (left : ℕ → Bool) (runs : List Run) (pictures : List Finished) → AreLeft history (render_of actor f) left → Standing history runs pictures →
    Standing (history ++ render_of actor f ∷ []) (runs ++ record { ticket = length history + 1; frame = f; stopped = false } ∷ []) (pictures_left left (other_pictures f pictures))
render_stands history actor f left runs pictures leaves standing =
    set_stands history (render_of actor f) f (Flight (length history + 1)) left runs (runs ++ record { ticket = length history + 1; frame = f; stopped = false } ∷ []) pictures
    (λ h x. refl) (λ t is. cc) leaves
    (joined (λ r. has r.ticket (after (history ++ render_of actor f ∷ [])).state.stopped ≡ r.stopped) runs (record { ticket = length history + 1; frame = f; stopped = false } ∷ [])
    (weaker (λ r. has r.ticket (after history).state.stopped ≡ r.stopped) (λ r. has r.ticket (after (history ++ render_of actor f ∷ [])).state.stopped ≡ r.stopped) runs
    (λ r is. stops_after history (render_of actor f) r.ticket ∙ is) standing.stopped)
    (stops_after history (render_of actor f) (length history + 1) ∙ early (has (length history + 1) (after history).state.stopped) refl, tt)) standing
  where
    early : (b : Bool) → has (length history + 1) (after history).state.stopped ≡ b → b ≡ false
    early false is = refl
    early true is = absurd (let less : length history + 1 < length history + 1 = stopped_is_early history (length history + 1) is in omega (arith, less))

-- each run is one of the runs
tickets_had : (runs : List Run) → AllByRecursion (λ r. has r.ticket (map (λ (r : Run). r.ticket) runs) ≡ true) runs
tickets_had [] = tt
tickets_had (r ∷ runs) = (
  or_left (r.ticket == r.ticket) (has r.ticket (map (λ (r : Run). r.ticket) runs)) (eq-eqb r.ticket r.ticket refl),
  weaker (λ q. has q.ticket (map (λ (r : Run). r.ticket) runs) ≡ true) (λ q. ((r.ticket == q.ticket) || has q.ticket (map (λ (r : Run). r.ticket) runs)) ≡ true) runs
      (λ q is. or_right (r.ticket == q.ticket) (has q.ticket (map (λ (r : Run). r.ticket) runs)) is) (tickets_had runs),
)

stopped_now : (history : History) (f : ℕ) (r : Run) → IsRun history r → has r.ticket (flights (after history).state) ≡ true → has r.ticket (after history).state.stopped ≡ r.stopped →
    (has r.ticket (after history).state.stopped || is_flight r.ticket (phase_at (after history) f)) ≡ (stopped_run f r).stopped
stopped_now history f r run flies stops = by (r.frame == f) refl
  where
    stopped_or : (b : Bool) → r.stopped ≡ b → r.frame ≡ f → (has r.ticket (after history).state.stopped || is_flight r.ticket (phase_at (after history) f)) ≡ true
    stopped_or true is same = or_left (has r.ticket (after history).state.stopped) (is_flight r.ticket (phase_at (after history) f)) (stops ∙ is)
    stopped_or false is same =
        or_right (has r.ticket (after history).state.stopped) (is_flight r.ticket (phase_at (after history) f))
        (ap (λ h. is_flight r.ticket (phase_at (after history) h)) (sym same)
        ∙ ap (is_flight r.ticket) (flying_phase history r.ticket r.frame flies (stops ∙ is) run.frame) ∙ eq-eqb r.ticket r.ticket refl)

    other : (b : Bool) → is_flight r.ticket (phase_at (after history) f) ≡ b → (r.frame == f) ≡ false → (has r.ticket (after history).state.stopped || b) ≡ r.stopped
    other false is apart = none (has r.ticket (after history).state.stopped) ∙ stops
      where
        none : (a : Bool) → (a || false) ≡ a
        none true = refl
        none false = refl
    other true is apart =
        let frames : Some r.frame ≡ Some f = sym run.frame ∙ own_flight history r.ticket f is in
        let same : r.frame ≡ f = cc in
        let wrong : (r.frame == f) ≡ true = eq-eqb r.frame f same in absurd cc

    by : (b : Bool) → (r.frame == f) ≡ b →
        (has r.ticket (after history).state.stopped || is_flight r.ticket (phase_at (after history) f)) ≡ (cond b (record { ticket = r.ticket; frame = r.frame; stopped = true }) r).stopped
    by true is = stopped_or r.stopped refl (eqb-true r.frame f is)
    by false is = other (is_flight r.ticket (phase_at (after history) f)) refl is

pub discard_stands : (history : History) (actor f : ℕ) (left : ℕ → Bool) (runs : List Run) (pictures : List Finished) → AreLeft history (Called actor (DiscardFrame f) reply.Done) left →
    Flown history runs → Standing history runs pictures → Standing (history ++ Called actor (DiscardFrame f) reply.Done ∷ []) (stopped_runs f runs) (pictures_left left (other_pictures f pictures))
discard_stands history actor f left runs pictures leaves flown standing =
    set_stands history (Called actor (DiscardFrame f) reply.Done) f Empty left runs (stopped_runs f runs) pictures (λ h x. refl) (λ t is. cc) leaves
    (mapped (λ r. has r.ticket (after (history ++ Called actor (DiscardFrame f) reply.Done ∷ [])).state.stopped ≡ r.stopped) (stopped_run f) runs
    (weaker (λ r. IsRun history r × ((has r.ticket (after history).state.stopped ≡ r.stopped) × (has r.ticket (map (λ (r : Run). r.ticket) runs) ≡ true)))
    (λ r. has (stopped_run f r).ticket (after (history ++ Called actor (DiscardFrame f) reply.Done ∷ [])).state.stopped ≡ (stopped_run f r).stopped) runs
    (λ r is.
    same_ticket r (r.frame == f) ∙ stops_after history (Called actor (DiscardFrame f) reply.Done) r.ticket ∙ stopped_now history f r is.0 (flown.tickets r.ticket ∙ is.1.1) is.1.0)
    (both (IsRun history) (λ r. (has r.ticket (after history).state.stopped ≡ r.stopped) × (has r.ticket (map (λ (r : Run). r.ticket) runs) ≡ true)) runs flown.each
    (both (λ r. has r.ticket (after history).state.stopped ≡ r.stopped) (λ r. has r.ticket (map (λ (r : Run). r.ticket) runs) ≡ true) runs standing.stopped (tickets_had runs))))) standing
  where
    same_ticket : (r : Run) (b : Bool) → has (cond b (record { ticket = r.ticket; frame = r.frame; stopped = true }) r).ticket (after (history ++ Called actor (DiscardFrame f) reply.Done ∷ [])).state.stopped
        ≡ has r.ticket (after (history ++ Called actor (DiscardFrame f) reply.Done ∷ [])).state.stopped
    same_ticket r true = refl
    same_ticket r false = refl

-- a flight that ends in a picture
ends_done : (t u : ℕ) (phase : Phase) (x : Showing) → x.phase ≡ Done u → (flight_ends t phase x).phase ≡ Done u
ends_done t u phase x is = ap (λ p. (cond (is_flight t p) (with_phase phase x) x).phase) is ∙ is

ends_here : (t : ℕ) (phase : Phase) (x : Showing) → x.phase ≡ Flight t → (flight_ends t phase x).phase ≡ phase
ends_here t phase x is = ap (λ p. (cond (is_flight t p) (with_phase phase x) x).phase) is ∙ ap (λ b. (cond b (with_phase phase x) x).phase) (eq-eqb t t refl)

was_done : (t u : ℕ) (x : Showing) → (flight_ends t (Done t) x).phase ≡ Done u → (x.phase ≡ Done u) ⊎ (x.phase ≡ Flight t)
was_done t u x is = by (is_flight t x.phase) refl is
  where
    by : (b : Bool) → is_flight t x.phase ≡ b → (cond b (with_phase (Done t) x) x).phase ≡ Done u → (x.phase ≡ Done u) ⊎ (x.phase ≡ Flight t)
    by true flies is = inr (flight_is t x.phase flies)
    by false other is = inl is

finished_stands : (history : History) (done : List Run) (r : Run) (rest : List Run) (p : Finished) (left : ℕ → Bool) (pictures : List Finished) → r.stopped ≡ false → p.frame ≡ r.frame → p.ticket ≡ r.ticket →
    AreLeft history (FinishedAt r.ticket) left → Flown history (done ++ r ∷ rest) → Standing history (done ++ r ∷ rest) pictures →
    Standing (history ++ FinishedAt r.ticket ∷ []) (done ++ rest) (pictures_left left (pictures ++ p ∷ []))
finished_stands history done r rest p left pictures going frame ticket leaves flown standing =
    standing_by history (FinishedAt r.ticket) left leaves (done ++ rest) (pictures ++ p ∷ [])
    (weaker (λ r. has r.ticket (after history).state.stopped ≡ r.stopped) (λ q. has q.ticket (after (history ++ FinishedAt r.ticket ∷ [])).state.stopped ≡ q.stopped) (done ++ rest)
    (λ q is. stops_after history (FinishedAt r.ticket) q.ticket ∙ is) (without_middle (λ r. has r.ticket (after history).state.stopped ≡ r.stopped) done r rest standing.stopped))
    (joined (λ p. is_some (object_at (after history).state p.frame) ≡ true × ((flight_ends r.ticket (Done r.ticket) (showing_at (after history).state p.frame)).phase ≡ Done p.ticket)) pictures (p ∷ [])
    (weaker (λ p. phase_at (after history) p.frame ≡ Done p.ticket) (λ p. is_some (object_at (after history).state p.frame) ≡ true × ((flight_ends r.ticket (Done r.ticket) (showing_at (after history).state p.frame)).phase ≡ Done p.ticket)) pictures
    (λ p is. (there_if (after history) p.frame p.ticket (inl is), ends_done r.ticket p.ticket (Done r.ticket) (showing_at (after history).state p.frame) (sym (phase_shown (after history) p.frame) ∙ is))) standing.shown) (
      (
        there_if (after history) p.frame r.ticket (inr shows),
        ends_here r.ticket (Done r.ticket) (showing_at (after history).state p.frame) (sym (phase_shown (after history) p.frame) ∙ shows) ∙ ap Done (sym ticket),
      ),
      tt,
    ))
    (λ h t is. of h t (was_done r.ticket t (showing_at (after history).state h) is))
  where
    run : IsRun history r
    run = middle (IsRun history) done r rest flown.each

    shows : phase_at (after history) p.frame ≡ Flight r.ticket
    shows =
        ap (phase_at (after history)) frame
        ∙ flying_phase history r.ticket r.frame (run_flies history done r rest flown) (middle (λ r. has r.ticket (after history).state.stopped ≡ r.stopped) done r rest standing.stopped ∙ going) run.frame

    of : (h t : ℕ) → ((showing_at (after history).state h).phase ≡ Done t) ⊎ ((showing_at (after history).state h).phase ≡ Flight r.ticket) →
        is_some (object_at (after history).state h) ≡ true × (is_some (find (is_picture_of h) (pictures ++ p ∷ [])) ≡ true)
    of h t (inl is) =
        let was : phase_at (after history) h ≡ Done t = phase_shown (after history) h ∙ is in
        (there_if (after history) h t (inl was), find_joined (is_picture_of h) pictures (p ∷ []) (inl (standing.done h t was)))
    of h t (inr is) =
        let was : phase_at (after history) h ≡ Flight r.ticket = phase_shown (after history) h ∙ is in
        let o : (o : Object) × ((object_at (after history).state h ≡ Some o) × (o.phase ≡ Flight r.ticket)) = flight_shown history h r.ticket was in
        let frames : Some r.frame ≡ Some h = sym run.frame ∙ own_tickets history h r.ticket o.0 o.1.0 (ap ticket_of o.1.1) in
        let same : r.frame ≡ h = cc in (
          there_if (after history) h r.ticket (inr was),
          find_joined (is_picture_of h) pictures (p ∷ []) (inr (ap (λ b. is_some (cond b (Some p) None)) (eq-eqb p.frame h (frame ∙ same)))),
        )

-- a flight that leaves
left_stands : (history : History) (done : List Run) (r : Run) (rest : List Run) (left : ℕ → Bool) (pictures : List Finished) → has r.ticket (map (λ (r : Run). r.ticket) (done ++ rest)) ≡ false →
    AreLeft history (Left r.ticket) left → Standing history (done ++ r ∷ rest) pictures → Standing (history ++ Left r.ticket ∷ []) (done ++ rest) (pictures_left left pictures)
left_stands history done r rest left pictures apart leaves standing =
    standing_by history (Left r.ticket) left leaves (done ++ rest) pictures
    (weaker (λ q. (has q.ticket (after history).state.stopped ≡ q.stopped) × (has q.ticket (map (λ (r : Run). r.ticket) (done ++ rest)) ≡ true)) (λ q. has q.ticket (after (history ++ Left r.ticket ∷ [])).state.stopped ≡ q.stopped) (done ++ rest)
    (λ q is. stops_after history (Left r.ticket) q.ticket ∙ others q is.1 (r.ticket == q.ticket) refl ∙ is.0)
    (both (λ q. has q.ticket (after history).state.stopped ≡ q.stopped) (λ q. has q.ticket (map (λ (r : Run). r.ticket) (done ++ rest)) ≡ true) (done ++ rest)
    (without_middle (λ r. has r.ticket (after history).state.stopped ≡ r.stopped) done r rest standing.stopped) (tickets_had (done ++ rest))))
    (weaker (λ p. phase_at (after history) p.frame ≡ Done p.ticket) (λ p. is_some (object_at (after history).state p.frame) ≡ true × ((flight_ends r.ticket Empty (showing_at (after history).state p.frame)).phase ≡ Done p.ticket)) pictures
    (λ p is. (there_if (after history) p.frame p.ticket (inl is), ends_done r.ticket p.ticket Empty (showing_at (after history).state p.frame) (sym (phase_shown (after history) p.frame) ∙ is))) standing.shown)
    (λ h t is. of h t (is_flight r.ticket (showing_at (after history).state h).phase) refl is)
  where
    others : (q : Run) → has q.ticket (map (λ (r : Run). r.ticket) (done ++ rest)) ≡ true → (b : Bool) → (r.ticket == q.ticket) ≡ b → (not b && has q.ticket (after history).state.stopped) ≡ has q.ticket (after history).state.stopped
    others q had false is = refl
    others q had true is =
        let wrong : true ≡ false = sym had ∙ ap (λ t. has t (map (λ (r : Run). r.ticket) (done ++ rest))) (sym (eqb-true r.ticket q.ticket is)) ∙ apart in absurd cc

    of : (h t : ℕ) (b : Bool) → is_flight r.ticket (showing_at (after history).state h).phase ≡ b → (cond b (with_phase Empty (showing_at (after history).state h)) (showing_at (after history).state h)).phase ≡ Done t →
        is_some (object_at (after history).state h) ≡ true × (is_some (find (is_picture_of h) pictures) ≡ true)
    of h t true flies is = absurd cc
    of h t false other is =
        let was : phase_at (after history) h ≡ Done t = phase_shown (after history) h ∙ is in (there_if (after history) h t (inl was), standing.done h t was)

pub note_stands : (history : History) (done : List Run) (r : Run) (rest : List Run) (left : ℕ → Bool) (pictures ended : List Finished) → has r.ticket (tickets_in (done ++ rest)) ≡ false → LeavesPictures r ended →
    AreLeft history (note_of_run r) left → Flown history (done ++ r ∷ rest) → Standing history (done ++ r ∷ rest) pictures →
    Standing (history ++ note_of_run r ∷ []) (done ++ rest) (pictures_left left (pictures ++ ended))
note_stands history done r rest left pictures ended apart leaves_pictures leaves flown standing = by r.stopped refl ended leaves_pictures leaves
  where
    by : (b : Bool) → r.stopped ≡ b → (ended : List Finished) → LeavesPicturesBy b r ended → AreLeft history (cond b (Left r.ticket) (FinishedAt r.ticket)) left →
        Standing (history ++ cond b (Left r.ticket) (FinishedAt r.ticket) ∷ []) (done ++ rest) (pictures_left left (pictures ++ ended))
    by true stopped [] is leaves =
        subst (λ ps. Standing (history ++ Left r.ticket ∷ []) (done ++ rest) (pictures_left left ps)) (sym (append-nil pictures)) (left_stands history done r rest left pictures apart leaves standing)
    by true stopped (p ∷ ps) is leaves = absurd is
    by false going [] is leaves = absurd is
    by false going (p ∷ []) is leaves = finished_stands history done r rest p left pictures going is.0 is.1 leaves flown standing
    by false going (p ∷ q ∷ ps) is leaves = absurd is
