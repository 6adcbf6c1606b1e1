-- What a history grants of a frame, its kept frames grant.
use Rattle.std.proofs.Common.{ℕ, ◌+◌, ◌==◌, ◌≡◌, ◌<◌, ◌≤◌, ◌∙◌, ◌⊎◌, inl, inr, not, Bool, true, false, List, [], ◌∷◌, ◌++◌, Option, None, Some, length, refl, sym, ap, arith}
use Rattle.std.specs.Prelude.{cond, count_by, nat_lt, ◌||◌}
use Rattle.std.specs.List.{filter, find, list_any}
use Rattle.std.specs.Option.{is_some, option_map, option_map_or}
use Rattle.std.proofs.lemmas.Bool.{eqb-true}
use Rattle.dev_types.specs.declared.data_types.DataType.{DataType}
use Rattle.dev_types.specs.declared.handles.Channel.{Channel}
use Rattle.dev_types.specs.declared.refusals.Refused.{Refused}
use Rattle.dev_types.specs.declared.refusals.Refused.TheVariants.{ChannelMapped, NoChannel, NotMapped}
use Rattle.frame_future.specs.Channels.{is_asked, loan_of}
use Rattle.frame_future.specs.Flights.{Flying}
use Rattle.frame_future.specs.Future.{Finished, Future, IsLater, flight_of, is_mapped, is_picture_of, phase_by, phase_of, refusal_by, refusal_of_map, shown_by}
use Rattle.seq_model.proofs.Afters.{after_more, frame_within, seen_is_history}
use Rattle.seq_model.proofs.Channels.{channels_stand_once}
use Rattle.seq_model.proofs.Granted.{AllNone, all_none, does_not_apply, given}
use Rattle.seq_model.proofs.Prefixes.{in_place, legal_by, prefix_is_legal}
use Rattle.seq_model.specs.Histories.{History}
use Rattle.seq_model.specs.Legal.{IsInPlace, Legal}
use Rattle.seq_model.specs.Pictures.{has_channel}
use Rattle.seq_model.specs.Refusals.{in_flight, is_channel_out, is_same_channel, mapped_at, no_channel, no_picture, phase_at, refusal, refusals_of, refusals_of_map_frame, refusals_of_render}
use Rattle.seq_model.specs.State.{Object, Phase, Empty, Flight, Done, object_at}
use Rattle.seq_model.specs.Steps.{Past, after, step}
use Rattle.seq_model.specs.declared.calls.Call.TheVariants.{DiscardFrame, MapFrame, RenderFrame, Retain, UnmapFrame}
use Rattle.seq_model.specs.declared.calls.Entry.{Entry}
use Rattle.seq_model.specs.declared.calls.Entry.TheVariants.{Called, Finished as FinishedAt, Left}
use Rattle.seq_model.specs.declared.calls.Reply.TheVariants as reply
use Rattle.device_laws.proofs.FlightFacts.{flight_is}
use Rattle.device_laws.proofs.FlownFacts.{mapped, weaker}
use Rattle.device_laws.proofs.FutureFacts.{count_next, found_counts}
use Rattle.device_laws.proofs.LentFacts.{flights_map_nothing, mapped_over, mapped_shown, no_length, nothing_mapped}
use Rattle.device_laws.proofs.RenderFacts.{done_is_early}
use Rattle.device_laws.proofs.StandingFacts.{flights_have_runs, found, phases_agree}
use Rattle.device_laws.proofs.StandingSteps.{phase_over, phase_shown}
use Rattle.device_laws.proofs.UnmapSteps.{itself}
use Rattle.device_laws.specs.Flown.{Flown, IsRun, run_of, runs_of}
use Rattle.device_laws.specs.FramesStand.{FramesStand}
use Rattle.device_laws.specs.Lent.{IsLent, loan_in}
use Rattle.device_laws.specs.Renders.{ShowsRender}
use Rattle.device_laws.specs.Showings.{is_flight, showing_after, showing_at, with_channels, with_phase}
use Rattle.device_laws.specs.Standing.{phase_as}

-- what is not refused
render_granted : (past : Past) (f : ℕ) → refusal past (RenderFrame f) ≡ None → (in_flight past (phase_at past f) ≡ None) × (mapped_at past f ≡ [])
unfolding refusal refusals_of
render_granted past f none =
    let facts : AllNone (refusals_of_render past f) = all_none (refusals_of_render past f) none in
    (facts.1.1.1.1.0, no_length (mapped_at past f) (does_not_apply (nat_lt 0 (length (mapped_at past f))) ChannelMapped facts.1.1.1.1.1.0))

discard_granted : (past : Past) (f : ℕ) → refusal past (DiscardFrame f) ≡ None → mapped_at past f ≡ []
unfolding refusal refusals_of
discard_granted past f none =
    let facts : AllNone (refusals_of past (DiscardFrame f)) = all_none (refusals_of past (DiscardFrame f)) none in
    no_length (mapped_at past f) (does_not_apply (nat_lt 0 (length (mapped_at past f))) ChannelMapped facts.1.1.1.0)

-- a frame that may be mapped
record IsMappable (past : Past) (f : ℕ) (c : Channel) : Type 0 where
  landed : in_flight past (phase_at past f) ≡ None
  done : no_picture (phase_at past f) ≡ None
  free : list_any (λ m. is_same_channel m.0 c) (mapped_at past f) ≡ false
  asked : no_channel past (phase_at past f) c ≡ None

map_granted : (past : Past) (f : ℕ) (c : Channel) → refusal past (MapFrame f c) ≡ None → IsMappable past f c
unfolding refusal refusals_of
map_granted past f c none =
    let facts : AllNone (refusals_of_map_frame past f c) = all_none (refusals_of_map_frame past f c) none in
    record {
      landed = facts.1.1.1.0;
      done = facts.1.1.1.1.0;
      free = does_not_apply (list_any (λ m. is_same_channel m.0 c) (mapped_at past f)) ChannelMapped facts.1.1.1.1.1.0;
      asked = facts.1.1.1.1.1.1.0;
    }

not_not : (b : Bool) → not b ≡ false → b ≡ true
not_not true is = refl
not_not false is = absurd cc

unmap_granted : (past : Past) (f number : ℕ) → refusal past (UnmapFrame f number) ≡ None → is_channel_out past.state f number ≡ true
unfolding refusal refusals_of
unmap_granted past f number none =
    let facts : AllNone (refusals_of past (UnmapFrame f number)) = all_none (refusals_of past (UnmapFrame f number)) none in
    not_not (is_channel_out past.state f number) (does_not_apply (not (is_channel_out past.state f number)) NotMapped facts.0)

-- a frame that has nothing to show has no mapped channel
discard_unmapped : (history : History) (actor f : ℕ) → Legal (history ++ Called actor (DiscardFrame f) reply.Done ∷ []) → mapped_at (after history) f ≡ []
discard_unmapped history actor f legal =
    discard_granted (after history) f (given (after history) (DiscardFrame f) reply.Done (in_place history (Called actor (DiscardFrame f) reply.Done) [] legal).0 (λ refused is. cc)).0

map_shows : (history : History) (actor f : ℕ) (c : Channel) (width height : ℕ) (t : DataType) (rows : List ℕ) → Legal (history ++ Called actor (MapFrame f c) (reply.Mapped width height t rows) ∷ []) →
    phase_at (after history) f ≡ Empty → ⊥
map_shows history actor f c width height t rows legal empty =
    let mappable : IsMappable (after history) f c =
    map_granted (after history) f c
    (given (after history) (MapFrame f c) (reply.Mapped width height t rows) (in_place history (Called actor (MapFrame f c) (reply.Mapped width height t rows)) [] legal).0 (λ refused is. cc)).0 in
    let wrong : no_picture Empty ≡ None = ap no_picture (sym empty) ∙ mappable.done in cc

shows_none : (history : History) (e : Entry) (h : ℕ) → Legal (history ++ e ∷ []) → ((showing_at (after history).state h).phase ≡ Empty → (showing_at (after history).state h).channels ≡ []) →
    (showing_after (length history + 1) e h (showing_at (after history).state h)).phase ≡ Empty → (showing_after (length history + 1) e h (showing_at (after history).state h)).channels ≡ []
shows_none history (Called actor (RenderFrame f) reply.Done) h legal before is = by (f == h) is
  where
    by : (b : Bool) → (cond b (with_phase (Flight (length history + 1)) (showing_at (after history).state h)) (showing_at (after history).state h)).phase ≡ Empty →
        (cond b (with_phase (Flight (length history + 1)) (showing_at (after history).state h)) (showing_at (after history).state h)).channels ≡ []
    by true is = absurd cc
    by false is = before is
shows_none history (Called actor (DiscardFrame f) reply.Done) h legal before is = by (f == h) refl is
  where
    by : (b : Bool) → (f == h) ≡ b → (cond b (with_phase Empty (showing_at (after history).state h)) (showing_at (after history).state h)).phase ≡ Empty →
        (cond b (with_phase Empty (showing_at (after history).state h)) (showing_at (after history).state h)).channels ≡ []
    by true here is = sym (mapped_shown (after history) h) ∙ ap (mapped_at (after history)) (sym (eqb-true f h here)) ∙ discard_unmapped history actor f legal
    by false here is = before is
shows_none history (Called actor (MapFrame f c) (reply.Mapped width height kind rows)) h legal before is = by (f == h) refl is
  where
    by : (b : Bool) → (f == h) ≡ b → (cond b (with_channels (λ ms. ms ++ (c, length history + 1) ∷ []) (showing_at (after history).state h)) (showing_at (after history).state h)).phase ≡ Empty →
        (cond b (with_channels (λ ms. ms ++ (c, length history + 1) ∷ []) (showing_at (after history).state h)) (showing_at (after history).state h)).channels ≡ []
    by true here is =
        absurd (map_shows history actor f c width height kind rows legal (ap (phase_at (after history)) (eqb-true f h here) ∙ phase_shown (after history) h ∙ is))
    by false here is = before is
shows_none history (Called actor (UnmapFrame f number) reply.Done) h legal before is = by (f == h) is
  where
    by : (b : Bool) → (cond b (with_channels (λ ms. filter (λ m. not (m.1 == number)) ms) (showing_at (after history).state h)) (showing_at (after history).state h)).phase ≡ Empty →
        (cond b (with_channels (λ ms. filter (λ m. not (m.1 == number)) ms) (showing_at (after history).state h)) (showing_at (after history).state h)).channels ≡ []
    by true is = ap (λ ms. filter (λ m. not (m.1 == number)) ms) (before is)
    by false is = before is
shows_none history (Called actor (Retain f) r) h legal before is = before is
shows_none history (FinishedAt u) h legal before is = by (is_flight u (showing_at (after history).state h).phase) is
  where
    by : (b : Bool) → (cond b (with_phase (Done u) (showing_at (after history).state h)) (showing_at (after history).state h)).phase ≡ Empty →
        (cond b (with_phase (Done u) (showing_at (after history).state h)) (showing_at (after history).state h)).channels ≡ []
    by true is = absurd cc
    by false is = before is
shows_none history (Left u) h legal before is = by (is_flight u (showing_at (after history).state h).phase) refl is
  where
    by : (b : Bool) → is_flight u (showing_at (after history).state h).phase ≡ b → (cond b (with_phase Empty (showing_at (after history).state h)) (showing_at (after history).state h)).phase ≡ Empty →
        (cond b (with_phase Empty (showing_at (after history).state h)) (showing_at (after history).state h)).channels ≡ []
    by true flies is =
        sym (mapped_shown (after history) h)
        ∙ flights_map_nothing history (prefix_is_legal history (Left u ∷ []) legal) h u (phase_shown (after history) h ∙ flight_is u (showing_at (after history).state h).phase flies)
    by false flies is = before is
shows_none history e h legal before is = before is

nothing_first : (h : ℕ) → phase_at (after []) h ≡ Empty → mapped_at (after []) h ≡ []
unfolding after
nothing_first h is = refl

empty_maps_nothing : (history : History) → Legal history → (h : ℕ) → phase_at (after history) h ≡ Empty → mapped_at (after history) h ≡ []
empty_maps_nothing history legal = legal_by (λ past. (h : ℕ) → phase_at past h ≡ Empty → mapped_at past h ≡ []) nothing_first more history legal
  where
    more : (history : History) (e : Entry) → Legal (history ++ e ∷ []) → IsInPlace (after history) [] e → ((h : ℕ) → phase_at (after history) h ≡ Empty → mapped_at (after history) h ≡ []) →
        (h : ℕ) → phase_at (step (after history) e) h ≡ Empty → mapped_at (step (after history) e) h ≡ []
    more history e legal placed before h is = ap (λ past. mapped_at past h) (sym (after_more history e)) ∙ by (object_at (after (history ++ e ∷ [])).state h) refl
      where
        by : (x : Option Object) → object_at (after (history ++ e ∷ [])).state h ≡ x → mapped_at (after (history ++ e ∷ [])) h ≡ []
        by None gone = ap (λ x. option_map_or (λ (o : Object). o.channels) x []) gone
        by (Some o) there =
            let lives : is_some (object_at (after (history ++ e ∷ [])).state h) ≡ true = ap is_some there in
            mapped_over history e h lives
            ∙ shows_none history e h legal (λ empty. sym (mapped_shown (after history) h) ∙ before h (phase_shown (after history) h ∙ empty))
            (sym (phase_over history e h lives) ∙ ap (λ past. phase_at past h) (after_more history e) ∙ is)

-- so a frame that has one is done
pub mapped_is_done : (history : History) (h : ℕ) → Legal history → (mapped_at (after history) h ≡ []) ⊎ ((t : ℕ) × (phase_at (after history) h ≡ Done t))
mapped_is_done history h legal = by (phase_at (after history) h) refl
  where
    by : (phase : Phase) → phase_at (after history) h ≡ phase → (mapped_at (after history) h ≡ []) ⊎ ((t : ℕ) × (phase_at (after history) h ≡ Done t))
    by Empty is = inl (empty_maps_nothing history legal h is)
    by (Flight t) is = inl (flights_map_nothing history legal h t is)
    by (Done t) is = inr (t, is)

-- kept frames of a history
pub discard_starts : (history : History) (s : Future) → FramesStand history s → (f : ℕ) → refusal (after history) (DiscardFrame f) ≡ None → is_mapped s f ≡ false
discard_starts history s stand f none = nothing_mapped history s f stand.lent (discard_granted (after history) f none)

module _ (history : History) (s : Future) (flown : Flown history (runs_of s.flights)) (stand : FramesStand history s) (f : ℕ) where
  agree : phase_at (after history) f ≡ phase_as (phase_of s f)
  agree = phases_agree history s flown stand.stands f

  none_flies : in_flight (after history) (phase_at (after history) f) ≡ None → flight_of s f ≡ None
  none_flies landed = by (flight_of s f) refl
    where
      by : (x : Option Flying) → flight_of s f ≡ x → x ≡ None
      by None is = refl
      by (Some g) is =
          let flies : phase_at (after history) f ≡ Flight g.ticket = agree ∙ ap (λ x. phase_as (phase_by x (shown_by s f))) is in
          let wrong : in_flight (after history) (Flight g.ticket) ≡ None = ap (in_flight (after history)) (sym flies) ∙ landed in absurd cc

  -- all tickets are places
  all_later : IsLater s (length history + 1)
  all_later = record {
    flights =
        mapped (λ t. t < length history + 1) (λ f. f.ticket) s.flights
        (weaker (λ g. IsRun history (run_of g)) (λ g. g.ticket < length history + 1) s.flights
        (λ g run. (let early : g.ticket ≤ length history = (frame_within history g.ticket g.frame run.frame).1 in omega (arith, early)))
        (flights_have_runs (IsRun history) s.flights flown.each));
    pictures =
        mapped (λ t. t < length history + 1) (λ p. p.ticket) s.pictures
        (weaker (λ p. phase_at (after history) p.frame ≡ Done p.ticket) (λ p. p.ticket < length history + 1) s.pictures
        (λ p is. (let early : p.ticket ≤ length history = done_is_early history p.frame p.ticket is in omega (arith, early))) stand.stands.shown);
  }

  pub render_starts : refusal (after history) (RenderFrame f) ≡ None → (flight_of s f ≡ None) × (is_mapped s f ≡ false) × IsLater s (length history + 1)
  render_starts none =
      let facts : (in_flight (after history) (phase_at (after history) f) ≡ None) × (mapped_at (after history) f ≡ []) = render_granted (after history) f none in
      (none_flies facts.0, nothing_mapped history s f stand.lent facts.1, all_later)

  -- the picture of a frame, and its loans
  picture_is : (p : Finished) → shown_by s f ≡ Some p → IsLent history p × (p.frame ≡ f)
  picture_is p shown =
      let one : IsLent history p × (is_picture_of f p ≡ true) = found (IsLent history) (is_picture_of f) s.pictures p stand.lent shown in
      (one.0, eqb-true p.frame f one.1)

  loan_is : (p : Finished) (c : Channel) → shown_by s f ≡ Some p → loan_of p.loans c ≡ loan_in (mapped_at (after history) f) c
  loan_is p c shown = (picture_is p shown).0.loans c ∙ ap (λ h. loan_in (mapped_at (after history) h) c) (picture_is p shown).1

  no_loan : (ms : List (Channel × ℕ)) (c : Channel) → list_any (λ m. is_same_channel m.0 c) ms ≡ false → loan_in ms c ≡ None
  no_loan [] c free = refl
  no_loan (m ∷ ms) c free = by (is_same_channel m.0 c) free (no_loan ms c)
    where
      by : (b : Bool) → (b || list_any (λ m. is_same_channel m.0 c) ms) ≡ false → (list_any (λ m. is_same_channel m.0 c) ms ≡ false → loan_in ms c ≡ None) →
          option_map (λ (m : Channel × ℕ). m.1) (cond b (Some m) (find (λ m. is_same_channel m.0 c) ms)) ≡ None
      by true free rest = absurd cc
      by false free rest = rest free

  asked_there : (p : Finished) (c : Channel) → shown_by s f ≡ Some p → flight_of s f ≡ None → no_channel (after history) (phase_at (after history) f) c ≡ None → is_asked p.channels c ≡ true
  asked_there p c shown landed asked =
      (found (λ p. ShowsRender history p.ticket p.key p.channels) (is_picture_of f) s.pictures p stand.shows.pictures shown).0.asked c
      ∙ ap (λ (seen : History). has_channel seen p.ticket c) (sym (seen_is_history history))
      ∙ not_not (has_channel (after history).seen p.ticket c)
      (does_not_apply (not (has_channel (after history).seen p.ticket c)) NoChannel (ap (λ phase. no_channel (after history) phase c) (sym done) ∙ asked))
    where
      done : phase_at (after history) f ≡ Done p.ticket
      done = agree ∙ ap (λ x. phase_as (phase_by x (shown_by s f))) landed ∙ ap (λ y. phase_as (phase_by None y)) shown

  pub map_starts : (c : Channel) → refusal (after history) (MapFrame f c) ≡ None → (refusal_of_map s f c ≡ None) × (is_some (shown_by s f) ≡ true)
  map_starts c none = by (shown_by s f) refl
    where
      mappable : IsMappable (after history) f c
      mappable = map_granted (after history) f c none

      landed : flight_of s f ≡ None
      landed = none_flies mappable.landed

      by : (y : Option Finished) → shown_by s f ≡ y → (refusal_of_map s f c ≡ None) × (is_some y ≡ true)
      by None gone =
          let empty : phase_at (after history) f ≡ Empty = agree ∙ ap (λ x. phase_as (phase_by x (shown_by s f))) landed ∙ ap (λ y. phase_as (phase_by None y)) gone in
          absurd (let wrong : no_picture Empty ≡ None = ap no_picture (sym empty) ∙ mappable.done in cc)
      by (Some p) shown = (
        ap (λ x. refusal_by x (shown_by s f) c) landed ∙ ap (λ y. refusal_by None y c) shown
            ∙ ap (λ (x : Option ℕ). cond {A = Option Refused} (is_some x) (Some ChannelMapped) (cond (is_asked p.channels c) None (Some NoChannel))) (loan_is p c shown ∙ no_loan (mapped_at (after history) f) c mappable.free)
            ∙ ap (λ b. cond {A = Option Refused} b None (Some NoChannel)) (asked_there p c shown landed mappable.asked),
        refl,
      )

  -- a loan that is out
  numbered : (ms : List (Channel × ℕ)) (number : ℕ) → ((c : Channel) → count_by (λ m. is_same_channel m.0 c) ms ≤ 1) → list_any (λ m. m.1 == number) ms ≡ true → (c : Channel) × (loan_in ms c ≡ Some number)
  numbered [] number once out = absurd cc
  numbered (m ∷ ms) number once out = by (m.1 == number) refl out (numbered ms number (λ c. fewer c))
    where
      fewer : (c : Channel) → count_by (λ m. is_same_channel m.0 c) ms ≤ 1
      fewer c = let next : count_by (λ m. is_same_channel m.0 c) (m ∷ ms) ≡ cond (is_same_channel m.0 c) 1 0 + count_by (λ m. is_same_channel m.0 c) ms = count_next (λ (m : Channel × ℕ). is_same_channel m.0 c) m ms in
          omega (arith, next, once c)

      counts : (c : Channel) → loan_in ms c ≡ Some number → 1 ≤ count_by (λ m. is_same_channel m.0 c) ms
      counts c is = of (find (λ m. is_same_channel m.0 c) ms) refl is
        where
          of : (x : Option (Channel × ℕ)) → find (λ m. is_same_channel m.0 c) ms ≡ x → option_map (λ (m : Channel × ℕ). m.1) x ≡ Some number → 1 ≤ count_by (λ m. is_same_channel m.0 c) ms
          of None gone is = absurd cc
          of (Some n) there is = found_counts (λ (m : Channel × ℕ). is_same_channel m.0 c) ms n there

      apart : (c : Channel) → loan_in ms c ≡ Some number → (b : Bool) → is_same_channel m.0 c ≡ b → b ≡ false
      apart c is false same = refl
      apart c is true same =
          let next : count_by (λ m. is_same_channel m.0 c) (m ∷ ms) ≡ cond (is_same_channel m.0 c) 1 0 + count_by (λ m. is_same_channel m.0 c) ms = count_next (λ (m : Channel × ℕ). is_same_channel m.0 c) m ms in
          let one : cond {A = ℕ} (is_same_channel m.0 c) 1 0 ≡ 1 = ap (λ b. cond {A = ℕ} b 1 0) same in
          absurd (omega (arith, next, one, once c, counts c is))

      by : (b : Bool) → (m.1 == number) ≡ b → (b || list_any (λ m. m.1 == number) ms) ≡ true → (list_any (λ m. m.1 == number) ms ≡ true → (c : Channel) × (loan_in ms c ≡ Some number)) → (c : Channel) × (loan_in (m ∷ ms) c ≡ Some number)
      by true is out rest = (
        m.0,
        ap (λ b. option_map (λ (m : Channel × ℕ). m.1) (cond b (Some m) (find (λ n. is_same_channel n.0 m.0) ms))) (itself m.0) ∙ ap Some (eqb-true m.1 number is),
      )
      by false is out rest =
          let later : (c : Channel) × (loan_in ms c ≡ Some number) = rest out in (
            later.0,
            ap (λ b. option_map (λ (m : Channel × ℕ). m.1) (cond b (Some m) (find (λ n. is_same_channel n.0 later.0) ms))) (apart later.0 later.1 (is_same_channel m.0 later.0) refl) ∙ later.1,
          )

  out_channel : (number : ℕ) → Legal history → is_channel_out (after history).state f number ≡ true → (c : Channel) × (loan_in (mapped_at (after history) f) c ≡ Some number)
  out_channel number legal out = by (object_at (after history).state f) refl out
    where
      by : (x : Option Object) → object_at (after history).state f ≡ x → option_map_or (λ (o : Object). list_any (λ m. m.1 == number) o.channels) x false ≡ true →
          (c : Channel) × (loan_in (option_map_or (λ (o : Object). o.channels) x []) c ≡ Some number)
      by None gone out = absurd cc
      by (Some o) there out = numbered o.channels number (λ c. channels_stand_once history f o c legal there) out

  pub unmap_starts : (number : ℕ) → Legal history → refusal (after history) (UnmapFrame f number) ≡ None → (p : Finished) × (c : Channel) × (shown_by s f ≡ Some p) × (loan_of p.loans c ≡ Some number)
  unmap_starts number legal none = by (mapped_is_done history f legal)
    where
      c : (c : Channel) × (loan_in (mapped_at (after history) f) c ≡ Some number)
      c = out_channel number legal (unmap_granted (after history) f number none)

      of : (y : Option Finished) → shown_by s f ≡ y → is_some y ≡ true → (p : Finished) × (c : Channel) × (shown_by s f ≡ Some p) × (loan_of p.loans c ≡ Some number)
      of None shown is = absurd cc
      of (Some p) shown is = (p, c.0, shown, loan_is p c.0 shown ∙ c.1)

      by : (mapped_at (after history) f ≡ []) ⊎ ((t : ℕ) × (phase_at (after history) f ≡ Done t)) → (p : Finished) × (c : Channel) × (shown_by s f ≡ Some p) × (loan_of p.loans c ≡ Some number)
      by (inl nothing) = let wrong : None ≡ Some number = sym (ap (λ ms. loan_in ms c.0) nothing) ∙ c.1 in absurd cc
      by (inr done) = of (shown_by s f) refl (stand.stands.done f done.0 done.1)
