-- What is kept of frames, call by call.
use Rattle.std.proofs.Common.{ℕ, ◌+◌, ◌≡◌, ◌∙◌, not, Bool, true, false, List, [], ◌∷◌, ◌++◌, Option, None, Some, length, refl, sym, ap, subst}
use Rattle.std.specs.Prelude.{cond}
use Rattle.std.specs.List.{AllByRecursion}
use Rattle.dev_types.specs.declared.handles.Channel.{Channel}
use Rattle.dev_types.specs.declared.refusals.Refused.{Refused}
use Rattle.frame_future.specs.Channels.{is_asked}
use Rattle.frame_future.specs.Flights.{Flying, is_stopped, key_at}
use Rattle.frame_future.specs.Future.{Finished, Future, IsDiscarded, IsKept, flight_of, is_flight_of, is_picture_of, replaced, with_flight}
use Rattle.kind_tables.specs.Scenes.{scene}
use Rattle.past_laws.proofs.OpenFacts.{follow_more}
use Rattle.past_laws.specs.Open.{IsOpen}
use Rattle.past_laws.specs.Prepared.{asks_for}
use Rattle.past_laws.specs.Worlds.{render_of}
use Rattle.seq_model.specs.Histories.{History}
use Rattle.seq_model.specs.Life.{has}
use Rattle.seq_model.specs.Refusals.{phase_at}
use Rattle.seq_model.specs.State.{Done, scene_objects}
use Rattle.seq_model.specs.Steps.{after}
use Rattle.seq_model.specs.declared.calls.Call.{Call}
use Rattle.seq_model.specs.declared.calls.Call.TheVariants.{DiscardFrame, MapFrame, RenderFrame, UnmapFrame}
use Rattle.seq_model.specs.declared.calls.Entry.{Entry}
use Rattle.seq_model.specs.declared.calls.Entry.TheVariants.{Called}
use Rattle.seq_model.specs.declared.calls.Reply.{Reply}
use Rattle.seq_model.specs.declared.calls.Reply.TheVariants as reply
use Rattle.tile_claims.specs.Parts.{scene_of}
use Rattle.device_laws.proofs.FlownFacts.{joined}
use Rattle.device_laws.proofs.FrameFacts.{begun_runs}
use Rattle.device_laws.proofs.FramesStandFacts.{stands_without}
use Rattle.device_laws.proofs.FutureFacts.{discarded_runs}
use Rattle.device_laws.proofs.LentFacts.{fewer_lent, others_lent}
use Rattle.device_laws.proofs.RenderFacts.{FlightShows, PictureShows, render_begins, renders_stay}
use Rattle.device_laws.proofs.StandingFacts.{found}
use Rattle.device_laws.proofs.StandingSteps.{all_filtered, discard_stands, others_stand, render_stands}
use Rattle.device_laws.specs.FlightMoves.{moves_flights}
use Rattle.device_laws.specs.Flown.{Flown, runs_of, stopped_runs}
use Rattle.device_laws.specs.FramesStand.{FramesStand, LeavesBut, without_pictures}
use Rattle.device_laws.specs.Lent.{AreLent, moves_channels}
use Rattle.device_laws.specs.Renders.{Renders, ShowsRender}
use Rattle.device_laws.specs.Standing.{AreLeft, Standing, other_pictures, pictures_left}

-- a call that was answered lets another follow
pub called_open : (history : History) (actor : ℕ) (call : Call) (r : Reply) → IsOpen history → IsOpen (history ++ Called actor call r ∷ [])
called_open history actor call r open_ further next answer = follow_more history (Called actor call r) (Called further next answer) (open_ further next answer) refl

-- a call that moves no flight and no channel
pub call_kept : (history : History) (actor : ℕ) (call : Call) (r : Reply) (s : Future) (dead : List ℕ) → moves_flights (Called actor call r) ≡ false → moves_channels (Called actor call r) ≡ false →
    Flown history (runs_of s.flights) → LeavesBut history (Called actor call r) dead → FramesStand history s → FramesStand (history ++ Called actor call r ∷ []) (without_pictures s dead)
call_kept history actor call r s dead still quiet flown leaves stand =
    stands_without (history ++ Called actor call r ∷ []) s dead (called_open history actor call r stand.open_)
    (others_stand history (Called actor call r) (λ h. not (has h dead)) (runs_of s.flights) s.pictures still leaves stand.stands)
    (renders_stay history (Called actor call r ∷ []) s flown stand.stands stand.shows)
    (others_lent history (Called actor call r) (λ h. not (has h dead)) s.pictures quiet leaves stand.stands.shown stand.lent)

-- a call that was refused
pub refused_moves_nothing : (actor : ℕ) (call : Call) (refused : Refused) →
    (moves_flights (Called actor call (reply.Denied refused)) ≡ false) × (moves_channels (Called actor call (reply.Denied refused)) ≡ false)
refused_moves_nothing actor (RenderFrame f) refused = (refl, refl)
refused_moves_nothing actor (DiscardFrame f) refused = (refl, refl)
refused_moves_nothing actor (MapFrame f c) refused = (refl, refl)
refused_moves_nothing actor (UnmapFrame f number) refused = (refl, refl)
refused_moves_nothing actor call refused = (refl, refl)

-- the pictures of other frames
others_stay_lent : (history : History) (e : Entry) (f : ℕ) (left : ℕ → Bool) (pictures : List Finished) → moves_channels e ≡ false → AreLeft history e left →
    AllByRecursion (λ p. phase_at (after history) p.frame ≡ Done p.ticket) pictures → AreLent history pictures → AreLent (history ++ e ∷ []) (pictures_left left (other_pictures f pictures))
others_stay_lent history e f left pictures quiet leaves shown lent =
    others_lent history e left (other_pictures f pictures) quiet leaves
    (all_filtered (λ p. phase_at (after history) p.frame ≡ Done p.ticket) (λ p. phase_at (after history) p.frame ≡ Done p.ticket) (λ p. not (is_picture_of f p)) pictures (λ p is other. is) shown)
    (fewer_lent history (λ p. not (is_picture_of f p)) pictures lent)

others_show : (history : History) (f : ℕ) (pictures : List Finished) → AllByRecursion (PictureShows history) pictures → AllByRecursion (PictureShows history) (other_pictures f pictures)
others_show history f pictures shows = all_filtered (PictureShows history) (PictureShows history) (λ p. not (is_picture_of f p)) pictures (λ p is other. is) shows

-- a render
pub render_runs : (s : Future) (flight : Flying) (t : ℕ) → flight.ticket ≡ t → is_stopped flight ≡ false →
    runs_of (with_flight s flight).flights ≡ runs_of s.flights ++ record { ticket = t; frame = flight.frame; stopped = false } ∷ []
render_runs s flight t ticket going =
    (begun_runs s flight).0
    ∙ ap (λ t. runs_of s.flights ++ record { ticket = t; frame = flight.frame; stopped = is_stopped flight } ∷ []) ticket
    ∙ ap (λ b. runs_of s.flights ++ record { ticket = t; frame = flight.frame; stopped = b } ∷ []) going

pub render_kept : (history : History) (actor : ℕ) (s : Future) (flight : Flying) (dead : List ℕ) → flight.ticket ≡ length history + 1 → is_stopped flight ≡ false →
    scene_of (key_at flight) ≡ scene (scene_objects (after history).state) flight.frame → ((c : Channel) → is_asked flight.channels c ≡ asks_for (after history).state flight.frame c) →
    Flown history (runs_of s.flights) → LeavesBut history (render_of actor flight.frame) dead → FramesStand history s →
    FramesStand (history ++ render_of actor flight.frame ∷ []) (without_pictures (with_flight s flight) dead)
render_kept history actor s flight dead ticket going shows asked flown leaves stand =
    stands_without (history ++ render_of actor flight.frame ∷ []) (with_flight s flight) dead (called_open history actor (RenderFrame flight.frame) reply.Done stand.open_)
    (subst (λ rs. Standing (history ++ render_of actor flight.frame ∷ []) rs (pictures_left (λ h. not (has h dead)) (other_pictures flight.frame s.pictures))) (sym (render_runs s flight (length history + 1) ticket going))
    (render_stands history actor flight.frame (λ h. not (has h dead)) (runs_of s.flights) s.pictures leaves stand.stands))
    (record {
      flights =
          joined (FlightShows (history ++ render_of actor flight.frame ∷ [])) s.flights (flight ∷ []) stay.flights (
            subst (λ t. ShowsRender (history ++ render_of actor flight.frame ∷ []) t (key_at flight) flight.channels) (sym ticket)
                (render_begins history actor flight.frame (key_at flight) flight.channels shows asked),
            tt,
          );
      pictures = others_show (history ++ render_of actor flight.frame ∷ []) flight.frame s.pictures stay.pictures;
    })
    (others_stay_lent history (render_of actor flight.frame) flight.frame (λ h. not (has h dead)) s.pictures refl leaves stand.stands.shown stand.lent)
  where
    stay : Renders (history ++ render_of actor flight.frame ∷ []) s
    stay = renders_stay history (render_of actor flight.frame ∷ []) s flown stand.stands stand.shows

-- a discard
pub all_put : {X : Type 0} (P : X → Type 0) (p : X → Bool) (new : X) (xs : List X) → P new → AllByRecursion P xs → AllByRecursion P (replaced p new xs)
all_put P p new [] is all = tt
all_put {X} P p new (x ∷ xs) is all = by (p x) (all_put P p new xs is all.1)
  where
    by : (b : Bool) → AllByRecursion P (replaced p new xs) → AllByRecursion P (cond b (new ∷ xs) (x ∷ replaced p new xs))
    by true rest = (is, all.1)
    by false rest = (all.0, rest)

discarded_show : (history : History) (f : ℕ) (old new : Future) → IsDiscarded f old new (flight_of old f) → AllByRecursion (FlightShows history) old.flights → AllByRecursion (FlightShows history) new.flights
discarded_show history f old new discarded shows = by (flight_of old f) refl discarded
  where
    by : (x : Option Flying) → flight_of old f ≡ x → IsDiscarded f old new x → AllByRecursion (FlightShows history) new.flights
    by None none is = subst (λ (s : Future). AllByRecursion (FlightShows history) s.flights) (sym is) shows
    by (Some g) some is =
        subst (λ (s : Future). AllByRecursion (FlightShows history) s.flights) (sym is.2)
        (all_put (FlightShows history) (is_flight_of f) is.0 old.flights
        (subst (FlightShows history) (sym is.1.now) (found (FlightShows history) (is_flight_of f) old.flights g shows some).0) shows)

pub discard_kept : (history : History) (actor f : ℕ) (old new : Future) (dead : List ℕ) → IsKept old → IsDiscarded f old new (flight_of old f) → Flown history (runs_of old.flights) →
    LeavesBut history (Called actor (DiscardFrame f) reply.Done) dead → FramesStand history old → FramesStand (history ++ Called actor (DiscardFrame f) reply.Done ∷ []) (without_pictures new dead)
discard_kept history actor f old new dead kept discarded flown leaves stand =
    stands_without (history ++ Called actor (DiscardFrame f) reply.Done ∷ []) new dead (called_open history actor (DiscardFrame f) reply.Done stand.open_)
    (subst (λ rs. Standing (history ++ Called actor (DiscardFrame f) reply.Done ∷ []) rs (pictures_left (λ h. not (has h dead)) new.pictures)) (sym parts.0)
    (subst (λ ps. Standing (history ++ Called actor (DiscardFrame f) reply.Done ∷ []) (stopped_runs f (runs_of old.flights)) (pictures_left (λ h. not (has h dead)) ps)) (sym parts.1)
    (discard_stands history actor f (λ h. not (has h dead)) (runs_of old.flights) old.pictures leaves flown stand.stands)))
    (record {
      flights = discarded_show (history ++ Called actor (DiscardFrame f) reply.Done ∷ []) f old new discarded stay.flights;
      pictures =
          subst (AllByRecursion (PictureShows (history ++ Called actor (DiscardFrame f) reply.Done ∷ []))) (sym parts.1)
          (others_show (history ++ Called actor (DiscardFrame f) reply.Done ∷ []) f old.pictures stay.pictures);
    })
    (subst (λ ps. AreLent (history ++ Called actor (DiscardFrame f) reply.Done ∷ []) (pictures_left (λ h. not (has h dead)) ps)) (sym parts.1)
    (others_stay_lent history (Called actor (DiscardFrame f) reply.Done) f (λ h. not (has h dead)) old.pictures refl leaves stand.stands.shown stand.lent))
  where
    parts : (runs_of new.flights ≡ stopped_runs f (runs_of old.flights)) × (new.pictures ≡ other_pictures f old.pictures)
    parts = discarded_runs f old new kept discarded

    stay : Renders (history ++ Called actor (DiscardFrame f) reply.Done ∷ []) old
    stay = renders_stay history (Called actor (DiscardFrame f) reply.Done ∷ []) old flown stand.stands stand.shows
