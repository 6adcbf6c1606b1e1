-- The renders that flights and pictures show, as entries are added to a history and flights end.
use Rattle.std.proofs.Common.{ℕ, ◌+◌, ◌≡◌, ◌≤◌, ◌∙◌, Bool, true, false, List, [], ◌∷◌, ◌++◌, Option, Some, None, length, refl, sym, ap, subst, arith}
use Rattle.std.specs.Prelude.{cond}
use Rattle.std.specs.List.{AllByRecursion}
use Rattle.std.specs.Option.{is_some, option_and_then, unwrap_or}
use Rattle.dev_types.specs.Words.{name_of_channel}
use Rattle.dev_types.specs.declared.handles.Channel.{Channel}
use Rattle.frame_future.specs.Channels.{is_asked}
use Rattle.frame_future.specs.Flights.{Flying, is_stopped, key_at, looked_at}
use Rattle.frame_future.specs.Future.{Finished, Future, finished}
use Rattle.frame_future.specs.Reads.{ended_by, is_end, left_by, pictures_of}
use Rattle.kind_tables.specs.SceneObjects.{value_named}
use Rattle.kind_tables.specs.Scenes.{scene}
use Rattle.past_laws.specs.Prepared.{asks_for}
use Rattle.past_laws.specs.Worlds.{render_of}
use Rattle.seq_model.proofs.Afters.{frame_early, frame_last, frame_within, state_early, state_next}
use Rattle.seq_model.proofs.Flights.{own_tickets}
use Rattle.seq_model.specs.Histories.{History, frame_at}
use Rattle.seq_model.specs.Pictures.{has_channel, scene_at, state_before}
use Rattle.seq_model.specs.Refusals.{phase_at}
use Rattle.seq_model.specs.State.{Object, Empty, Done, object_at, scene_objects}
use Rattle.seq_model.specs.Steps.{after}
use Rattle.seq_model.specs.Tickets.{ticket_of}
use Rattle.seq_model.specs.declared.calls.Entry.{Entry}
use Rattle.std.specs.Option.{option_map_or}
use Rattle.tile_claims.specs.Parts.{scene_of}
use Rattle.tile_claims.specs.declared.key.Key.{Key}
use Rattle.device_laws.proofs.FlownFacts.{joined, weaker}
use Rattle.device_laws.proofs.StandingFacts.{both, flights_have_runs}
use Rattle.device_laws.specs.Flown.{Flown, IsRun, run_of, runs_of}
use Rattle.device_laws.specs.Renders.{Renders, ShowsRender}
use Rattle.device_laws.specs.Standing.{Standing}

-- what a longer history has at an earlier place
pub scene_early : (history further : History) (t : ℕ) → t ≤ length history → scene_at (history ++ further) t ≡ scene_at history t
unfolding scene_at
scene_early history further t less =
    ap (λ s. scene (scene_objects s) (unwrap_or (frame_at (history ++ further) t) 0)) (state_early history further t (omega (arith, less)))
    ∙ ap (λ x. scene (scene_objects (state_before history t)) (unwrap_or x 0)) (frame_early history further t less)

channel_early : (history further : History) (t : ℕ) (c : Channel) → t ≤ length history → has_channel (history ++ further) t c ≡ has_channel history t c
unfolding has_channel
channel_early history further t c less =
    ap (λ s. is_some (option_and_then (λ (o : Object). value_named (name_of_channel c) o.committed) (option_and_then (object_at s) (frame_at (history ++ further) t)))) (state_early history further t (omega (arith, less)))
    ∙ ap (λ x. is_some (option_and_then (λ (o : Object). value_named (name_of_channel c) o.committed) (option_and_then (object_at (state_before history t)) x))) (frame_early history further t less)

pub render_stays : (history further : History) (t : ℕ) (key : Key) (channels : List Bool) → t ≤ length history → ShowsRender history t key channels → ShowsRender (history ++ further) t key channels
render_stays history further t key channels less shows = record {
  scene = shows.scene ∙ sym (scene_early history further t less);
  asked = λ c. shows.asked c ∙ sym (channel_early history further t c less);
}

-- what it has at its last one
state_last : (history : History) (e : Entry) → state_before (history ++ e ∷ []) (length history + 1) ≡ (after history).state
state_last history e = state_early history (e ∷ []) (length history + 1) (omega arith) ∙ state_next history

pub render_begins : (history : History) (actor f : ℕ) (key : Key) (channels : List Bool) → scene_of key ≡ scene (scene_objects (after history).state) f →
    ((c : Channel) → is_asked channels c ≡ asks_for (after history).state f c) → ShowsRender (history ++ render_of actor f ∷ []) (length history + 1) key channels
unfolding scene_at has_channel
render_begins history actor f key channels shows asked = record {
  scene =
      shows
      ∙ sym (ap (λ s. scene (scene_objects s) (unwrap_or (frame_at (history ++ render_of actor f ∷ []) (length history + 1)) 0)) (state_last history (render_of actor f))
      ∙ ap (λ x. scene (scene_objects (after history).state) (unwrap_or x 0)) (frame_last history (render_of actor f)));
  asked = λ c.
      asked c
      ∙ sym (ap (λ s. is_some (option_and_then (λ (o : Object). value_named (name_of_channel c) o.committed) (option_and_then (object_at s) (frame_at (history ++ render_of actor f ∷ []) (length history + 1)))))
      (state_last history (render_of actor f))
      ∙ ap (λ x. is_some (option_and_then (λ (o : Object). value_named (name_of_channel c) o.committed) (option_and_then (object_at (after history).state) x))) (frame_last history (render_of actor f)));
}

-- tickets of pictures are places
pub done_is_early : (history : History) (h t : ℕ) → phase_at (after history) h ≡ Done t → t ≤ length history
done_is_early history h t = by (object_at (after history).state h) refl
  where
    by : (x : Option Object) → object_at (after history).state h ≡ x → option_map_or (λ (o : Object). o.phase) x Empty ≡ Done t → t ≤ length history
    by None none is = absurd cc
    by (Some o) some is = (frame_within history t h (own_tickets history h t o some (ap ticket_of is))).1

pub renders_stay : (history further : History) (future : Future) → Flown history (runs_of future.flights) → Standing history (runs_of future.flights) future.pictures → Renders history future →
    Renders (history ++ further) future
renders_stay history further future flown standing renders = record {
  flights =
      weaker (λ f. IsRun history (run_of f) × ShowsRender history f.ticket (key_at f) f.channels) (λ f. ShowsRender (history ++ further) f.ticket (key_at f) f.channels) future.flights
      (λ f is. render_stays history further f.ticket (key_at f) f.channels (frame_within history f.ticket f.frame is.0.frame).1 is.1)
      (both (λ f. IsRun history (run_of f)) (λ f. ShowsRender history f.ticket (key_at f) f.channels) future.flights (flights_have_runs (IsRun history) future.flights flown.each) renders.flights);
  pictures =
      weaker (λ p. (phase_at (after history) p.frame ≡ Done p.ticket) × ShowsRender history p.ticket p.key p.channels) (λ p. ShowsRender (history ++ further) p.ticket p.key p.channels) future.pictures
      (λ p is. render_stays history further p.ticket p.key p.channels (done_is_early history p.frame p.ticket is.0) is.1)
      (both (λ p. phase_at (after history) p.frame ≡ Done p.ticket) (λ p. ShowsRender history p.ticket p.key p.channels) future.pictures standing.shown renders.pictures);
}

-- what a sweep leaves and what it ends
abbrev pub FlightShows : History → Flying → Type 0
FlightShows history f = ShowsRender history f.ticket (key_at f) f.channels

abbrev pub PictureShows : History → Finished → Type 0
PictureShows history p = ShowsRender history p.ticket p.key p.channels

pub left_show : (history : History) (fs : List Flying) (reads : List ℕ) → AllByRecursion (FlightShows history) fs →
    AllByRecursion (FlightShows history) (left_by fs reads) × AllByRecursion (PictureShows history) (pictures_of (ended_by fs reads))
left_show history [] reads all = (tt, tt)
left_show history (f ∷ fs) [] all = (tt, tt)
left_show history (f ∷ fs) (r ∷ reads) all = by (is_end f r) (left_show history fs reads all.1)
  where
    ended : (b : Bool) → is_stopped (looked_at r f) ≡ b → AllByRecursion (PictureShows history) (pictures_of (ended_by fs reads)) →
        AllByRecursion (PictureShows history) (cond b (pictures_of (ended_by fs reads)) (finished (looked_at r f) ∷ pictures_of (ended_by fs reads)))
    ended true is rest = rest
    ended false is rest = (all.0, rest)

    by : (b : Bool) → AllByRecursion (FlightShows history) (left_by fs reads) × AllByRecursion (PictureShows history) (pictures_of (ended_by fs reads)) →
        AllByRecursion (FlightShows history) (cond b (left_by fs reads) (looked_at r f ∷ left_by fs reads))
        × AllByRecursion (PictureShows history) (pictures_of (cond b (looked_at r f ∷ ended_by fs reads) (ended_by fs reads)))
    by true rest = (rest.0, ended (is_stopped (looked_at r f)) refl rest.1)
    by false rest = ((all.0, rest.0), rest.1)

pub sweep_shows : (history : History) (old new : Future) (reads : List ℕ) → new.flights ≡ left_by old.flights reads → new.pictures ≡ old.pictures ++ pictures_of (ended_by old.flights reads) →
    Renders history old → Renders history new
sweep_shows history old new reads flights pictures renders =
    let all : AllByRecursion (FlightShows history) (left_by old.flights reads) × AllByRecursion (PictureShows history) (pictures_of (ended_by old.flights reads)) = left_show history old.flights reads renders.flights in
    record {
      flights = subst (AllByRecursion (FlightShows history)) (sym flights) all.0;
      pictures =
          subst (AllByRecursion (PictureShows history)) (sym pictures)
          (joined (PictureShows history) old.pictures (pictures_of (ended_by old.flights reads)) renders.pictures all.1);
    }
