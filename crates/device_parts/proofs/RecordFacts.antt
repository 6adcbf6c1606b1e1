-- What is recorded of frames beside the objects.
use Rattle.std.proofs.Common.{◌≡◌, ◌==◌, ◌∙◌, ℕ, Bool, List, [], ◌∷◌, Option, Some, None, refl, sym, ap, subst}
use Rattle.std.specs.Prelude.{IfSome, IsSome, slice_index_or, false}
use Rattle.fx_math.specs.declared.scene.Scene.{Scene}
use Rattle.picture_model.specs.Tiles.{tile_count}
use Rattle.std.specs.List.{slice_get}
use Rattle.std.specs.Option.{is_some, option_map_or, unwrap_or}
use Rattle.std.proofs.lemmas.Option.{unwrap_or-slice_get}
use Rattle.dev_types.specs.Channels.{number_of_channel}
use Rattle.dev_types.specs.declared.handles.Channel.{Channel}
use Rattle.frame_future.proofs.Finds.{not_second, phase_flight}
use Rattle.frame_future.specs.Channels.{is_asked}
use Rattle.frame_future.specs.Flights.{Flying, awaited, is_stopped, key_at}
use Rattle.frame_future.specs.Future.{Finished, Future, IsKept, asked_by, flight_at, flight_of, is_flight_of, is_picture_of, phase_by, phase_of, shown_by}
use Rattle.frame_future.specs.declared.phase.Phase.{Phase}
use Rattle.frame_future.specs.declared.phase.Phase.TheVariants as phase
use Rattle.seq_model.specs.Pictures.{has_channel, tiles_at}
use Rattle.seq_model.specs.Refusals.{phase_at}
use Rattle.seq_model.specs.State.{Done, Flight}
use Rattle.seq_model.specs.Steps.{after}
use Rattle.tile_claims.specs.Parts.{tiles_of}
use Rattle.device_laws.specs.Renders.{ShowsRender}
use Rattle.device_laws.specs.Standing.{phase_as}
use Rattle.device_laws.proofs.StandingFacts.{found, phases_agree}
use Rattle.device_parts.specs.AllParts.{AreParts, Inside}
use Rattle.device_parts.specs.Standing.{IsStanding}
use Rattle.device_parts.proofs.AboardFacts.{flight_found}

abbrev ticket_of_phase : Phase → ℕ
ticket_of_phase (phase.Flight t) = t
ticket_of_phase p = 0

-- a frame that is in flight by the history has its flight
pub flies_as : (i : Inside) (h t : ℕ) → AreParts i → IsStanding i → phase_at (after i.history) h ≡ Flight t → (f : Flying) × (flight_of i.flights.future h ≡ Some f) × (f.ticket ≡ t)
flies_as i h t parts stands phase = by (flight_of i.flights.future h) (shown_by i.flights.future h) refl refl (sym (phases_agree i.history i.flights.future parts.flown stands.frames.stands h) ∙ phase)
  where
    by : (o : Option Flying) (p : Option Finished) → flight_of i.flights.future h ≡ o → shown_by i.flights.future h ≡ p → phase_as (phase_by o p) ≡ Flight t
        → (f : Flying) × (flight_of i.flights.future h ≡ Some f) × (f.ticket ≡ t)
    by (Some f) p some shown is = (f, some, (let same : f.ticket ≡ t = cc in same))
    by None (Some p) none some is = absurd cc
    by None None none shown is = absurd cc

index_is : (ys : List Bool) (n : ℕ) → slice_index_or ys n false ≡ unwrap_or (slice_get ys n) false
index_is ys n = sym (unwrap_or-slice_get ys n false)

asked_same : (xs ys : List Bool) (c : Channel) → xs ≡ ys → slice_index_or xs (number_of_channel c) false ≡ is_asked ys c
asked_same xs ys c same = ap (λ zs. slice_index_or zs (number_of_channel c) false) same ∙ index_is ys (number_of_channel c)

-- and one that is done its picture, with the channels that it asked for
pub asks_as : (i : Inside) (h t : ℕ) → AreParts i → IsStanding i → phase_at (after i.history) h ≡ Done t → (c : Channel) → slice_index_or (asked_by i.flights.future h) (number_of_channel c) false ≡ has_channel i.history t c
asks_as i h t parts stands phase c = by (flight_of i.flights.future h) (shown_by i.flights.future h) refl refl (sym (phases_agree i.history i.flights.future parts.flown stands.frames.stands h) ∙ phase)
  where
    by : (o : Option Flying) (p : Option Finished) → flight_of i.flights.future h ≡ o → shown_by i.flights.future h ≡ p → phase_as (phase_by o p) ≡ Done t
        → slice_index_or (asked_by i.flights.future h) (number_of_channel c) false ≡ has_channel i.history t c
    by (Some f) p some shown is = absurd cc
    by None (Some p) none some is =
        let same : p.ticket ≡ t = cc in
        let shows = (found (λ (p : Finished). ShowsRender i.history p.ticket p.key p.channels) (is_picture_of h) i.flights.future.pictures p stands.frames.shows.pictures some).0 in
        asked_same (asked_by i.flights.future h) p.channels c (ap (λ o. option_map_or (λ (p : Finished). p.channels) o (false ∷ false ∷ false ∷ false ∷ [])) some)
        ∙ shows.asked c ∙ ap (λ t. has_channel i.history t c) same
    by None None none shown is = absurd cc

-- a frame's flight waits for the tiles of its render
going_waits : (o : Option ℕ) (n : ℕ) → is_some o ≡ false → unwrap_or o n ≡ n
going_waits None n going = refl
going_waits (Some m) n going = absurd cc

pub flight_waits : (i : Inside) (frame : ℕ) (f : Flying) → IsStanding i → flight_of i.flights.future frame ≡ Some f → awaited f ≡ tiles_at i.history f.ticket
unfolding tiles_at
flight_waits i frame f stands is =
    let here = found (λ (g : Flying). ShowsRender i.history g.ticket (key_at g) g.channels) (is_flight_of frame) i.flights.future.flights f stands.frames.shows.flights is in
    let going : is_stopped f ≡ false = not_second (f.frame == frame) (is_stopped f) here.1 in
    going_waits f.view.stop (tiles_of (key_at f)) going ∙ ap (λ (s : Scene). tile_count s.width s.height) here.0.scene

-- it is found under the ticket that its phase has, with what its last look read, and what it waits for
pub look_here : (i : Inside) (frames : Future) (frame ticket : ℕ) (look : ℕ × ℕ) → IsStanding i → frames ≡ i.flights.future → IsKept frames → phase_of frames frame ≡ phase.Flight ticket
    → IfSome (flight_at frames ticket) (λ f. look ≡ (f.looked, awaited f)) → IfSome (flight_of i.flights.future frame) (λ f. look.1 ≡ tiles_at i.history f.ticket)
look_here i frames frame ticket look stands same kept phase_is told = by (flight_of i.flights.future frame) refl
  where
    by : (o : Option Flying) → flight_of i.flights.future frame ≡ o → IfSome o (λ f. look.1 ≡ tiles_at i.history f.ticket)
    by None none = tt
    by (Some f) some =
        let there : flight_of frames frame ≡ Some f = ap (λ (s : Future). flight_of s frame) same ∙ some in
        let ticket_is : f.ticket ≡ ticket = ap ticket_of_phase (sym (phase_flight frames frame f there) ∙ phase_is) in
        let found_there : flight_at frames ticket ≡ Some f = subst (λ t. flight_at frames t ≡ Some f) ticket_is (flight_found (is_flight_of frame) f frames.flights kept.rising there) in
        let says : look ≡ (f.looked, awaited f) = subst (λ o. IfSome o (λ (g : Flying). look ≡ (g.looked, awaited g))) found_there told in
        ap (λ (l : ℕ × ℕ). l.1) says ∙ flight_waits i frame f stands some

pub flies_under : (frames : Future) (frame ticket : ℕ) → IsKept frames → IsSome (flight_of frames frame) → phase_of frames frame ≡ phase.Flight ticket → IsSome (flight_at frames ticket)
flies_under frames frame ticket kept flies phase_is = by (flight_of frames frame) refl flies
  where
    by : (o : Option Flying) → flight_of frames frame ≡ o → IsSome o → IsSome (flight_at frames ticket)
    by None none some = absurd cc
    by (Some f) some is =
        let ticket_is : f.ticket ≡ ticket = ap ticket_of_phase (sym (phase_flight frames frame f some) ∙ phase_is) in
        ap is_some (subst (λ t. flight_at frames t ≡ Some f) ticket_is (flight_found (is_flight_of frame) f frames.flights kept.rising some))

-- a frame that has a flight is in flight
pub flies_not : (frames : Future) (frame : ℕ) → IsSome (flight_of frames frame) → ((t : ℕ) → phase_of frames frame ≡ phase.Flight t → ⊥) → ⊥
flies_not frames frame flies never = by (flight_of frames frame) refl flies
  where
    by : (o : Option Flying) → flight_of frames frame ≡ o → IsSome o → ⊥
    by None none some = absurd cc
    by (Some f) some is = never f.ticket (phase_flight frames frame f some)
