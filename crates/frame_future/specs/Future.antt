-- The frames of a device that are in flight or done, as contracts see them.
use Rattle.std.specs.Prelude.{⊤, ◌≡◌, ◌==◌, ◌↔◌, ℕ, ◌+◌, ◌^◌, ◌≤◌, ◌<◌, ◌⊎◌, Bool, true, false, List, [], ◌∷◌, ◌++◌, Option, Some, None, Result, Ok, Err, All, map, min, not, ◌&&◌, if◌then◌else◌, IfOk, IfSome}
use Rattle.std.specs.List.{AllByRecursion, count_by, filter, find, list_any, slice_set}
use Rattle.std.specs.Option.{is_some, option_map_or}
use Rattle.dev_types.specs.declared.handles.Channel.{Channel}
use Rattle.dev_types.specs.declared.handles.NoMemory.{NoMemory as NoRoom}
use Rattle.dev_types.specs.declared.refusals.Refused.{Refused}
use Rattle.dev_types.specs.declared.refusals.Refused.TheVariants.{InFlight, NoPicture, ChannelMapped, NoChannel}
use Rattle.tile_claims.specs.declared.key.Key.{Key}
use Rattle.tile_claims.specs.declared.seats.Claims.{Claims}
use Rattle.tile_claims.specs.declared.seats.Seat.{Seat}
use Rattle.tile_claims.specs.Parts.{tiles_of}
use Rattle.tile_claims.specs.Seats.{frame_of, view, IsSeatOf}
use Rattle.tile_claims.specs.Views.{beside, claimed, IsAlone}
use Rattle.frame_future.specs.Channels.{is_asked, loan_of}
use Rattle.dev_types.specs.Channels.{number_of_channel}
use Rattle.frame_future.specs.Flights.{Flying, key_at, is_stopped, awaited, asked_at, handed_at, stopped_at, IsSound}
use Rattle.frame_future.specs.Mapped.{Mapped}
use Rattle.frame_future.specs.Pixels.{picture_of}
use Rattle.frame_future.specs.declared.phase.Phase.{Phase}
use Rattle.frame_future.specs.declared.phase.Phase.TheVariants as phase

-- The picture of a frame that is done: the ticket of its flight, its frame, the key whose picture it is, the channels that were asked for, and
-- the number of the loan of each channel that is mapped
pub record Finished : Type 0 where
  pub ticket : ℕ
  pub frame : ℕ
  pub key : Key
  pub channels : List Bool
  pub loans : List (Option ℕ)

-- the flights by rising ticket, those that were stopped among them; and the pictures
pub record Future : Type 0 where
  pub flights : List Flying
  pub pictures : List Finished

-- no frame is in flight or done
abbrev pub nothing : Future
nothing = record { flights = []; pictures = [] }

-- what a flight leaves, all of whose tiles are given
abbrev pub finished : Flying → Finished
finished f = record { ticket = f.ticket; frame = f.frame; key = key_at f; channels = f.channels; loans = None ∷ None ∷ None ∷ None ∷ [] }

-- the flight is one of the frame that was not stopped; the picture is the frame's; the flight has the ticket
abbrev pub is_flight_of : ℕ → Flying → Bool
is_flight_of frame f = f.frame == frame && not (is_stopped f)

abbrev pub is_picture_of : ℕ → Finished → Bool
is_picture_of frame p = p.frame == frame

abbrev pub has_ticket : ℕ → Flying → Bool
has_ticket ticket f = f.ticket == ticket

-- the frame's flight; its picture; the flight with a ticket
abbrev pub flight_of : Future → ℕ → Option Flying
flight_of s frame = find (is_flight_of frame) s.flights

abbrev pub shown_by : Future → ℕ → Option Finished
shown_by s frame = find (is_picture_of frame) s.pictures

abbrev pub flight_at : Future → ℕ → Option Flying
flight_at s ticket = find (has_ticket ticket) s.flights

-- whether a frame is in flight or done, with the ticket
abbrev pub phase_by : Option Flying → Option Finished → Phase
phase_by (Some f) p = phase.Flight f.ticket
phase_by None (Some p) = phase.Done p.ticket
phase_by None None = phase.Empty

abbrev pub phase_of : Future → ℕ → Phase
phase_of s frame = phase_by (flight_of s frame) (shown_by s frame)

-- whether some channel of a frame is mapped
abbrev pub is_lent : Finished → Bool
is_lent p = list_any is_some p.loans

abbrev pub is_mapped : Future → ℕ → Bool
is_mapped s frame = option_map_or is_lent (shown_by s frame) false

-- which channels a frame asked for when its picture was rendered
abbrev pub asked_by : Future → ℕ → List Bool
asked_by s frame = option_map_or (λ p. p.channels) (shown_by s frame) (false ∷ false ∷ false ∷ false ∷ [])

-- the list with another element in the place of the first that passes, and without it
abbrev pub replaced : {X : Type 0} → (X → Bool) → X → List X → List X
replaced p new [] = []
replaced p new (x ∷ xs) = if p x then new ∷ xs else x ∷ replaced p new xs

-- the future with another flight in the place of the frame's, or of the one with the ticket
abbrev pub with_flight_of : Future → ℕ → Flying → Future
with_flight_of s frame f = record s { flights = replaced (is_flight_of frame) f s.flights }

abbrev pub with_flight_at : Future → ℕ → Flying → Future
with_flight_at s ticket f = record s { flights = replaced (has_ticket ticket) f s.flights }

-- the future with another picture in the place of the frame's, and without it
abbrev pub with_picture : Future → Finished → Future
with_picture s p = record s { pictures = replaced (is_picture_of p.frame) p s.pictures }

abbrev pub without_picture : Future → ℕ → Future
without_picture s frame = record s { pictures = filter (λ p. not (is_picture_of frame p)) s.pictures }

-- the future with a flight that begins: an older picture of its frame is gone
abbrev pub with_flight : Future → Flying → Future
with_flight s f = record { flights = s.flights ++ f ∷ []; pictures = (without_picture s f.frame).pictures }

-- each number is below all that stand after it
abbrev pub Rising : List ℕ → Type 0
Rising [] = ⊤
Rising (t ∷ ts) = AllByRecursion (λ u. t < u) ts × Rising ts

-- What always holds: the tickets of the flights rise, and each frame has one flight that was not stopped, or one picture, or neither
pub record IsKept (s : Future) : Type 0 where
  pub rising : Rising (map (λ f. f.ticket) s.flights)
  pub single : (frame : ℕ) → count_by (is_flight_of frame) s.flights + count_by (is_picture_of frame) s.pictures ≤ 1

-- all earlier tickets are below
pub record IsLater (s : Future) (ticket : ℕ) : Type 0 where
  pub flights : AllByRecursion (λ t. t < ticket) (map (λ f. f.ticket) s.flights)
  pub pictures : AllByRecursion (λ t. t < ticket) (map (λ p. p.ticket) s.pictures)

-- no claims are lent
abbrev pub AreHome : Future → Type 0
AreHome s = All (λ f. f.home ≡ true) s.flights

-- The flight was stopped: as many tiles were claimed as it now waits for, no fewer than were seen claimed or given; where only its first seat
-- worked on it, as many as that seat claimed
pub record IsStop (f g : Flying) : Type 0 where
  pub claims : ℕ
  pub now : g ≡ stopped_at claims f
  pub within : claims ≤ tiles_of (key_at f)
  pub seen : min f.view.claims.last (tiles_of (key_at f)) ≤ claims
  pub gives : f.view.gives.last ≤ claims
  pub alone : IsAlone f.view → claims ≡ claimed f.view
  pub sound : IsSound f

-- a look at the count of claimed tiles of a flight read so many, at most all; where only its first seat worked on it, as many as that seat claimed
pub record IsCount (f g : Flying) (result : ℕ) : Type 0 where
  pub read : ℕ
  pub now : g ≡ asked_at read f
  pub value : result ≡ min read (tiles_of (key_at f))
  pub rises : f.view.claims.last ≤ read
  pub alone : IsAlone f.view → f.view.stop ≡ None → result ≡ claimed f.view

-- the frame was discarded: its flight was stopped, or its picture is gone
abbrev pub IsDiscarded : ℕ → Future → Future → Option Flying → Type 0
IsDiscarded frame old new (Some f) = (g : Flying) × IsStop f g × (new ≡ with_flight_of old frame g)
IsDiscarded frame old new None = new ≡ without_picture old frame

-- what becomes of a flight that is asked for a seat
abbrev pub asked_for : Result (Option (Claims × Seat)) NoRoom → ℕ → Flying → Flying
asked_for (Ok (Some out)) read f = handed_at read f
asked_for (Ok None) read f = asked_at read f
asked_for (Err none) read f = asked_at read f

-- A flight was asked for another seat: a look read so many tiles as claimed. There was none exactly where it read all, or 2^20 were handed out
pub record IsHandout (f g : Flying) (result : Result (Option (Claims × Seat)) NoRoom) : Type 0 where
  pub read : ℕ
  pub rises : f.view.claims.last ≤ read
  pub alone : IsAlone f.view → f.view.stop ≡ None → min read (tiles_of (key_at f)) ≡ claimed f.view
  pub now : g ≡ asked_for result read f
  pub spent : (result ≡ Ok None) ↔ ((tiles_of (key_at f) ≤ read) ⊎ (f.view.splits ≡ 2 ^ 20))
  pub out : IfOk result (λ o. IfSome o (λ t. (frame_of t.0 ≡ f.tiles) × IsSeatOf t.0 t.1 × (view t.1 ≡ beside f.view)))

-- the channel of the picture is lent under the number; its loan came back
abbrev pub lent_as : Finished → Channel → ℕ → Finished
lent_as p c number = record p { loans = slice_set p.loans (number_of_channel c) (Some number) }

abbrev pub given_back : Finished → Channel → Finished
given_back p c = record p { loans = slice_set p.loans (number_of_channel c) None }

-- the loan of a channel of a frame's picture ended, whoever holds it; a frame that is not done stays as it is
abbrev pub loan_ended : Future → ℕ → Channel → Future
loan_ended s frame c = option_map_or (λ p. with_picture s (given_back p c)) (shown_by s frame) s

-- what is lent of it
abbrev pub loan_from : Finished → Channel → ℕ → Mapped
loan_from p c number = record { frame = p.frame; channel = c; number = number; width = p.key.w; height = p.key.h; bytes = picture_of p.key c }

-- why a channel of the frame is not lent, if it is not for want of memory
abbrev pub refusal_of_picture : Finished → Channel → Option Refused
refusal_of_picture p c = if is_some (loan_of p.loans c) then Some ChannelMapped else if is_asked p.channels c then None else Some NoChannel

abbrev pub refusal_by : Option Flying → Option Finished → Channel → Option Refused
refusal_by (Some f) p c = Some (InFlight f.looked (awaited f))
refusal_by None None c = Some NoPicture
refusal_by None (Some p) c = refusal_of_picture p c

abbrev pub refusal_of_map : Future → ℕ → Channel → Option Refused
refusal_of_map s frame c = refusal_by (flight_of s frame) (shown_by s frame) c

-- the loan of the mapped channel is out
abbrev pub IsOut : Future → Mapped → Type 0
IsOut s m = (p : Finished) × (shown_by s m.frame ≡ Some p) × (loan_of p.loans m.channel ≡ Some m.number)

-- the flight's frame is done, and shows what the flight leaves
pub record IsDone (s : Future) (f : Flying) : Type 0 where
  pub phase : phase_of s f.frame ≡ phase.Done f.ticket
  pub picture : shown_by s f.frame ≡ Some (finished f)
