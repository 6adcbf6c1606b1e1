-- How many flights there are after a call.
use Rattle.std.proofs.Common.{◌≡◌, ◌∙◌, inl, inr, ℕ, suc, ◌+◌, ◌≤◌, Bool, false, List, [], ◌∷◌, Option, None, Some, ap, arith, cond, length, length-append, refl}
use Rattle.std.specs.Option.{option_map_or}
use Rattle.dev_types.specs.declared.handles.Channel.{Channel}
use Rattle.flight_books.specs.Kept.{Books}
use Rattle.frame_future.specs.Flights.{Flying, begun}
use Rattle.frame_future.specs.Future.{Finished, Future, IsDiscarded, flight_of, given_back, is_flight_of, loan_ended, replaced, shown_by, with_picture}
use Rattle.frame_future.proofs.Lists.{either}
use Rattle.frame_future.specs.Mapped.{Mapped}
use Rattle.object_steps.specs.Applying.{tells_of_flights}
use Rattle.seq_model.specs.Contents.{entered}
use Rattle.seq_model.specs.Steps.{Past}
use Rattle.seq_model.specs.declared.calls.Call.{Call}
use Rattle.seq_model.specs.declared.calls.Call.TheVariants.{MapFrame, RenderFrame, UnmapArray, UnmapParameterArray}
use Rattle.seq_model.specs.declared.calls.Reply.{Reply}
use Rattle.seq_model.specs.declared.calls.Reply.TheVariants as reply
use Rattle.device_laws.proofs.FramesStandFacts.{fewer_kept}
use Rattle.device_laws.specs.FramesStand.{without_pictures}
use Rattle.device_parts.specs.AllParts.{Inside}
use Rattle.device_parts.specs.Begins.{HasBegun, with_takeoff}
use Rattle.device_parts.specs.Calls.{AreMoved, move_of}
use Rattle.device_parts.specs.Makes.{IsMoved, begun_by}
use Rattle.device_parts.specs.Maps.{HasMapped}
use Rattle.device_parts.specs.declared.calls.Move.{Move}
use Rattle.device_parts.specs.declared.calls.Move.TheVariants as move
use Rattle.device_parts.specs.declared.loads.Load.{Load}

-- how many flights there are
abbrev pub flown : Inside → ℕ
flown i = length i.flights.future.flights

none_more : (m n : ℕ) → m ≡ n → m ≡ n + 0
none_more m n is = omega (arith, is)

pub no_less : (a b : ℕ) → a ≤ b → a + 0 ≤ b
no_less a b less = omega (arith, less)

replaced_length : {X : Type 0} (p : X → Bool) (y : X) (xs : List X) → length (replaced p y xs) ≡ length xs
replaced_length p y [] = refl
replaced_length p y (x ∷ xs) = elim (either (p x)) [
  | inl hit ↦ ap (λ b. length (cond b (y ∷ xs) (x ∷ replaced p y xs))) hit
  | inr miss ↦ ap (λ b. length (cond b (y ∷ xs) (x ∷ replaced p y xs))) miss ∙ ap suc (replaced_length p y xs)
]

-- a discard stops a flight, which stays, or drops a picture
discarded_count : (h : ℕ) (old new : Future) (found : Option Flying) → IsDiscarded h old new found → length new.flights ≡ length old.flights
discarded_count h old new (Some f) stop = ap (λ (s : Future). length s.flights) stop.2 ∙ replaced_length (is_flight_of h) stop.0 old.flights
discarded_count h old new None gone = ap (λ (s : Future). length s.flights) gone

unmapped_count : (s : Future) (c : Channel) (found : Option Finished) → (option_map_or (λ p. with_picture s (given_back p c)) found s).flights ≡ s.flights
unmapped_count s c (Some p) = refl
unmapped_count s c None = refl

stayed_count : (books : Books Load) (s : Future) (dead : List ℕ) (new : Books Load)
    → new ≡ record books { future = without_pictures s dead } → length new.future.flights ≡ length s.flights
stayed_count books s dead new is = ap (λ (b : Books Load). length b.future.flights) is ∙ ap length (fewer_kept s dead).0

moved_count : (m : Move) (old new : Inside) → AreMoved m old new → flown new ≡ flown old
moved_count move.Nothing old new moved = stayed_count old.flights old.flights.future new.objects.departed new.flights moved
moved_count (move.Discard h) old new moved =
    ap (λ (s : Future). length s.flights) moved.left ∙ ap length (fewer_kept moved.discarded new.objects.departed).0
    ∙ discarded_count h old.flights.future moved.discarded (flight_of old.flights.future h) moved.is
moved_count (move.Unmap h number) old new moved =
    stayed_count old.flights (loan_ended old.flights.future h moved.channel) new.objects.departed new.flights moved.flights
    ∙ ap length (unmapped_count old.flights.future moved.channel (shown_by old.flights.future h))

begun_count : (f : ℕ) (old new : Inside) → HasBegun f old new → flown new ≡ flown old + 1
begun_count f old new has =
    let t = has.takeoff in
    stayed_count (with_takeoff t old.flights) (with_takeoff t old.flights).future new.objects.departed new.flights has.begins
    ∙ length-append old.flights.future.flights (begun t.cargo.ticket t.cargo.frame t.channels t.claims t.seat ∷ [])

mapped_count : (h : ℕ) (channel : Channel) (loan : Mapped) (old new : Inside) → HasMapped h channel loan old new → flown new ≡ flown old
mapped_count h channel loan old new has =
    stayed_count has.flights has.flights.future new.objects.departed new.flights has.left
    ∙ ap (λ (b : Books Load). length b.future.flights) has.lent.flights

-- a call begins as many flights as its reply says
counted : (call : Call) (r : Reply) (out : Option Mapped) (old new : Inside) → IsMoved call r out old new → flown new ≡ flown old + begun_by call r
counted (RenderFrame f) reply.Done out old new moved = begun_count f old new moved
counted (RenderFrame f) r out old new moved =
    none_more (flown new) (flown old) (stayed_count old.flights old.flights.future new.objects.departed new.flights moved)
counted (MapFrame h channel) r (Some loan) old new moved = none_more (flown new) (flown old) (mapped_count h channel loan old new moved)
counted (MapFrame h channel) r None old new moved =
    none_more (flown new) (flown old) (stayed_count old.flights old.flights.future new.objects.departed new.flights moved)
counted call r out old new moved = none_more (flown new) (flown old) (moved_count (move_of call r) old new moved)

begun_entered : (past : Past) (call : Call) (r : Reply) → begun_by (entered past call) r ≡ begun_by call r
unfolding entered
begun_entered past (UnmapArray h number bytes) r = refl
begun_entered past (UnmapParameterArray h name number bytes) r = refl
begun_entered past call r = refl

-- also as it was made
pub flights_made : (past : Past) (call : Call) (r : Reply) (out : Option Mapped) (old new : Inside) → IsMoved (entered past call) r out old new
    → flown new ≡ flown old + begun_by call r
flights_made past call r out old new moved =
    counted (entered past call) r out old new moved ∙ ap (λ n. flown old + n) (begun_entered past call r)

-- a render that is done takes the place of its note with it
pub room_rendered : (f : ℕ) (r : Reply) (a b : ℕ) → a ≤ b → (r ≡ reply.Done → a + 1 ≤ b) → a + begun_by (RenderFrame f) r ≤ b
room_rendered f reply.Done a b less more = more refl
room_rendered f r a b less more = no_less a b less

pub room_plain : (call : Call) (r : Reply) (a b : ℕ) → tells_of_flights call ≡ false → a ≤ b → a + begun_by call r ≤ b
room_plain (RenderFrame h) r a b quiet less = absurd cc
room_plain call r a b quiet less = no_less a b less
