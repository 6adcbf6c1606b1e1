-- What always holds of the parts of a device holds once a call is entered that changes no frame.
use Rattle.std.proofs.Common.{◌≡◌, ◌∙◌, ℕ, ◌+◌, ◌<◌, ◌≤◌, Bool, true, false, List, [], ◌∷◌, ◌++◌, None, Some, length, length-append, refl, sym, ap, subst, arith}
use Rattle.std.specs.Prelude.{IsTrue}
use Rattle.std.specs.Option.{unwrap_or}
use Rattle.std.specs.List.{AllByRecursion, filter_map}
use Rattle.std.specs.Map.{keys_of}
use Rattle.flight_books.specs.Kept.{Books, with_future}
use Rattle.kept_worlds.specs.KeptMaps.{Worlds, kept_at, reach_at, shown_at}
use Rattle.kept_worlds.specs.LastKept.{AreKept, AreShown, is_there}
use Rattle.object_store.specs.Ends.{notice_of}
use Rattle.object_store.specs.Gathers.{IsLeft, buried}
use Rattle.object_store.specs.Kept.{CountsItsObjects, Stored}
use Rattle.object_steps.specs.Carrying.{CanCarry, carried}
use Rattle.object_steps.specs.Objects.{one_if, takes_memory, tellable}
use Rattle.object_steps.specs.Resting.{Follows, IsOfObjects}
use Rattle.object_steps.proofs.Rested.{ends_told, follows}
use Rattle.object_steps.proofs.Tellables.{fewer_told}
use Rattle.past_laws.specs.Open.{IsOpen}
use Rattle.past_laws.proofs.OpenFacts.{called_is_open, open_lets}
use Rattle.past_laws.specs.Worlds.{Touches}
use Rattle.seq_model.specs.Builds.{is_touching}
use Rattle.seq_model.specs.Life.{has}
use Rattle.seq_model.specs.Histories.{History, rendered}
use Rattle.seq_model.specs.Legal.{Legal}
use Rattle.seq_model.specs.Steps.{after}
use Rattle.seq_model.specs.Told.{end_of_object, gone, status_at}
use Rattle.seq_model.specs.declared.calls.Call.{Call}
use Rattle.seq_model.specs.declared.calls.Call.TheVariants.{Commit, RenderFrame, DiscardFrame, MapFrame, NewArray, NewObject, Release, Retain, UnmapArray, UnmapFrame, UnmapParameterArray}
use Rattle.seq_model.specs.declared.calls.Entry.TheVariants.{Called, Closed}
use Rattle.seq_model.specs.declared.calls.Reply.{Reply}
use Rattle.seq_model.specs.declared.calls.Reply.TheVariants as reply
use Rattle.device_laws.specs.FlightMoves.{moves_flights}
use Rattle.device_laws.specs.Flown.{Flown, LetsNotes, runs_of}
use Rattle.device_laws.specs.FramesStand.{FramesStand, LeavesBut, without_pictures}
use Rattle.device_laws.specs.Lent.{moves_channels}
use Rattle.device_laws.specs.Over.{AllOver}
use Rattle.device_laws.specs.Replies.{AreTold}
use Rattle.device_laws.proofs.OverFacts.{others_over}
use Rattle.device_laws.proofs.CallFacts.{call_kept}
use Rattle.device_laws.proofs.FlyFacts.{call_flown}
use Rattle.device_laws.proofs.FramesStandFacts.{fewer_kept}
use Rattle.world_snapshot.specs.Worlds.{World}
use Rattle.device_parts.specs.AllParts.{AreAboard, AreParts, Inside, IsLoaded, shown_by}
use Rattle.device_parts.specs.Calls.{HasEntered, touched_by}
use Rattle.device_parts.specs.Deaths.{all_but_those, unless_dead}
use Rattle.device_parts.specs.Standing.{IsStanding}
use Rattle.device_parts.specs.declared.loads.Load.{Load}
use Rattle.device_parts.proofs.AboardFacts.{aboard_count, same_aboard}
use Rattle.device_parts.proofs.EntryFacts.{all_loaded, leaves, parts_after, same_builds}

in_itself : (h k : ℕ) → k ≡ h → IsTrue (has k (h ∷ []))
in_itself h k same = subst (λ x. IsTrue (has x (h ∷ []))) (sym same) (is_true_if (has h (h ∷ [])) (here h))
  where
    here : (h : ℕ) → has h (h ∷ []) ≡ true
    here h = grind arith

    is_true_if : (b : Bool) → b ≡ true → IsTrue b
    is_true_if true is = refl
    is_true_if false is = absurd cc

-- a call that changes no frame begins, ends and stops no flight, and maps no channel
pub no_flight_moves : (actor : ℕ) (call : Call) (r : Reply) → IsOfObjects call r → moves_flights (Called actor call r) ≡ false
no_flight_moves actor (RenderFrame h) reply.Done objects = absurd objects
no_flight_moves actor (DiscardFrame h) reply.Done objects = absurd objects
no_flight_moves actor _ r objects = refl

pub no_channel_moves : (actor : ℕ) (call : Call) (r : Reply) → IsOfObjects call r → moves_channels (Called actor call r) ≡ false
no_channel_moves actor (MapFrame h channel) (reply.Mapped width height t rows) objects = absurd objects
no_channel_moves actor (UnmapFrame h number) reply.Done objects = absurd objects
no_channel_moves actor _ r objects = refl

pub no_render : (actor : ℕ) (call : Call) (r : Reply) → IsOfObjects call r → rendered (Called actor call r) ≡ None
no_render actor (RenderFrame h) reply.Done objects = absurd objects
no_render actor _ r objects = refl

-- a call touches what it touches by its reply, and nothing else
pub touches : (actor h : ℕ) (call : Call) (r : Reply) → touched_by call r ≡ Some h → Touches h (Called actor call r)
touches actor h (Commit k) reply.Done is = in_itself h k (some_is is)
  where
    some_is : {k h : ℕ} → Some k ≡ Some h → k ≡ h
    some_is {k} same = ap (λ o. unwrap_or o k) same
touches actor h (UnmapArray k number bytes) reply.Done is = in_itself h k (some_is is)
  where
    some_is : {k h : ℕ} → Some k ≡ Some h → k ≡ h
    some_is {k} same = ap (λ o. unwrap_or o k) same
touches actor h call r is = absurd cc

pub untouched : (actor : ℕ) (call : Call) (r : Reply) → touched_by call r ≡ None → (objects : List ℕ) → is_touching objects (Called actor call r) ≡ false
untouched actor (Commit h) reply.Done is objects = absurd cc
untouched actor (UnmapArray h number bytes) reply.Done is objects = absurd cc
untouched actor call r is objects = refl

-- a call that was carried out leaves as many places for stopped flights
carried_places : (place : ℕ) (call : Call) (r : Reply) (s : Stored) → (carried place call r s).places ≡ s.places
carried_places place (NewObject t subtype) (reply.Made h) s = refl
carried_places place (NewArray elem count stride origin bytes) (reply.Made h) s = refl
carried_places place (UnmapParameterArray h name number bytes) (reply.Made made) s = refl
carried_places place (Retain h) reply.Done s = refl
carried_places place (Release h) reply.Done s = refl
carried_places place call r s = refl

-- after a call on an open device notes may follow
pub called_lets : (history : History) (actor : ℕ) (call : Call) (r : Reply) → IsOpen history → LetsNotes (history ++ Called actor call r ∷ [])
called_lets history actor call r open_ note quiet =
    open_lets (history ++ Called actor call r ∷ []) note (called_is_open (record (after history) { seen = history }) open_ actor call r)

-- A call was carried out on the objects, and perhaps on the flights, of which there are as many as before; and what nothing holds any more is gone
module _ (old new : Inside) (actor : ℕ) (call : Call) (r : Reply) (moved : Stored) (mid : Worlds World) (p : AreParts old)
    (follows : Follows moved old.history (Called actor call r)) (quiet : rendered (Called actor call r) ≡ None)
    (more : tellable moved.state ≡ tellable old.objects.stored.state + one_if (takes_memory call r))
    (counted_moved : CountsItsObjects moved) (counted : CountsItsObjects new.objects.stored)
    (is_left : IsLeft moved new.objects.stored) (is_buried : new.objects.stored.state ≡ buried moved)
    (departed : new.objects.departed ≡ keys_of (gone moved.state new.objects.stored.state))
    (grown : new.history ≡ old.history ++ Called actor call r ∷ [])
    (flown : Flown (old.history ++ Called actor call r ∷ []) (runs_of new.flights.future.flights))
    (aboard : AreAboard new.flights.future.flights old.flights.cargo) (cargo : new.flights.cargo ≡ old.flights.cargo)
    (over : new.flights.over ≡ old.flights.over)
    (touched : AreKept (is_there old.history) (old.history ++ Called actor call r ∷ []) (reach_at mid))
    (shows : AreShown old.history (shown_at shown_by mid))
    (forgotten : (w : ℕ) → kept_at new.worlds w ≡ unless_dead new.objects.departed w (kept_at mid w))
    (known : (history : History) (there : ℕ → Bool) → AreKept there history (reach_at mid) → AreKept (all_but_those new.objects.departed there) history (reach_at new.worlds))
    (same : new.builds ≡ old.builds) (room : new.room ≡ old.room) where
  no_close : Called actor call r ≡ Closed → ⊥
  no_close is = absurd cc

  pub called_leaves : LeavesBut old.history (Called actor call r) new.objects.departed
  called_leaves = leaves old.history (Called actor call r) moved new.objects.stored new.objects.departed no_close follows counted_moved counted is_left is_buried departed

  pub called_parts : IsStanding old → length old.history + length old.flights.future.flights + 1 < old.room → old.objects.stored.places ≤ moved.places → AreParts new
  called_parts stands place more_places = parts_after old new (Called actor call r) moved mid p no_close follows counted_moved counted is_left is_buried departed grown flown
      (subst (AllByRecursion (IsLoaded (old.history ++ Called actor call r ∷ []))) (sym cargo) (all_loaded old.history (Called actor call r) old.flights.cargo p.loaded))
      (subst (AreAboard new.flights.future.flights) (sym cargo) aboard)
      (subst (AllOver (old.history ++ Called actor call r ∷ [])) (sym over) (others_over old.history (Called actor call r) old.flights.over follows.legal refl p.over))
      (called_lets old.history actor call r stands.frames.open_) touched shows forgotten known
      (same ∙ p.built ∙ sym (same_builds old.history (Called actor call r) quiet))
      (let longer = ap length grown ∙ length-append old.history (Called actor call r ∷ []) in
      let count = aboard_count new.flights.future.flights old.flights.cargo aboard in
      let was = aboard_count old.flights.future.flights old.flights.cargo p.aboard in
      omega (arith, place, longer, count, was, room))
      (let count = aboard_count new.flights.future.flights old.flights.cargo aboard in
      let was = aboard_count old.flights.future.flights old.flights.cargo p.aboard in
      let had = p.stops in
      let left = is_left.places in
      omega (arith, count, was, had, left, more_places))

  pub called_enters : filter_map notice_of new.objects.dead ≡ filter_map end_of_object (gone moved.state new.objects.stored.state) → HasEntered actor call r old new
  called_enters notices = record {
    grown = grown;
    told = ap (λ ns. status_at (Called actor call r) ++ ns) notices ∙ sym (ends_told old.history (Called actor call r) moved follows new.objects.stored.state is_buried no_close);
    fewer = (let parts = fewer_told moved new.objects.stored is_left in let dead = ap length notices in omega (arith, parts, dead, more));
    room = (let same_room = room in omega (arith, same_room));
  }

-- a call that changes no frame, and was carried out
module _ (old : Inside) (actor : ℕ) (call : Call) (r : Reply) (p : AreParts old) (objects : IsOfObjects call r) where
  abbrev pub moved : Stored
  moved = carried (length old.history + 1) call r old.objects.stored

  pub moved_places : old.objects.stored.places ≤ moved.places
  moved_places = let same = carried_places (length old.history + 1) call r old.objects.stored in omega (arith, same)

  pub moved_follows : CountsItsObjects old.objects.stored → CanCarry old.objects.stored call r → Legal (old.history ++ Called actor call r ∷ []) → Follows moved old.history (Called actor call r)
  moved_follows counted can legal = follows old.objects.stored old.history actor call r p.rest counted objects can legal

  pub moved_flown : (new : Inside) → Legal (old.history ++ Called actor call r ∷ []) → new.flights ≡ with_future old.flights (without_pictures old.flights.future new.objects.departed)
      → Flown (old.history ++ Called actor call r ∷ []) (runs_of new.flights.future.flights)
  moved_flown new legal flights = subst (λ (b : Books Load). Flown (old.history ++ Called actor call r ∷ []) (runs_of b.future.flights)) (sym flights)
      (call_flown old.history (Called actor call r) old.flights.future new.objects.departed legal (no_flight_moves actor call r objects) p.flown)

  pub moved_aboard : (new : Inside) → new.flights ≡ with_future old.flights (without_pictures old.flights.future new.objects.departed) → AreAboard new.flights.future.flights old.flights.cargo
  moved_aboard new flights = same_aboard old p new.flights.future.flights (ap (λ (b : Books Load). b.future.flights) flights ∙ (fewer_kept old.flights.future new.objects.departed).0)

  pub moved_stands : (new : Inside) → new.history ≡ old.history ++ Called actor call r ∷ [] → new.flights ≡ with_future old.flights (without_pictures old.flights.future new.objects.departed)
      → LeavesBut old.history (Called actor call r) new.objects.departed → AreTold (old.history ++ Called actor call r ∷ []) old.flights.future.flights → IsStanding old → IsStanding new
  moved_stands new grown flights left told stands = record {
    frames = subst (λ h. FramesStand h new.flights.future) (sym grown) (subst (λ (b : Books Load). FramesStand (old.history ++ Called actor call r ∷ []) b.future) (sym flights)
        (call_kept old.history actor call r old.flights.future new.objects.departed (no_flight_moves actor call r objects) (no_channel_moves actor call r objects) p.flown left stands.frames));
    told = subst (λ h. AreTold h new.flights.future.flights) (sym grown)
        (subst (AreTold (old.history ++ Called actor call r ∷ [])) (sym (ap (λ (b : Books Load). b.future.flights) flights ∙ (fewer_kept old.flights.future new.objects.departed).0)) told);
  }
