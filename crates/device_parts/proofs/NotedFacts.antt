-- What always holds of the parts of a device holds once a flight that ended is noted.
use Rattle.std.proofs.Common.{◌≡◌, ◌∙◌, ℕ, ◌+◌, ◌<◌, ◌==◌, ◌||◌, Bool, true, false, List, [], ◌∷◌, ◌++◌, Option, Some, None, map, refl, sym, ap, ap₂, subst, arith}
use Rattle.std.specs.List.{AllByRecursion, filter_map}
use Rattle.std.specs.Map.{keys_of}
use Rattle.std.specs.Option.{option_and_then, option_map_or, unwrap_or}
use Rattle.std.proofs.Common.{length, length-append, ◌≤◌}
use Rattle.dev_types.specs.Counting.{times}
use Rattle.flight_books.specs.Kept.{AreBooks, cargo_at, is_of, without}
use Rattle.flight_books.specs.Sweeps.{note}
use Rattle.flight_books.proofs.SweepLaws.{fewer}
use Rattle.flight_books.specs.declared.kept.Cargo.{Cargo}
use Rattle.flight_books.proofs.CargoLaws.{apart}
use Rattle.frame_future.specs.Flights.{Flying}
use Rattle.frame_future.specs.Future.{Future, Rising}
use Rattle.frame_future.specs.Reads.{AreSeen}
use Rattle.frame_future.specs.declared.phase.Ended.{Ended}
use Rattle.object_store.specs.Kept.{CountsItsObjects, number_at}
use Rattle.object_store.specs.Ends.{notice_of}
use Rattle.object_store.specs.Gathers.{IsLeft, buried}
use Rattle.object_steps.specs.Resting.{Follows}
use Rattle.seq_model.specs.Histories.{History, frame_at, rendered}
use Rattle.seq_model.specs.Legal.{Legal, reading}
use Rattle.seq_model.specs.Life.{has}
use Rattle.seq_model.specs.Steps.{after, change, next_place}
use Rattle.seq_model.specs.declared.calls.Entry.TheVariants.{Closed}
use Rattle.seq_model.specs.State.{Empty, Object, State, object_at}
use Rattle.seq_model.specs.Builds.{is_touching}
use Rattle.past_laws.specs.Worlds.{world_of}
use Rattle.device_laws.specs.Flown.{Flown, IsNoted, IsRun, LetsNotes, Run, note_of_run, runs_of, tickets_in}
use Rattle.device_laws.proofs.SweepFacts.{one_noted, tickets_of_runs}
use Rattle.device_laws.proofs.StandingFacts.{found}
use Rattle.device_parts.specs.AllParts.{AreAboard, AreParts, Inside, IsLoaded}
use Rattle.device_laws.specs.Over.{AllOver}
use Rattle.device_laws.specs.FramesStand.{FramesStand, without_pictures}
use Rattle.device_laws.specs.Replies.{AreTold}
use Rattle.device_laws.proofs.FramesStandFacts.{fewer_kept}
use Rattle.device_laws.proofs.NoteFacts.{note_kept}
use Rattle.device_laws.proofs.ReplyFacts.{quiet_told, seen_told}
use Rattle.device_parts.specs.Standing.{IsStanding}
use Rattle.device_parts.proofs.AboardFacts.{aboard_some}
use Rattle.device_parts.proofs.EntryFacts.{leaves, others_loaded, parts_after, same_builds}
use Rattle.kept_worlds.proofs.LastFacts.{stay_known}
use Rattle.device_parts.specs.declared.loads.Load.{Load}
use Rattle.device_parts.proofs.FollowFacts.{noted_follows, once, was_held}
use Rattle.device_parts.specs.Ends.{IsOwn}
use Rattle.device_laws.proofs.FlownFacts.{middle, own_flight}
use Rattle.device_laws.specs.Showings.{is_flight, nothing_shown, showing_at, showing_of}
use Rattle.device_parts.specs.Deaths.{all_but_those, unless_dead, untold}
use Rattle.device_parts.specs.Holds.{held_less, with_holds}
use Rattle.kept_worlds.specs.KeptMaps.{kept_at, reach_at}
use Rattle.kept_worlds.specs.LastKept.{AreKept, is_there}
use Rattle.object_steps.proofs.Rested.{ends_told}
use Rattle.object_steps.specs.Objects.{Objects, tellable, with_state}
use Rattle.seq_model.specs.Told.{end_of_object, gone, status_at, told_by}
use Rattle.device_laws.proofs.NoteFacts.{IsWithout}
use Rattle.device_parts.proofs.SeenFacts.{IsOver, one_seen}
use Rattle.device_parts.proofs.TellFacts.{noted_tellable}
use Rattle.object_steps.proofs.Tellables.{fewer_told}

none_above : (t : ℕ) (ts : List ℕ) → AllByRecursion (λ u. t < u) ts → has t ts ≡ false
none_above t [] all = refl
none_above t (u ∷ ts) all = ap₂ (λ a b. a || b) (apart_back u t all.0) (none_above t ts all.1)
  where
    apart_back : (u t : ℕ) → t < u → (u == t) ≡ false
    apart_back u t less = grind (arith, less)

all_middle : (P : ℕ → Type 0) (before : List Run) (r : Run) (behind : List Run) → AllByRecursion P (tickets_in (before ++ r ∷ behind)) → P r.ticket × AllByRecursion P (tickets_in (before ++ behind))
all_middle P [] r behind all = (all.0, all.1)
all_middle P (b ∷ before) r behind all = let rest = all_middle P before r behind all.1 in (rest.0, (all.0, rest.1))

-- where tickets rise, each stands once
once_there : (before : List Run) (r : Run) (behind : List Run) → Rising (tickets_in (before ++ r ∷ behind)) → has r.ticket (tickets_in (before ++ behind)) ≡ false
once_there [] r behind rising = none_above r.ticket (tickets_in behind) rising.0
once_there (b ∷ before) r behind rising =
    ap₂ (λ x y. x || y) (apart b.ticket r.ticket (all_middle (λ u. b.ticket < u) before r behind rising.0).0) (once_there before r behind rising.1)

-- the note of the run that ended is that of the end
same_note : (r : Run) (e : Ended) → r.ticket ≡ e.ticket → r.stopped ≡ e.left → note_of_run r ≡ note e.left e.ticket
same_note r e ticket stopped = ap₂ note stopped ticket

module _ (history : History) (flights left : List Flying) (legal : Legal history) (lets : LetsNotes history) (flown : Flown history (runs_of flights)) (rising : Rising (map (λ f. f.ticket) flights))
    (e : Ended) (run : Run) (w : IsWithout (runs_of flights) (runs_of left) run) (ticket : run.ticket ≡ e.ticket) (stopped : run.stopped ≡ e.left) where
  -- the flights that are left are those of the history with the note
  pub end_noted : IsNoted (history ++ note e.left e.ticket ∷ []) (runs_of left)
  end_noted =
      let once : has run.ticket (tickets_in (w.before ++ w.behind)) ≡ false =
      once_there w.before run w.behind (subst Rising (sym (tickets_of_runs flights) ∙ ap tickets_in w.there) rising) in
      let noted = one_noted history w.before run w.behind legal lets once (subst (Flown history) w.there flown) in
      subst (λ n. IsNoted (history ++ n ∷ []) (runs_of left)) (same_note run e ticket stopped) (subst (IsNoted (history ++ note_of_run run ∷ [])) (sym w.rest) noted)

quiet : (stopped : Bool) (t : ℕ) → rendered (note stopped t) ≡ None
quiet true t = refl
quiet false t = refl

untouched : (stopped : Bool) (t : ℕ) (objects : List ℕ) → is_touching objects (note stopped t) ≡ false
untouched true t objects = refl
untouched false t objects = refl

-- a flight of parts of which all holds is over, with what was kept with it
pub record IsEnding (old : Inside) (e : Ended) (c : Cargo Load) (left : List Flying) : Type 0 where
  pub parts : AreParts old
  pub rising : Rising (map (λ f. f.ticket) old.flights.future.flights)
  pub over : IsOver old.flights left e c
  pub there : cargo_at old.flights.cargo e.ticket ≡ Some c
  pub fewer : length left + 1 ≡ length old.flights.future.flights
  pub aboard : AreAboard left (without e.ticket old.flights.cargo)

pub ending : (old : Inside) (last : ℕ) (frames looked : Future) (e : Ended) (c : Cargo Load) → AreParts old → frames ≡ old.flights.future → Rising (map (λ f. f.ticket) frames.flights) → AreBooks old.flights
    → AreSeen last old.flights.future looked (Some e) → cargo_at old.flights.cargo e.ticket ≡ Some c → IsEnding old e c looked.flights
ending old last frames looked e c parts is rising books seen there = record {
  parts = parts;
  rising = subst (λ (s : Future). Rising (map (λ f. f.ticket) s.flights)) is rising;
  aboard = aboard_some last old.flights looked (subst (λ (s : Future). Rising (map (λ f. f.ticket) s.flights)) is rising) books parts.aboard e seen;
  over = one_seen last old.flights looked e c books seen there;
  there = there;
  fewer = fewer last old.flights.future looked e seen;
}

module _ (old : Inside) (e : Ended) (c : Cargo Load) (left : List Flying) (x : IsEnding old e c left) where
  pub noted : IsNoted (old.history ++ note e.left e.ticket ∷ []) (runs_of left)
  noted = end_noted old.history old.flights.future.flights left x.parts.rest.legal x.parts.lets x.parts.flown x.rising e x.over.run x.over.without x.over.ticket x.over.stopped

  pub reached : (h : ℕ) → times h c.kept.reach.items ≡ once old.history e.ticket h
  reached h = (found (IsLoaded old.history) (is_of e.ticket) old.flights.cargo c x.parts.loaded x.there).0.reach h ∙ ap (λ t. once old.history t h) x.over.cargo

  -- it holds what it reached
  pub holds_it : (h : ℕ) → times h c.kept.reach.items ≤ number_at old.objects.stored.holds h
  holds_it = was_held old.objects.stored old.history e.left e.ticket c.kept.reach.items x.parts.rest noted.legal reached

  -- and no frame but its own is in flight with its ticket
  pub own_frame : IsOwn old.objects.stored.state e.ticket c.frame
  own_frame k flies =
      let mine : frame_at old.history e.ticket ≡ Some k = own_flight old.history e.ticket k (sym (shown_phase (object_at (after old.history).state k))
      ∙ ap (λ (s : State). is_flight e.ticket (showing_at s k).phase) (sym x.parts.rest.state) ∙ flies) in
      let runs : IsRun old.history x.over.run =
      middle (IsRun old.history) x.over.without.before x.over.run x.over.without.behind (subst (AllByRecursion (IsRun old.history)) x.over.without.there x.parts.flown.each) in
      some_is (sym mine ∙ ap (frame_at old.history) (sym x.over.ticket) ∙ runs.frame) ∙ x.over.frame
    where
      shown_phase : (o : Option Object) → is_flight e.ticket (option_map_or showing_of o nothing_shown).phase ≡ is_flight e.ticket (option_map_or (λ o. o.phase) o Empty)
      shown_phase None = refl
      shown_phase (Some o) = refl

      some_is : {k f : ℕ} → Some k ≡ Some f → k ≡ f
      some_is {k} same = ap (λ o. unwrap_or o k) same

  -- the objects once its end is noted, and it holds nothing any more
  abbrev pub moved : Objects
  moved = with_holds (with_state old.objects (change (next_place (after old.history)) (note e.left e.ticket) old.objects.stored.state))
      (held_less c.kept.reach.items old.objects.stored.holds)

  -- are one entry further
  pub follows : Follows moved.stored old.history (note e.left e.ticket)
  follows = noted_follows old.objects.stored old.history e.left e.ticket c.kept.reach.items x.parts.rest noted.legal reached

no_close : (stopped : Bool) (t : ℕ) → note stopped t ≡ Closed → ⊥
no_close true t same = absurd cc
no_close false t same = absurd cc

no_status : (stopped : Bool) (t : ℕ) → status_at (note stopped t) ≡ []
no_status true t = refl
no_status false t = refl

-- all that holds of the parts holds once the end of a flight is noted, and what nothing holds any more is gone
module _ (old new : Inside) (e : Ended) (c : Cargo Load) (left : List Flying) (x : IsEnding old e c left)
    (counted_moved : CountsItsObjects (moved old e c left x).stored) (counted : CountsItsObjects new.objects.stored)
    (is_left : IsLeft (moved old e c left x).stored new.objects.stored) (is_buried : new.objects.stored.state ≡ buried (moved old e c left x).stored)
    (departed : new.objects.departed ≡ keys_of (gone (moved old e c left x).stored.state new.objects.stored.state))
    (grown : new.history ≡ old.history ++ note e.left e.ticket ∷ []) (flights : new.flights.future.flights ≡ left) (cargo : new.flights.cargo ≡ without e.ticket old.flights.cargo)
    (all_over : AllOver (old.history ++ note e.left e.ticket ∷ []) new.flights.over)
    (forgotten : (w : ℕ) → kept_at new.worlds w ≡ unless_dead new.objects.departed w (kept_at old.worlds w))
    (known : (history : History) (there : ℕ → Bool) → AreKept there history (reach_at old.worlds) → AreKept (all_but_those new.objects.departed there) history (reach_at new.worlds))
    (same : new.builds ≡ old.builds) (room : new.room ≡ old.room) where
  ends : IsNoted (old.history ++ note e.left e.ticket ∷ []) (runs_of left)
  ends = noted old e c left x

  pub noted_parts : AreParts new
  noted_parts = parts_after old new (note e.left e.ticket) (moved old e c left x).stored old.worlds x.parts (no_close e.left e.ticket)
      (follows old e c left x) counted_moved counted is_left is_buried departed grown
      (subst (λ fs. Flown (old.history ++ note e.left e.ticket ∷ []) (runs_of fs)) (sym flights) ends.flown)
      (subst (AllByRecursion (IsLoaded (old.history ++ note e.left e.ticket ∷ []))) (sym cargo)
      (others_loaded old.history (note e.left e.ticket) e.ticket old.flights.cargo x.parts.loaded))
      (subst (λ fs. AreAboard fs new.flights.cargo) (sym flights) (subst (AreAboard left) (sym cargo) x.aboard))
      all_over ends.lets
      (stay_known old.history (note e.left e.ticket) (is_there old.history) (reach_at old.worlds) (ap (option_and_then (world_of (after old.history).state)) (quiet e.left e.ticket))
      (untouched e.left e.ticket) x.parts.kept)
      x.parts.shown forgotten known
      (same ∙ x.parts.built ∙ sym (same_builds old.history (note e.left e.ticket) (quiet e.left e.ticket)))
      (let was = x.parts.places in let longer = ap length grown ∙ length-append old.history (note e.left e.ticket ∷ []) in let less = ap length flights in
      let one = x.fewer in
      omega (arith, was, longer, less, one, room))
      (let had = x.parts.stops in let less = ap length flights in let one = x.fewer in let left_places = is_left.places in
      omega (arith, had, less, one, left_places))

  -- who died is told, and nobody else
  pub noted_told : filter_map notice_of new.objects.dead ≡ filter_map end_of_object (gone (moved old e c left x).stored.state new.objects.stored.state)
      → filter_map notice_of new.objects.dead ≡ told_by (after old.history) (note e.left e.ticket)
  noted_told notices = notices ∙ sym (ends_told old.history (note e.left e.ticket) (moved old e c left x).stored (follows old e c left x) new.objects.stored.state is_buried (no_close e.left e.ticket)
      ∙ ap (λ status. status ++ filter_map end_of_object (gone (moved old e c left x).stored.state new.objects.stored.state)) (no_status e.left e.ticket))

  -- with those that are left there are no more to be told than before
  pub noted_fewer : filter_map notice_of new.objects.dead ≡ filter_map end_of_object (gone (moved old e c left x).stored.state new.objects.stored.state)
      → tellable new.objects.stored.state + untold new.objects ≡ tellable old.objects.stored.state
  noted_fewer notices =
      let parts = fewer_told (moved old e c left x).stored new.objects.stored is_left in
      let dead = ap length notices in
      let same_ = noted_tellable (next_place (after old.history)) e.left e.ticket old.objects.stored.state in
      omega (arith, parts, dead, same_)

  -- and the frames stand on
  pub noted_stands : (last : ℕ) (looked : Future) → AreSeen last old.flights.future looked (Some e) → new.flights.future ≡ without_pictures looked new.objects.departed
      → IsStanding old → IsStanding new
  noted_stands last looked seen frames stands = record {
    frames = subst (λ h. FramesStand h new.flights.future) (sym grown) (subst (FramesStand (old.history ++ note e.left e.ticket ∷ [])) (sym frames)
        (note_kept old.history last old.flights.future looked e new.objects.departed x.parts.rest.legal x.rising x.parts.flown seen
        (leaves old.history (note e.left e.ticket) (moved old e c left x).stored new.objects.stored new.objects.departed (no_close e.left e.ticket) (follows old e c left x)
        counted_moved counted is_left is_buried departed) stands.frames));
    told = subst (λ h. AreTold h new.flights.future.flights) (sym grown)
        (subst (AreTold (old.history ++ note e.left e.ticket ∷ [])) (sym (ap (λ (s : Future). s.flights) frames ∙ (fewer_kept looked new.objects.departed).0))
        (quiet_told old.history (note e.left e.ticket) looked.flights (reads_nothing e.left e.ticket) (seen_told old.history last old.flights.future looked (Some e) seen stands.told)));
  }
    where
      reads_nothing : (stopped : Bool) (t : ℕ) → reading (after old.history) (note stopped t) ≡ None
      reads_nothing true t = refl
      reads_nothing false t = refl
