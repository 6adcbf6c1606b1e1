-- What always holds of the parts of a device holds once a render is entered, and its flight began.
use Rattle.std.proofs.Common.{◌≡◌, ◌∙◌, ℕ, ◌+◌, ◌≤◌, ◌<◌, ◌^◌, All, Bool, true, false, List, [], ◌∷◌, ◌++◌, Option, Some, None, cond, length, length-append, refl, sym, ap, subst, arith}
use Rattle.std.specs.Prelude.{IfSome, IsSome}
use Rattle.std.specs.List.{AllByRecursion, filter_map, find}
use Rattle.std.specs.Map.{keys_of}
use Rattle.std.specs.Option.{MatchOption, is_none, is_some, option_and_then, option_map, option_map_or, unwrap_or}
use Rattle.std.proofs.lemmas.Bool.{eq-eqb, ne_eqb}
use Rattle.dev_types.specs.Counting.{times}
use Rattle.dev_types.specs.Words.{name_of_channel}
use Rattle.dev_types.specs.declared.handles.Channel.{Channel}
use Rattle.flight_books.specs.Kept.{Books, cargo_at, is_of, with_future}
use Rattle.flight_books.specs.declared.kept.Cargo.{Cargo}
use Rattle.frame_future.specs.Flights.{Flying, begun, is_stopped}
use Rattle.frame_future.specs.Future.{with_flight}
use Rattle.fx_math.specs.declared.scene.Scene.{Scene}
use Rattle.kept_worlds.specs.KeptMaps.{Kept, Worlds, kept_at, reach_at, shown_at}
use Rattle.kept_worlds.specs.LastKept.{AreKept, AreShown, is_there}
use Rattle.kind_tables.specs.SceneObjects.{SceneObject, SceneObjects, value_named}
use Rattle.kind_tables.specs.Scenes.{scene}
use Rattle.kind_tables.specs.Walks.{Spot, visited, walk}
use Rattle.kind_tables.specs.declared.kinds.Kind.TheVariants.{FrameDefault}
use Rattle.object_store.specs.Ends.{notice_of}
use Rattle.object_store.specs.Gathers.{IsLeft, buried}
use Rattle.object_store.proofs.DeadSteps.{has_key}
use Rattle.object_store.specs.Kept.{CountsItsObjects, Stored, number_at}
use Rattle.object_steps.specs.Objects.{Objects, with_places, with_state}
use Rattle.object_steps.specs.Resting.{Follows}
use Rattle.object_steps.proofs.Rested.{ends_told}
use Rattle.object_steps.proofs.Tellables.{fewer_told, plain_tellable}
use Rattle.past_laws.specs.Prepared.{asks_for}
use Rattle.past_laws.specs.Worlds.{render_of}
use Rattle.picture_model.specs.Limits.{IsSceneWithin}
use Rattle.scene_read.specs.Starts.{all_seen}
use Rattle.seq_model.proofs.Changes.{keys_of_changed}
use Rattle.seq_model.proofs.Keys.{at_map}
use Rattle.seq_model.specs.Builds.{builds}
use Rattle.seq_model.specs.Histories.{History}
use Rattle.seq_model.specs.Legal.{Legal}
use Rattle.seq_model.specs.Life.{has}
use Rattle.seq_model.specs.Pictures.{scene_at}
use Rattle.seq_model.specs.State.{Flight, Object, changed_at, object_at, scene_object, scene_objects}
use Rattle.seq_model.specs.Steps.{after, set_phase}
use Rattle.seq_model.specs.Told.{end_of_object, gone, status_at}
use Rattle.seq_model.specs.declared.calls.Call.TheVariants.{RenderFrame}
use Rattle.seq_model.specs.declared.calls.Entry.TheVariants.{Closed}
use Rattle.seq_model.specs.declared.calls.Reply.TheVariants as reply
use Rattle.tile_claims.specs.Parts.{scene_of}
use Rattle.tile_claims.specs.Seats.{key_of}
use Rattle.world_laws.specs.Alike.{shown_of}
use Rattle.world_snapshot.specs.Worlds.{World}
use Rattle.device_laws.proofs.CallFacts.{render_kept}
use Rattle.device_laws.proofs.FlownFacts.{joined, render_adds}
use Rattle.device_laws.proofs.FramesStandFacts.{fewer_kept}
use Rattle.device_laws.specs.Over.{AllOver}
use Rattle.device_laws.specs.Replies.{AreTold}
use Rattle.device_laws.proofs.ReplyFacts.{begun_told, quiet_told}
use Rattle.device_laws.proofs.OverFacts.{others_over}
use Rattle.device_laws.specs.Flown.{Flown, run_of, runs_of}
use Rattle.device_laws.specs.FramesStand.{FramesStand, LeavesBut, without_pictures}
use Rattle.device_parts.proofs.AboardFacts.{aboard_push}
use Rattle.device_parts.proofs.BeginFacts.{moved, not_refused, render_follows}
use Rattle.device_parts.proofs.CalledFacts.{called_lets}
use Rattle.device_parts.proofs.EntryFacts.{all_loaded, leaves, parts_after}
use Rattle.device_parts.proofs.RenderSteps.{reach_is_there, render_counted, render_granted, render_loaded}
use Rattle.device_parts.specs.AllParts.{AreAboard, AreParts, Inside, IsLoaded, scene_of_load, shown_by}
use Rattle.device_parts.specs.Begins.{HasBegun, IsTakeoff, asks_in, with_takeoff}
use Rattle.device_parts.specs.Calls.{HasEntered}
use Rattle.device_parts.specs.Deaths.{all_but_those, unless_dead}
use Rattle.device_parts.specs.Holds.{held_too, with_holds}
use Rattle.device_parts.specs.Renders.{AreCurrent, HasEachOnce, IsGranted, IsWanted, wants_build}
use Rattle.device_parts.specs.Standing.{IsStanding}
use Rattle.device_parts.specs.declared.begins.Takeoff.{Takeoff}
use Rattle.device_parts.specs.declared.loads.Load.{Load}
use Rattle.device_parts.specs.declared.renders.Build.{Build}

-- what is kept of worlds, said again where each is kept as before
pub same_kept : (old : Inside) (worlds : Worlds World) → AreParts old → ((w : ℕ) → kept_at worlds w ≡ kept_at old.worlds w) → AreParts (record old { worlds = worlds })
same_kept old worlds p same = record {
  rest = p.rest;
  flown = p.flown;
  loaded = p.loaded;
  aboard = p.aboard;
  lets = p.lets;
  kept = λ w. ap (option_map (λ k. k.reach)) (same w) ∙ p.kept w;
  shown = λ w. subst (λ x. MatchOption (option_map (λ k. shown_by k.value) x) (Unit {0}) (λ shown. shown ≡ shown_of (scene_objects (after old.history).state) w)) (sym (same w)) (p.shown w);
  built = p.built;
  over = p.over;
  places = p.places;
  stops = p.stops;
}

-- a world that is prepared was not kept
pub build_unkept : (objects : SceneObjects) (worlds : Worlds World) (f : ℕ) (build : Option Build) → IsWanted objects worlds f build → IfSome build (λ b. kept_at worlds b.world ≡ None)
build_unkept objects worlds f None wanted = tt
build_unkept objects worlds f (Some b) wanted = none (kept_at worlds b.world) (sym (ap (λ x. option_map_or (λ w. is_none (kept_at worlds w)) x false) wanted.build_is.world) ∙ sym wanted.exactly)
  where
    none : (x : Option (Kept World)) → is_none x ≡ true → x ≡ None
    none None is = refl
    none (Some k) is = absurd cc

-- what is kept with the last flight is found by its ticket
pub last_cargo : (history : History) (cs : List (Cargo Load)) (c : Cargo Load) → AllByRecursion (IsLoaded history) cs → c.ticket ≡ length history + 1 → cargo_at (cs ++ c ∷ []) (length history + 1) ≡ Some c
last_cargo history [] c all is = ap (λ b. cond b (Some c) None) (eq-eqb c.ticket (length history + 1) is)
last_cargo history (x ∷ cs) c all is =
    ap (λ b. cond b (Some x) (find (is_of (length history + 1)) (cs ++ c ∷ []))) (ne_eqb x.ticket (length history + 1) (apart all.0.early))
    ∙ last_cargo history cs c all.1 is
  where
    apart : x.ticket ≤ length history → x.ticket ≡ length history + 1 → ⊥
    apart early same = omega (arith, early, same)

module _ (old : Inside) (actor f : ℕ) (p : AreParts old) (legal : Legal (old.history ++ render_of actor f ∷ [])) where
  abbrev objects : SceneObjects
  objects = scene_objects old.objects.stored.state

  same_objects : objects ≡ scene_objects (after old.history).state
  same_objects = ap scene_objects p.rest.state

  pub granted_now : (visits : List (Spot × ℕ)) → all_seen objects visits ≡ walk objects f → IsGranted objects f visits
  granted_now visits seen =
      subst (λ o. IsGranted o f visits) (sym same_objects)
      (render_granted old.history f visits p.rest.legal (not_refused old.history actor f legal) (subst (λ o. all_seen o visits ≡ walk o f) same_objects seen))

  pub current_now : AreCurrent objects old.worlds
  current_now = subst (λ o. AreCurrent o old.worlds) (sym same_objects) p.shown

  -- the frame is there
  pub frame_there : (visits : List (Spot × ℕ)) → all_seen objects visits ≡ walk objects f → IsSome (object_at old.objects.stored.state f)
  frame_there visits seen =
      by (object_at old.objects.stored.state f)
      (sym (ap (option_map (λ (o : SceneObject). o.kind)) (at_map scene_object f old.objects.stored.state.objects)) ∙ (granted_now visits seen).frame)
    where
      by : (o : Option Object) → option_map (λ (o : SceneObject). o.kind) (option_map scene_object o) ≡ Some FrameDefault → IsSome o
      by None is = absurd cc
      by (Some o) is = refl

  module _ (counted_old : CountsItsObjects old.objects.stored) (load : Load) (t : Takeoff) (takes : IsTakeoff objects (length old.history + 1) f load t)
      (once : HasEachOnce (visited (walk objects f)) load.reach.items) (shows_scene : scene_of_load load ≡ Some (scene objects f)) (within : IsSceneWithin (scene objects f)) where
    pub once_after : HasEachOnce (visited (walk (scene_objects (after old.history).state) f)) load.reach.items
    once_after = subst (λ o. HasEachOnce (visited (walk o f)) load.reach.items) same_objects once

    scene_after : scene_of_load load ≡ Some (scene (scene_objects (after old.history).state) f)
    scene_after = shows_scene ∙ ap (λ o. Some (scene o f)) same_objects

    -- the scene of the claims with which the flight begins
    claimed_scene : scene_of (key_of t.claims) ≡ scene (scene_objects (after old.history).state) f
    claimed_scene = some_is (sym takes.scene ∙ scene_after)
      where
        some_is : {a b : Scene} → Some a ≡ Some b → a ≡ b
        some_is {a} same = ap (λ o. unwrap_or o a) same

    pub reach_there : (h : ℕ) → 0 < times h load.reach.items → IsSome (object_at old.objects.stored.state h)
    reach_there = reach_is_there old.objects.stored.state f load.reach.items once

    pub found_load : cargo_at (old.flights.cargo ++ t.cargo ∷ []) (length old.history + 1) ≡ Some t.cargo
    found_load = last_cargo old.history old.flights.cargo t.cargo p.loaded (ap (λ (c : Cargo Load). c.ticket) takes.cargo)

    abbrev pub moved_now : Stored
    moved_now = moved old.objects.stored old.history actor f load.reach.items p.rest counted_old legal once_after reach_there

    pub follows_now : Follows moved_now old.history (render_of actor f)
    follows_now = render_follows old.objects.stored old.history actor f load.reach.items p.rest counted_old legal once_after reach_there

    found_at : (place : ℕ) (cargo : List (Cargo Load)) → place ≡ length old.history + 1 → cargo ≡ old.flights.cargo ++ t.cargo ∷ [] →
        cargo_at cargo place ≡ Some (record { ticket = length old.history + 1; frame = f; kept = load })
    found_at place cargo here are = ap (λ cs. cargo_at cs place) are ∙ ap (cargo_at (old.flights.cargo ++ t.cargo ∷ [])) here ∙ found_load ∙ ap Some takes.cargo

    still_there : (g : Object → Object) (h : ℕ) → IsSome (object_at old.objects.stored.state h) → IsSome (object_at (changed_at f g old.objects.stored.state) h)
    still_there g h is =
        sym (has_key h (changed_at f g old.objects.stored.state).objects) ∙ ap (has h) (keys_of_changed f g old.objects.stored.state) ∙ has_key h old.objects.stored.state.objects ∙ is

    -- the flight that began is found, and all that it reached can be held
    pub reach_held : (place : ℕ) (cargo : List (Cargo Load)) (shown : Objects) → place ≡ length old.history + 1 → cargo ≡ old.flights.cargo ++ t.cargo ∷ [] →
        shown ≡ with_state old.objects (changed_at f (set_phase (Flight place)) old.objects.stored.state) →
        All (λ h. number_at old.objects.stored.holds h + length load.reach.items ≤ 2 ^ 40) load.reach.items →
        IsSome (cargo_at cargo place)
        × IfSome (cargo_at cargo place) (λ c. (h : ℕ) → 0 < times h c.kept.reach.items → IsSome (object_at shown.stored.state h))
        × IfSome (cargo_at cargo place) (λ c. All (λ h. number_at shown.stored.holds h + length c.kept.reach.items ≤ 2 ^ 40) c.kept.reach.items)
    reach_held place cargo shown here are shows few =
        let found = found_at place cargo here are in
        let there : (h : ℕ) → 0 < times h load.reach.items → IsSome (object_at shown.stored.state h) =
        λ h some. subst (λ (o : Objects). IsSome (object_at o.stored.state h)) (sym shows) (still_there (set_phase (Flight place)) h (reach_there h some)) in
        let held : All (λ h. number_at shown.stored.holds h + length load.reach.items ≤ 2 ^ 40) load.reach.items =
        subst (λ (o : Objects). All (λ h. number_at o.stored.holds h + length load.reach.items ≤ 2 ^ 40) load.reach.items) (sym shows) few in (
          ap is_some found,
          subst (λ x. IfSome x (λ c. (h : ℕ) → 0 < times h c.kept.reach.items → IsSome (object_at shown.stored.state h))) (sym found) there,
          subst (λ x. IfSome x (λ c. All (λ h. number_at shown.stored.holds h + length c.kept.reach.items ≤ 2 ^ 40) c.kept.reach.items)) (sym found) held,
        )

    -- then the frame shows its flight, which holds what it reached
    pub held_now : (place : ℕ) (cargo : List (Cargo Load)) (shown held : Objects) → place ≡ length old.history + 1 → cargo ≡ old.flights.cargo ++ t.cargo ∷ [] →
        shown ≡ with_state old.objects (changed_at f (set_phase (Flight place)) old.objects.stored.state) →
        IfSome (cargo_at cargo place) (λ c. held ≡ with_holds shown (held_too c.kept.reach.items shown.stored.holds)) → held ≡ record old.objects { stored = moved_now }
    held_now place cargo shown held here are shows is =
        subst (λ x. IfSome x (λ c. held ≡ with_holds shown (held_too c.kept.reach.items shown.stored.holds))) (found_at place cargo here are) is
        ∙ ap (λ o. with_holds o (held_too load.reach.items o.stored.holds)) (shows ∙ ap (λ n. with_state old.objects (changed_at f (set_phase (Flight n)) old.objects.stored.state)) here)

    abbrev flight : Flying
    flight = begun t.cargo.ticket t.cargo.frame t.channels t.claims t.seat

    no_close : render_of actor f ≡ Closed → ⊥
    no_close same = absurd cc

    module _ (new : Inside) (mid : Worlds World) (build : Bool) (counted_moved : CountsItsObjects moved_now) (counted : CountsItsObjects new.objects.stored)
        (is_left : IsLeft moved_now new.objects.stored) (is_buried : new.objects.stored.state ≡ buried moved_now)
        (departed : new.objects.departed ≡ keys_of (gone moved_now.state new.objects.stored.state))
        (grown : new.history ≡ old.history ++ render_of actor f ∷ [])
        (flights : new.flights ≡ with_future (with_takeoff t old.flights) (without_pictures (with_takeoff t old.flights).future new.objects.departed))
        (touched : AreKept (is_there old.history) (old.history ++ render_of actor f ∷ []) (reach_at mid))
        (shows : AreShown old.history (shown_at shown_by mid))
        (forgotten : (w : ℕ) → kept_at new.worlds w ≡ unless_dead new.objects.departed w (kept_at mid w))
        (known : (history : History) (there : ℕ → Bool) → AreKept there history (reach_at mid) → AreKept (all_but_those new.objects.departed there) history (reach_at new.worlds))
        (counts : new.builds ≡ old.builds + cond build 1 0) (wanted : build ≡ wants_build objects old.worlds f) (room : new.room ≡ old.room) where
      going : is_stopped flight ≡ false
      going = ap is_some takes.new.going

      ticket_is : t.cargo.ticket ≡ length old.history + 1
      ticket_is = ap (λ (c : Cargo Load). c.ticket) takes.cargo

      frame_is : t.cargo.frame ≡ f
      frame_is = ap (λ (c : Cargo Load). c.frame) takes.cargo

      frames_are : new.flights.future.flights ≡ old.flights.future.flights ++ flight ∷ []
      frames_are = ap (λ (b : Books Load). b.future.flights) flights ∙ (fewer_kept (with_flight old.flights.future flight) new.objects.departed).0

      runs_more : (fs : List Flying) → runs_of (fs ++ flight ∷ []) ≡ runs_of fs ++ run_of flight ∷ []
      runs_more [] = refl
      runs_more (g ∷ fs) = ap (λ rs. run_of g ∷ rs) (runs_more fs)

      run : run_of flight ≡ record { ticket = length old.history + 1; frame = f; stopped = false }
      run = λ i. record { ticket = ticket_is i; frame = frame_is i; stopped = going i }

      load_is : IsLoaded (old.history ++ render_of actor f ∷ []) t.cargo
      load_is = subst (IsLoaded (old.history ++ render_of actor f ∷ [])) (sym takes.cargo) (render_loaded old.history actor f load once_after scene_after (subst (λ o. IsSceneWithin (scene o f)) same_objects within))

      pub rendered_parts : IsStanding old → length old.history + length old.flights.future.flights + 2 < old.room
          → length old.flights.future.flights + 1 < old.objects.stored.places → AreParts new
      rendered_parts stands place stop_place = parts_after old new (render_of actor f) moved_now mid p no_close follows_now counted_moved counted is_left is_buried departed grown
          (subst (λ fs. Flown (old.history ++ render_of actor f ∷ []) (runs_of fs)) (sym frames_are)
          (subst (Flown (old.history ++ render_of actor f ∷ [])) (sym (runs_more old.flights.future.flights ∙ ap (λ r. runs_of old.flights.future.flights ++ r ∷ []) run))
          (render_adds old.history actor f (runs_of old.flights.future.flights) legal p.flown)))
          (subst (λ (b : Books Load). AllByRecursion (IsLoaded (old.history ++ render_of actor f ∷ [])) b.cargo) (sym flights)
          (joined (IsLoaded (old.history ++ render_of actor f ∷ [])) old.flights.cargo (t.cargo ∷ []) (all_loaded old.history (render_of actor f) old.flights.cargo p.loaded) (load_is, tt)))
          (subst (λ fs. AreAboard fs new.flights.cargo) (sym frames_are) (subst (λ (b : Books Load). AreAboard (old.flights.future.flights ++ flight ∷ []) b.cargo) (sym flights)
          (aboard_push old.flights.future.flights old.flights.cargo flight t.cargo (ap (λ (c : Cargo Load). scene_of_load c.kept) takes.cargo ∙ takes.scene) p.aboard)))
          (subst (λ (b : Books Load). AllOver (old.history ++ render_of actor f ∷ []) b.over) (sym flights) (others_over old.history (render_of actor f) old.flights.over legal refl p.over))
          (called_lets old.history actor (RenderFrame f) reply.Done stands.frames.open_) touched shows forgotten known
          (counts ∙ ap (λ n. n + cond build 1 0) p.built
          ∙ ap (λ b. builds old.history + cond b 1 0) (wanted ∙ ap (λ o. wants_build o old.worlds f) same_objects)
          ∙ sym (render_counted old.history actor f old.worlds p.rest.legal p.kept))
          (let longer = ap length grown ∙ length-append old.history (render_of actor f ∷ []) in
          let count = ap length frames_are ∙ length-append old.flights.future.flights (flight ∷ []) in
          omega (arith, place, longer, count, room))
          (let count = ap length frames_are ∙ length-append old.flights.future.flights (flight ∷ []) in
          let left = is_left.places in
          omega (arith, stop_place, count, left))

      asks_read : (c : Channel) → asks_in objects f c ≡ asks_for (after old.history).state f c
      asks_read c = ap (λ o. asks_in o f c) same_objects ∙ ap asks (at_map scene_object f (after old.history).state.objects) ∙ by (object_at (after old.history).state f)
        where
          asks : Option SceneObject → Bool
          asks o = is_some (option_and_then (λ o. value_named (name_of_channel c) o.committed) o)

          by : (o : Option Object) → asks (option_map scene_object o) ≡ is_some (option_and_then (λ o. value_named (name_of_channel c) o.committed) o)
          by None = refl
          by (Some o) = refl

      pub rendered_stands : IsStanding old → IsStanding new
      rendered_stands stands =
          let left : LeavesBut old.history (render_of actor f) new.objects.departed =
          leaves old.history (render_of actor f) moved_now new.objects.stored new.objects.departed no_close follows_now counted_moved counted is_left is_buried departed in
          let kept : FramesStand (old.history ++ render_of actor flight.frame ∷ []) (without_pictures (with_flight old.flights.future flight) new.objects.departed) =
          render_kept old.history actor old.flights.future flight new.objects.departed ticket_is going
          (claimed_scene ∙ ap (scene (scene_objects (after old.history).state)) (sym frame_is))
          (λ c. takes.asked c ∙ asks_read c ∙ ap (λ h. asks_for (after old.history).state h c) (sym frame_is))
          p.flown (subst (λ h. LeavesBut old.history (render_of actor h) new.objects.departed) (sym frame_is) left) stands.frames in
          record {
            frames = subst (λ h. FramesStand h new.flights.future) (sym grown)
                (subst (λ (b : Books Load). FramesStand (old.history ++ render_of actor f ∷ []) b.future) (sym flights)
                (subst (λ h. FramesStand (old.history ++ render_of actor h ∷ []) (without_pictures (with_flight old.flights.future flight) new.objects.departed)) frame_is kept));
            told = subst (λ h. AreTold h new.flights.future.flights) (sym grown)
                (subst (AreTold (old.history ++ render_of actor f ∷ [])) (sym frames_are)
                (quiet_told old.history (render_of actor f) (old.flights.future.flights ++ flight ∷ []) refl
                (begun_told old.history old.flights.future.flights flight ticket_is (let none : 0 ≤ flight.view.gives.last = omega arith in none) stands.told)));
          }

      pub rendered_enters : filter_map notice_of new.objects.dead ≡ filter_map end_of_object (gone moved_now.state new.objects.stored.state) → HasEntered actor (RenderFrame f) reply.Done old new
      rendered_enters notices = record {
        grown = grown;
        told = ap (λ ns. status_at (render_of actor f) ++ ns) notices ∙ sym (ends_told old.history (render_of actor f) moved_now follows_now new.objects.stored.state is_buried no_close);
        fewer = (let parts = fewer_told moved_now new.objects.stored is_left in let dead = ap length notices in
            let same = plain_tellable f (set_phase (Flight (length old.history + 1))) old.objects.stored.state (λ o. refl) in
            omega (arith, parts, dead, same));
        room = omega (arith, room);
      }

      pub rendered_begins : HasBegun f old new
      rendered_begins = record {
        takeoff = t;
        ticket = ticket_is;
        frame = frame_is;
        scene = subst (λ o. IfSome o (λ s. s ≡ scene_at (old.history ++ render_of actor f ∷ []) t.cargo.ticket)) (ap (λ (c : Cargo Load). scene_of_load c.kept) takes.cargo ∙ takes.scene) load_is.scene
            ∙ ap (scene_at (old.history ++ render_of actor f ∷ [])) ticket_is
            ∙ ap (λ h. scene_at h (length old.history + 1)) (sym grown);
        fresh = takes.new;
        unclaimed = takes.unclaimed;
        in_time = takes.in_time;
        sized = takes.sized;
        begins = flights;
      }

-- room that was made before a flight began changes nothing of it
pub begun_before : (f room places : ℕ) (old new : Inside) → HasBegun f (record old { objects = with_places old.objects places; room = room }) new → HasBegun f old new
begun_before f room places old new b = record {
  takeoff = b.takeoff;
  ticket = b.ticket;
  frame = b.frame;
  scene = b.scene;
  fresh = b.fresh;
  unclaimed = b.unclaimed;
  in_time = b.in_time;
  sized = b.sized;
  begins = b.begins;
}
